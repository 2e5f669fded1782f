pub mod Configured
pub mod Hashing
