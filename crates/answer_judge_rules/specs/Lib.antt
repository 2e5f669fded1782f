pub mod Rules
pub mod Enclosers
pub mod Hashes
pub mod Hashing
