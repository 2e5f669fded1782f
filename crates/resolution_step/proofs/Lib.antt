pub mod Bound
pub mod Truly
pub mod Staying
pub mod Downward
pub mod Hashed
