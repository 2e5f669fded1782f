pub mod Digits
pub mod Skipped
