pub mod Kept
pub mod Found
