pub mod Chained
pub mod Differing
pub mod Walk
