pub mod Chained
pub mod Fits
