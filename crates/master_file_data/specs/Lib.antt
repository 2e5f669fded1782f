pub mod Decimals
pub mod Fields
pub mod Layouts
pub mod Parts
pub mod Text
