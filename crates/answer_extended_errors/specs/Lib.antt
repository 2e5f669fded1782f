pub mod Codes
pub mod Extended
pub mod Groups
