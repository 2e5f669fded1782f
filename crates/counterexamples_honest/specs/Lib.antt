pub mod Premises
pub mod Quoted
pub mod Rows
pub mod World
