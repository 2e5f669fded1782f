pub mod Tree
pub mod Orderly
pub mod Laws
pub mod Rows
