pub mod Addresses
pub mod Building
pub mod Fault
pub mod FromText
pub mod TextWalk
