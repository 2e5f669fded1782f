pub mod Calls
pub mod Handles
pub mod Holding
pub mod Terms
