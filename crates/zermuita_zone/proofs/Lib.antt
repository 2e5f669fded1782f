pub mod Calls
pub mod Flags
pub mod HeldValues
pub mod Values
