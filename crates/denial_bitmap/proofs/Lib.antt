pub mod Bits
pub mod Breaking
pub mod InOrder
pub mod Printing
pub mod Stepping
pub mod Windows
pub mod Told
