pub mod Bits
pub mod Chain
pub mod Faults
pub mod Linked
pub mod Made
pub mod Owner
