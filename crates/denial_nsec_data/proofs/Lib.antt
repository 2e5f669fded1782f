pub mod Faults
pub mod HashedOrder
pub mod NextNames
