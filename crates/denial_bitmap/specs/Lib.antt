pub mod Building
pub mod Faults
pub mod Laws
pub mod Padding
pub mod Texts
pub mod Types
