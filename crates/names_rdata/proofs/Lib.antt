pub mod Lengths
pub mod Names
pub mod Parts
pub mod PartCalls
pub mod WrittenNames
pub mod WrittenParts
pub mod WireOrder
pub mod Room
