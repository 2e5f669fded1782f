pub mod Blocks
pub mod Classes
pub mod Decoding
pub mod Refusing
pub mod Types
