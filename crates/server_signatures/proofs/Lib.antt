pub mod Signing
pub mod EachScheme
pub mod Wanting
