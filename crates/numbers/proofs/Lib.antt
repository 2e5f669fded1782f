pub mod Decodes
pub mod Digits
pub mod Spelling
