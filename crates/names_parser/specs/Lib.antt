pub mod Errors
pub mod Reader
pub mod Serials
pub mod SerialText
