pub mod Fields
pub mod Grammar
pub mod Lines
pub mod Numbers
pub mod Readings
pub mod Sessions
