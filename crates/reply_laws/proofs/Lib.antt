pub mod Messages
pub mod Outcomes
pub mod Served
pub mod Told
