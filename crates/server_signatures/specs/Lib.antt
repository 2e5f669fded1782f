pub mod Table
pub mod Outcomes
