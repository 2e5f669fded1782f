pub mod Input
pub mod Responses
pub mod Status
