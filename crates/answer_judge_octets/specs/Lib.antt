pub mod Written
pub mod Crowded
pub mod Places
pub mod Replying
pub mod Hashed
pub mod ReadCases
pub mod EntryLaws
pub mod Laws
