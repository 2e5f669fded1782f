pub mod Counted
pub mod Ended
pub mod Fields
pub mod TextLaws
pub mod Texts
pub mod Times
