pub mod Texts
pub mod Counted
