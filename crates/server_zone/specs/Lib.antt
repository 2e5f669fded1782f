pub mod Lines
pub mod StateLines
pub mod States
pub mod Journals
pub mod Refusals
pub mod JournalLaws
