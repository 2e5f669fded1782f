pub mod Orderly
pub mod Leading
pub mod FoundFacts
pub mod Aliases
