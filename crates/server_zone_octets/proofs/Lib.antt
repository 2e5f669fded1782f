pub mod EntriesAsked
pub mod EntriesMade
