pub mod LineLemmas
pub mod StateLemmas
pub mod JournalLemmas
pub mod ReadLemmas
pub mod OpeningLemmas
pub mod HasReadLemmas
pub mod ReopeningLemmas
pub mod TtlLemmas
