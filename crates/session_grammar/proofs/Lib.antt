pub mod LineLemmas
pub mod NumberLemmas
pub mod FieldLemmas
pub mod RecordLemmas
pub mod SessionLemmas
