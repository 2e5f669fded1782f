pub mod InputLemmas
pub mod RunLemmas
pub mod RunStatus
