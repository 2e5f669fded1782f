pub mod HonestTable
pub mod TableAsks
pub mod AsksGrow
pub use Rattle.answer_judge.proofs.GivenLists
