pub mod Table
pub mod Asking
pub mod Outcomes
pub use Rattle.answer_judge.specs.Decided
