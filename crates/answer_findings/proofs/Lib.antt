pub mod Renamed
pub mod Cuts
pub mod OneName
pub mod Beside
pub mod Truly
pub mod Within
pub mod Searched
mod Hashed
pub mod CutNames
pub use Rattle.answer_judge_table.proofs.AsksGrow
