pub mod Running
pub mod Results
pub use Rattle.answer_laws.specs.Simulations
pub use Rattle.answer_outcomes.specs.declared.outcome.Outcome
pub use Rattle.answer_publisher.specs.World
