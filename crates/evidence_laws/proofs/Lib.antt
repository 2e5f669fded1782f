pub mod Truly
pub mod Staying
pub mod Downward
pub use Rattle.resolution_step.proofs.Hashed
