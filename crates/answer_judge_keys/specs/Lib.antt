pub mod Digests
pub mod DnskeyAnswer
pub mod KeyOrder
pub mod Trusted
pub use Rattle.answer_terms.specs.HashOwner
