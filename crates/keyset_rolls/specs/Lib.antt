pub use Rattle.keyset_keys.specs.Keys
pub use Rattle.keyset_keys.specs.KeyTexts
pub mod Changes
pub mod Rolls
pub mod Actions
