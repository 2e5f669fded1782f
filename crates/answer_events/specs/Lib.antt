pub mod Calls
pub mod Events
-- What the contracts of sessions cite, passed on, so that a crate above need name none of these.
pub use Rattle.messages.specs.HandedRr
pub use Rattle.messages.specs.Message
pub use Rattle.messages.specs.NameOctets
pub use Rattle.messages.specs.Questions
pub use Rattle.messages.specs.View
pub use Rattle.keyset.specs.Actions
pub use Rattle.keyset_rolls.specs.declared.rolls.RollType
