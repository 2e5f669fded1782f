-- Which lists of records are accepted as a zone's, with a chain and under a hasher.
use Rattle.std.specs.Prelude.{◌≡◌, ℕ, false, List, length}
use Rattle.definitions.specs.Name.{Name}
use Rattle.definitions.specs.ZoneChain.{Mode, optout_of}
use Rattle.messages.specs.HandedRr.{HandedRr}
use Rattle.answer_terms.specs.Accepting.{IsFaultless, has_unlike_ttls, soas, sorted_records, zone_of}
use Rattle.answer_terms.specs.Chainable.{HasChain}
use Rattle.answer_terms.specs.Hashing.{Hasher}

-- no fault
pub record IsAccepted (hash : Hasher) (apex : Name) (mode : Mode) (limit : ℕ) (rs : List HandedRr) : Type 0 where
  pub faultless : IsFaultless apex mode limit rs
  pub soa : length (soas apex (sorted_records rs)) ≡ 1
  pub ttls : has_unlike_ttls (zone_of apex rs) (optout_of mode) (sorted_records rs) ≡ false
  pub chain : HasChain hash mode (zone_of apex rs)
