-- The owners that opt-out keeps, as a zone keeps them.
use Rattle.std.specs.Prelude.{◌≡◌, true, List}
use Rattle.std.specs.List.{list_any}
use Rattle.definitions.specs.Name.{Name, at_or_above}
use Rattle.definitions.specs.Zone.{kept_owners}
use Rattle.messages.specs.HandedRr.{HandedRr}
use Rattle.answer_terms.specs.Accepting.{zone_with}
use Rattle.answer_zone_records.specs.Near.{AreRising}

-- in canonical order, and a name is at or above one of them where it is at or above a kept owner
pub record KeepsNames (apex : Name) (rs : List HandedRr) (names : List Name) : Type 0 where
  pub rising : AreRising (λ n. n) names
  pub shows : (a : Name) → list_any (at_or_above a) (kept_owners (zone_with apex rs) true) ≡ list_any (at_or_above a) names
