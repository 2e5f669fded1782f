-- What stands around a name of a zone, and where a question is answered.
use Rattle.std.specs.Prelude.{◌≡◌, ℕ, true, ◌&&◌, List, [], ◌∷◌, None, if◌then◌else◌}
use Rattle.std.specs.List.{list_any}
use Rattle.definitions.specs.Name.{Name, at_or_above, low, same}
use Rattle.definitions.specs.Zone.{cut_above}
use Rattle.messages.specs.HandedRr.{HandedRr}
use Rattle.answer_terms.specs.Accepting.{zone_with}
use Rattle.answer_zone_records.specs.Near.{owns, shows}
use Rattle.answer_zone_records.specs.OwnedRecords.{owned_by}
use Rattle.answer_zone_records.specs.declared.near.Neighbours.{Neighbours}
use Rattle.answer_zone_records.specs.declared.owned.Cut.{Cut}
use Rattle.answer_zone.specs.Cuts.{NoneRefers, Refers}
use Rattle.answer_zone.specs.declared.zone.asked.Asked.{Asked}
use Rattle.answer_zone.specs.declared.zone.asked.Asked.TheVariants.{Away, Here}

-- the neighbours of a name among the owners of some records
pub record IsNear (q : Name) (rs : List HandedRr) (n : Neighbours) : Type 0 where
  pub shows : (a : Name) → at_or_above a q ≡ true → list_any (λ r. at_or_above a r.owner) rs ≡ shows n a
  pub owns : list_any (λ r. same r.owner q) rs ≡ owns n q

-- the longest proper ancestor of a name that is at or below the apex and that neighbours show, the root where none is
abbrev pub shown_ancestor : Name → Neighbours → Name → Name
shown_ancestor apex n [] = []
shown_ancestor apex n (l ∷ q) = let r = shown_ancestor apex n q in if at_or_above apex q && shows n q then q else r

-- a delegation's own records
abbrev pub IsCutRecords : List HandedRr → Cut → Type 0
IsCutRecords rs c = c.owned ≡ owned_by c.name.now rs

-- a delegation that refers the question away, with its records; or none does, and what the name owns
abbrev pub IsAsked : Name → List HandedRr → Name → ℕ → Asked → Type 0
IsAsked apex rs q t (Away c) = Refers (zone_with apex rs) (low q) t (low c.name.now) × IsCutRecords rs c
IsAsked apex rs q t (Here o) = NoneRefers (zone_with apex rs) (low q) t × (cut_above (zone_with apex rs) (low q) ≡ None) × (o ≡ owned_by q rs)
