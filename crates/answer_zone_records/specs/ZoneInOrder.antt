-- What is known of the records of a zone that is kept, aliases among them or not.
use Rattle.std.specs.Prelude.{◌≡◌, List, true, false, length}
use Rattle.std.specs.List.{AllByRecursion}
use Rattle.std.specs.List.Sorted.{IsStrictlySortedBy}
use Rattle.definitions.specs.Name.{Name, at_or_above}
use Rattle.messages.specs.HandedRr.{HandedRr}
use Rattle.answer_terms.specs.Accepting.{delegates_star, is_added_by_signing, record_cmp, soas}
use Rattle.answer_zone_records.specs.AliasFaults.{has_disorder}

-- in canonical order; inside, of types that a zone holds before it is signed, no delegation at a wildcard name; aliases in
-- order; one SOA record
pub record AreZoneRecords (apex : Name) (rs : List HandedRr) : Type 0 where
  pub rising : IsStrictlySortedBy record_cmp rs
  pub inside : AllByRecursion (λ r. at_or_above apex r.owner ≡ true) rs
  pub unsigned : AllByRecursion (λ r. is_added_by_signing r ≡ false) rs
  pub no_star_delegation : AllByRecursion (λ r. delegates_star r ≡ false) rs
  pub aliases : has_disorder apex rs ≡ false
  pub soa : length (soas apex rs) ≡ 1
