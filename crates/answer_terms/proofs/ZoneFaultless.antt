-- What a list of records without a fault keeps.
use Rattle.std.proofs.Common.{◌≡◌, ℕ, true, false, List}
use Rattle.std.specs.List.{AllByRecursion}
use Rattle.definitions.specs.Name.{Name, at_or_above}
use Rattle.definitions.specs.ZoneChain.{Mode}
use Rattle.messages.specs.HandedRr.{HandedRr, is_meta}
use Rattle.answer_terms.specs.Accepting.{IsFaultless, delegates_star, is_added_by_signing, is_alias, record_cmp, sorted_records}
use Rattle.messages.proofs.Lists.{all_pass, all_fail, all_sorted}

-- every record is at or below the apex, and of a type that a zone holds; none delegates a wildcard
pub record HasNoFault (apex : Name) (rs : List HandedRr) : Type 0 where
  pub inside : AllByRecursion (λ r. at_or_above apex r.owner ≡ true) rs
  pub unsigned : AllByRecursion (λ r. is_added_by_signing r ≡ false) rs
  pub no_alias : AllByRecursion (λ r. is_alias r ≡ false) rs
  pub no_star_delegation : AllByRecursion (λ r. delegates_star r ≡ false) rs
  pub known : AllByRecursion (λ r. is_meta r ≡ false) rs

pub no_fault_from : (apex : Name) (mode : Mode) (limit : ℕ) (rs : List HandedRr) → IsFaultless apex mode limit rs → HasNoFault apex (sorted_records rs)
no_fault_from apex mode limit rs f = record {
  inside = all_sorted (λ r. at_or_above apex r.owner ≡ true) record_cmp rs (all_pass (λ (r : HandedRr). at_or_above apex r.owner) rs f.inside);
  unsigned = all_sorted (λ r. is_added_by_signing r ≡ false) record_cmp rs (all_fail is_added_by_signing rs f.unsigned);
  no_alias = all_sorted (λ r. is_alias r ≡ false) record_cmp rs (all_fail is_alias rs f.no_alias);
  no_star_delegation = all_sorted (λ r. delegates_star r ≡ false) record_cmp rs (all_fail delegates_star rs f.no_star_delegation);
  known = all_sorted (λ r. is_meta r ≡ false) record_cmp rs (all_fail is_meta rs f.known);
}
