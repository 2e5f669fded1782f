-- The records of a zone that is kept rise strictly once they are in order.
use Rattle.std.proofs.Common.{◌≡◌, true, false, List}
use Rattle.definitions.specs.Name.{Name, at_or_above}
use Rattle.definitions.specs.ZoneChain.{Mode}
use Rattle.messages.specs.HandedRr.{HandedRr}
use Rattle.messages.proofs.Lists.{all_fail, all_pass, all_sorted}
use Rattle.answer_terms.specs.Accepting.{delegates_star, is_added_by_signing, record_cmp, sorted_records}
use Rattle.answer_terms.specs.Hashing.{Hasher}
use Rattle.answer_terms.proofs.ZoneRising.{record_cmp_total, sort_rises}
use Rattle.answer_zone_records.specs.AliasFaults.{IsChained, IsPlainList, has_disorder}
use Rattle.answer_zone_records.specs.ZoneInOrder.{AreZoneRecords}

-- what is known of the records of a list with a chain
pub records_in_order : (hash : Hasher) (apex : Name) (mode : Mode) (rs : List HandedRr) → IsPlainList apex rs → has_disorder apex (sorted_records rs) ≡ false → IsChained hash apex mode rs → AreZoneRecords apex (sorted_records rs)
records_in_order hash apex mode rs p o c = record {
  rising = sort_rises record_cmp record_cmp_total rs;
  inside = all_sorted (λ r. at_or_above apex r.owner ≡ true) record_cmp rs (all_pass (λ (r : HandedRr). at_or_above apex r.owner) rs p.inside);
  unsigned = all_sorted (λ r. is_added_by_signing r ≡ false) record_cmp rs (all_fail is_added_by_signing rs p.unsigned);
  no_star_delegation = all_sorted (λ r. delegates_star r ≡ false) record_cmp rs (all_fail delegates_star rs p.no_star_delegation);
  aliases = o;
  soa = c.soa;
}
