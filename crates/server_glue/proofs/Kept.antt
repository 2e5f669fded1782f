-- Addresses that are kept: those among some records, in canonical order.
use Rattle.std.proofs.Common.{◌≡◌, ◌||◌, List, [], ◌∷◌, map, eqb, ap, ◌∙◌}
use Rattle.std.specs.List.{AllByRecursion, filter}
use Rattle.std.proofs.lemmas.Bool.{and_parts, eqb-true}
use Rattle.definitions.specs.Sorting.{sort_by}
use Rattle.plain.specs.declared.record.Record.{Record}
use Rattle.plain.specs.declared.zone_data.ZoneRecordData.{ZoneRecordData}
use Rattle.definitions.specs.Name.{Name}
use Rattle.messages.specs.HandedRr.{HandedRr, handed_of}
use Rattle.messages.proofs.Lists.{all_sorted}
use Rattle.answer_terms.specs.Accepting.{record_cmp}
use Rattle.answer_zone_records.specs.OwnedRecords.{IsInternet}
use Rattle.answer_zone_records.proofs.ZoneOrder.{handed_in_order, zone_cmp}
use Rattle.server_glue.specs.Glue.{IsAddress, addresses_of, is_address}

abbrev pub Zoned : Type 0 → Type 0
Zoned O = Record Name (ZoneRecordData O Name)

module _ {O : Type 0} where
  each_of : (vs : List (Zoned O)) → AllByRecursion IsAddress (map handed_of vs) → AllByRecursion (λ v. IsAddress (handed_of v)) vs
  each_of [] h = tt
  each_of (v ∷ vs) h = (h.0, each_of vs h.1)

  all_of : (vs : List (Zoned O)) → AllByRecursion (λ v. IsAddress (handed_of v)) vs → AllByRecursion IsAddress (map handed_of vs)
  all_of [] h = tt
  all_of (v ∷ vs) h = (h.0, all_of vs h.1)

  pub internet : (vs : List (Zoned O)) → AllByRecursion IsAddress (map handed_of vs) → AllByRecursion IsInternet vs
  internet [] h = tt
  internet (v ∷ vs) h = (eqb-true v.class 1 (and_parts (eqb v.class 1) (eqb (handed_of v).rtype 1 || eqb (handed_of v).rtype 28) h.0.is).0, internet vs h.1)

  pub sorted_kept : (vs : List (Zoned O)) → AllByRecursion IsAddress (map handed_of vs) → AllByRecursion IsAddress (map handed_of (sort_by zone_cmp vs))
  sorted_kept vs h = all_of (sort_by zone_cmp vs) (all_sorted (λ v. IsAddress (handed_of v)) zone_cmp vs (each_of vs h))

  pub in_order : (vs : List (Zoned O)) (rs : List HandedRr) → map handed_of vs ≡ filter is_address rs → AllByRecursion IsAddress (map handed_of vs) → map handed_of (sort_by zone_cmp vs) ≡ addresses_of rs
  in_order vs rs so each = handed_in_order vs (internet vs each) ∙ ap (sort_by record_cmp) so
