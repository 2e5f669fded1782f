use Rattle.std.proofs.Common.{◌≡◌, map, false, sym, ap, subst, ◌∙◌}
use Rattle.std.specs.List.{AllByRecursion, list_any}
use Rattle.denial_chain_owners.specs.Conditions.{IsOneClass}
use Rattle.definitions.specs.Sorting.{sort_by}
use Rattle.messages.specs.Handed.{IsHanded}
use Rattle.messages.specs.HandedRr.{handed_of, is_meta}
use Rattle.answer_terms.specs.Accepting.{is_alias, sorted_records}
use Rattle.answer_terms.specs.ModeView.{mode_of}
use Rattle.answer_zone_records.specs.AliasFaults.{IsPlainList, RefusesPlainList, has_disorder}
use Rattle.answer_zone_records.specs.MadeLinks.{IsMade, IsUnmade}
use Rattle.answer_zone_records.specs.OwnedRecords.{IsInternet}
use Rattle.answer_zone_records.specs.ZoneInOrder.{AreZoneRecords}
use Rattle.answer_zone_records.proofs.ZoneInOrder.{records_in_order}
use Rattle.answer_zone_records.proofs.ZoneMade.{chained, in_order, one_class, sorted_class, sorted_known, unchained}
use Rattle.answer_zone_records.proofs.ZoneOrder.{sorted_handed, zone_cmp}
use Rattle.answer_zone.proofs.zone.contents.contents_in_order.Goals as goal

pub made_chain-requires : goal.made_chain-requires
made_chain-requires g c =
    let rs = c.args.records.items in
    let plain : IsPlainList c.args.apex.now (map handed_of rs) = c.requires in
    record { class = subst IsOneClass (sym c.in-Ok.ensures) (one_class (g.H.Nsec3Hasher.hash_of c.args.hasher.now) c.args.apex.now (mode_of c.args.mode.now) rs plain.of_class_in plain.known) }

pub has_disorder-requires : goal.has_disorder-requires
has_disorder-requires g c =
    let rs = c.args.records.items in
    let plain : IsPlainList c.args.apex.now (map handed_of rs) = c.requires in
    subst (AllByRecursion IsInternet) (sym c.in-Ok.ensures) (sorted_class (g.H.Nsec3Hasher.hash_of c.args.hasher.now) c.args.apex.now (mode_of c.args.mode.now) rs plain.of_class_in plain.known)

pub returns-then-has_disorder-clause-fault : goal.returns-then-has_disorder-clause-fault
returns-then-has_disorder-clause-fault g c =
    let rs = c.args.records.items in
    let plain : IsPlainList c.args.apex.now (map handed_of rs) = c.requires in
    let items : map handed_of c.in-Ok.sorted ≡ sorted_records (map handed_of rs) = ap (map handed_of) c.in-Ok.ensures ∙ in_order (g.H.Nsec3Hasher.hash_of c.args.hasher.now) c.args.apex.now (mode_of c.args.mode.now) rs plain.of_class_in plain.known in
    sym (ap (has_disorder c.args.apex.now) items) ∙ sym c.has_disorder.ensures ∙ c.if-has_disorder.true

pub returns-clause-orderly : goal.returns-clause-orderly
returns-clause-orderly g c =
    let rs = c.args.records.items in
    let plain : IsPlainList c.args.apex.now (map handed_of rs) = c.requires in
    let items : map handed_of c.in-Ok.sorted ≡ sorted_records (map handed_of rs) = ap (map handed_of) c.in-Ok.ensures ∙ in_order (g.H.Nsec3Hasher.hash_of c.args.hasher.now) c.args.apex.now (mode_of c.args.mode.now) rs plain.of_class_in plain.known in
    sym (ap (has_disorder c.args.apex.now) items) ∙ sym c.has_disorder.ensures ∙ c.if-has_disorder.false

pub returns-in-Err-clause-fault : goal.returns-in-Err-clause-fault
returns-in-Err-clause-fault g c =
    let apex = c.args.apex.now in
    let mode = mode_of c.args.mode.now in
    let rs = c.args.records.items in
    let hash = g.H.Nsec3Hasher.hash_of c.args.hasher.now in
    let plain : IsPlainList apex (map handed_of rs) = c.requires in
    let items : map handed_of c.in-Ok.sorted ≡ sorted_records (map handed_of rs) = ap (map handed_of) c.in-Ok.ensures ∙ in_order hash apex mode rs plain.of_class_in plain.known in
    let orderly : has_disorder apex (sorted_records (map handed_of rs)) ≡ false = sym (ap (has_disorder apex) items) ∙ sym c.has_disorder.ensures ∙ c.if-has_disorder.false in
    subst (RefusesPlainList hash apex mode (map handed_of rs)) (sym c.fault_of.ensures)
    (unchained hash apex mode rs plain.of_class_in plain.known c.in-Err.error orderly (subst (λ xs. IsUnmade hash apex mode xs c.in-Err.error) c.in-Ok.ensures c.in-Err.ensures.refused))

pub returns-clause-chained : goal.returns-clause-chained
returns-clause-chained g c =
    let apex = c.args.apex.now in
    let mode = mode_of c.args.mode.now in
    let rs = c.args.records.items in
    let hash = g.H.Nsec3Hasher.hash_of c.args.hasher.now in
    let plain : IsPlainList apex (map handed_of rs) = c.requires in
    chained hash apex mode rs plain.of_class_in plain.known (subst (IsMade hash apex mode) c.in-Ok.ensures c.in-Ok-made_chain.ensures.made)

pub kept_under-requires : goal.kept_under-requires
kept_under-requires g c =
    let rs = c.args.records.items in
    let plain : IsPlainList c.args.apex.now (map handed_of rs) = c.requires in
    subst (AllByRecursion IsInternet) (sym c.in-Ok.ensures) (sorted_class (g.H.Nsec3Hasher.hash_of c.args.hasher.now) c.args.apex.now (mode_of c.args.mode.now) rs plain.of_class_in plain.known)

pub chain_ttl-requires : goal.chain_ttl-requires
chain_ttl-requires g c =
    let rs = c.args.records.items in
    let plain : IsPlainList c.args.apex.now (map handed_of rs) = c.requires in
    subst (AllByRecursion IsInternet) (sym c.in-Ok.ensures) (sorted_class (g.H.Nsec3Hasher.hash_of c.args.hasher.now) c.args.apex.now (mode_of c.args.mode.now) rs plain.of_class_in plain.known)

pub returns-clause-made : goal.returns-clause-made
returns-clause-made g c =
    let apex = c.args.apex.now in
    let mode = mode_of c.args.mode.now in
    let rs = c.args.records.items in
    let hash = g.H.Nsec3Hasher.hash_of c.args.hasher.now in
    let plain : IsPlainList apex (map handed_of rs) = c.requires in
    let sorted : map handed_of c.in-Ok.sorted ≡ map handed_of (sort_by zone_cmp rs) = ap (map handed_of) c.in-Ok.ensures in
    let items : map handed_of c.in-Ok.sorted ≡ sorted_records (map handed_of rs) = sorted ∙ in_order hash apex mode rs plain.of_class_in plain.known in
    let orderly : has_disorder apex (sorted_records (map handed_of rs)) ≡ false = sym (ap (has_disorder apex) items) ∙ sym c.has_disorder.ensures ∙ c.if-has_disorder.false in
    let made = chained hash apex mode rs plain.of_class_in plain.known (subst (IsMade hash apex mode) c.in-Ok.ensures c.in-Ok-made_chain.ensures.made) in
    let handed : AllByRecursion IsHanded (map handed_of rs) = subst (λ rs. AllByRecursion IsHanded (map handed_of rs)) c.deref.ensures.value c.all_keep.ensures in
    record {
      sorted = items;
      published = subst (AreZoneRecords apex) (sym items) (records_in_order hash apex mode (map handed_of rs) plain orderly made);
      handed = record {
        apex_is = c.keeps.ensures;
        records_are = subst (AllByRecursion IsHanded) (sym sorted) (sorted_handed rs handed);
        known = subst (AllByRecursion (λ r. is_meta r ≡ false)) (sym sorted) (sorted_known hash apex mode rs plain.of_class_in plain.known);
      };
      chain = c.in-Ok-made_chain.ensures.chain;
      link_ttl = c.in-Ok-chain_ttl.ensures;
      of_class_in = subst (AllByRecursion IsInternet) (sym c.in-Ok.ensures) (sorted_class hash apex mode rs plain.of_class_in plain.known);
      kept = c.in-Ok-kept_under.ensures;
      has_aliases = c.any_alias-has_aliases.ensures ∙ ap (λ xs. list_any is_alias (map handed_of xs)) c.as_slice.ensures.records;
    }
