use Rattle.std.proofs.Common.{map, ap, subst, sym, ◌∙◌, ◌&&◌}
use Rattle.std.specs.Prelude.{◌==◌}
use Rattle.std.specs.List.{list_any}
use Rattle.std.specs.List.Sorted.{IsStrictlySortedBy}
use Rattle.definitions.specs.Name.{strictly_above}
use Rattle.messages.specs.HandedRr.{HandedRr, handed_of}
use Rattle.messages.proofs.Lists.{list_any-map}
use Rattle.answer_zone_records.specs.Near.{AreRising}
use Rattle.answer_zone_records.proofs.Disorder.{any_under}
use Rattle.answer_zone_records.proofs.KeptNames.{canonical_rise}
use Rattle.answer_zone_records.proofs.ZoneOrder.{zone_cmp}
use Rattle.answer_zone_records.proofs.alias_faults.has_below_dname.Goals as goal

pub has_below-requires : goal.has_below-requires
has_below-requires c =
    subst (AreRising (λ r. r.owner)) (sym c.as_slice.ensures.records)
    (canonical_rise c.args.records.now c.requires (subst (IsStrictlySortedBy zone_cmp) c.as_slice.ensures.records c.as_slice.ensures.order))

pub returns-then-is_dname : goal.returns-then-is_dname
returns-then-is_dname c =
    let r = handed_of c.args.rr.now in
    let rs = map handed_of c.args.records.now in
    let below = λ (s : HandedRr). strictly_above r.owner s.owner in
    c.has_below.ensures
    ∙ ap (λ q. list_any (λ x. strictly_above q x.owner) c.as_slice.result.now) c.owner.ensures
    ∙ ap (list_any (λ x. strictly_above r.owner x.owner)) c.as_slice.ensures.records
    ∙ sym (list_any-map below handed_of c.args.records.now)
    ∙ sym (ap (λ b. b && list_any below rs) (sym c.is_dname.ensures ∙ c.if-is_dname.true))
    ∙ sym (any_under (r.rtype == 39) below rs)

pub returns-else-is_dname : goal.returns-else-is_dname
returns-else-is_dname c =
    let r = handed_of c.args.rr.now in
    let rs = map handed_of c.args.records.now in
    let below = λ (s : HandedRr). strictly_above r.owner s.owner in
    c.if-is_dname.false ∙ sym (ap (λ b. b && list_any below rs) (sym c.is_dname.ensures ∙ c.if-is_dname.false)) ∙ sym (any_under (r.rtype == 39) below rs)
