use Rattle.std.proofs.Common.{◌≡◌, true, [], ◌∷◌, ◌++◌, map, take, sym, ap, subst, ◌∙◌, arith}
use Rattle.std.specs.List.Sorted.{IsStrictlySortedBy}
use Rattle.std.proofs.lemmas.List.{map-append, take_all, take_more}
use Rattle.plain.specs.ZoneData.{zone_canonical, zone_type}
use Rattle.denial_rrsets.specs.Groups.{groups, of_one_owner}
use Rattle.denial_rrsets.specs.Partitions.{IsPartition}
use Rattle.denial_chain_owners.specs.Kept.{kept_groups}
use Rattle.answer_zone_records.proofs.KeptNames.{keeps, lead, lead_is}
use Rattle.answer_zone_records.proofs.ZoneOrder.{zone_cmp}
use Rattle.answer_zone_records.proofs.kept.kept_names.Goals as goal

pub loop-owner-preserved : goal.loop-owner-preserved
loop-owner-preserved c =
    let gs = c.deref-owner-items.result.now in
    let i = c.loop-owner.owner-index in
    let g = c.owner-item.result in
    let one : c.in_ok-copy_name.field-0 ≡ lead g = c.in_ok-copy_name.ensures ∙ lead_is g c.owner.result.now c.owner.ensures in
    c.in_ok-push.ensures.items
    ∙ (λ j. c.loop-owner.invariant j ++ one j ∷ [])
    ∙ sym (ap (map lead) (take_more gs i g (omega arith) ∙ ap (λ x. take i gs ++ x ∷ []) (sym c.owner-item.is)) ∙ map-append lead (take i gs) (g ∷ []))

pub returns : goal.returns
returns c =
    let rs = c.args.records.now in
    let items = c.deref-owner-items.ensures.value in
    keeps c.args.apex.now rs c.in_ok-owners.owners.items c.loop-owner.names.items c.requires
    (subst (IsStrictlySortedBy zone_cmp) c.as_slice-in_order.ensures.records c.as_slice-in_order.ensures.order)
    (subst (λ xs. IsPartition (of_one_owner (λ n. n)) rs (groups (of_one_owner (λ n. n)) xs)) c.owner_rrs.ensures.records c.owner_rrs.ensures.partition)
    (c.in_ok-owners.ensures ∙ ap (λ xs. kept_groups (λ n. n) zone_type (zone_canonical (λ n. n)) c.args.apex.now true xs) c.owner_rrs.ensures.records)
    (c.loop-owner.invariant ∙ ap (map lead) (take_all c.loop-owner.owner-index c.deref-owner-items.result.now (omega arith) ∙ items))
