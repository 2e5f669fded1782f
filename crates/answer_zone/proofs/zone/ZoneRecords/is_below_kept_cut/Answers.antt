use Rattle.std.proofs.Common.{◌≡◌, ◌&&◌, not, Some, None, true, false, refl, sym, ap, ◌∙◌}
use Rattle.std.specs.Prelude.{if◌then◌else◌}
use Rattle.std.specs.List.{list_any}
use Rattle.definitions.specs.Name.{low}
use Rattle.definitions.specs.Zone.{cut, has, is_delegation}
use Rattle.definitions.proofs.NameLaws.{labels_decide}
use Rattle.definitions.proofs.ZoneNames.{low-low}
use Rattle.answer_terms.specs.Accepting.{zone_with}
use Rattle.answer_zone_records.specs.OwnedRecords.{is_of_type}
use Rattle.answer_zone.proofs.Kept.{by_cut, kept_cut_is}
use Rattle.answer_zone.proofs.Placing.{cut_here, cut_unlike, has_owned, refers_above}
use Rattle.answer_zone.proofs.zone.ZoneRecords.is_below_kept_cut.Goals as goal

pub returns-in-Some : goal.returns-in-Some
returns-in-Some g c =
    let apex = c.args.self.now.apex in
    let rs = c.args.self.now.records in
    let z = zone_with apex rs in
    let q = low c.args.name.now in
    let n = c.in-Some.cut.name.now in
    let some = c.in-Some.ensures.some in
    let top : cut z q ≡ Some (low n) = (refers_above z q (low-low c.args.name.now) 43 (low n) some.0).topmost in
    c.has.ensures ∙ ap (list_any (is_of_type 43)) some.1 ∙ has_owned apex rs n 43
    ∙ sym (ap (λ b. not b && has z (low n) 43) (cut_unlike z q (low n) (low-low c.args.name.now) some.0))
    ∙ sym (kept_cut_is z q (low-low c.args.name.now) ∙ ap (by_cut z q) top)

pub returns-in-None : goal.returns-in-None
returns-in-None g c =
    let z = zone_with c.args.self.now.apex c.args.self.now.records in
    let q = low c.args.name.now in
    let lq = low-low c.args.name.now in
    let none = c.in-None.ensures.none refl in
    sym (kept_cut_is z q lq ∙ ap (by_cut z q) (cut_here z q lq 43 none (is_delegation z q) refl)
    ∙ elim (is_delegation z q) as (λ b. by_cut z q (if b then Some q else None) ≡ false) [ true ↦ ap (λ b. not b && has z q 43) ((labels_decide q q).1 refl) | false ↦ refl ])
