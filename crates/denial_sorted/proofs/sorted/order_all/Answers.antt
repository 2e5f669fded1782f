use Rattle.std.proofs.Common.{rules, ◌∙◌}
use Rattle.std.specs.Ordering.{eq_by_cmp}
use Rattle.std.proofs.lemmas.Fn.{dedup_same}
use Rattle.plain.specs.Records.{record_canonical_cmp}
use Rattle.denial_sorted.proofs.Orders.{record_total}
use Rattle.denial_sorted.proofs.Putting.{sorted_by_closure}
use Rattle.denial_sorted.proofs.sorted.order_all.Goals as goal

pub returns-clause-ok : goal.returns-clause-ok
returns-clause-ok g c =
    let by = record_canonical_cmp g.N.Labels.name g.D.RecordData.type_of g.D.CanonicalOrd.canonical in
    let o = record_total g.N.Labels.name g.D.RecordData.type_of g.D.CanonicalOrd.canonical c.requires in
    let once = dedup_same _ (eq_by_cmp by) _ (λ x y b f' x' y' k. search rules) _ _ c.dedup_by.ensures.filtered in
    once ∙ sorted_by_closure by o (λ a r f' k. search rules) _ _ c.in_ok-sort_by.ensures.sorted c.in_ok-sort_by.ensures.stable
