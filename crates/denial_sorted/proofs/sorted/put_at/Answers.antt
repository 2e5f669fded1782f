use Rattle.std.proofs.Common.{◌<◌, ℕ, List, None, length, take, drop, sym, ap, ◌∙◌, subst, arith}
use Rattle.std.specs.List.{AllByRecursion}
use Rattle.denial_rrsets.specs.GroupLaws.{one_owner_equivalence}
use Rattle.denial_rrsets.specs.Groups.{of_one_owner}
use Rattle.denial_sorted.specs.Neighbour.{joins, moved}
use Rattle.denial_rrsets.specs.Starts.{starts_in}
use Rattle.denial_sorted.proofs.Moved.{after_insert, parted_at, some_behind, starts_below}
use Rattle.denial_sorted.proofs.sorted.put_at.Goals as goal

pub count_before-at-requires : goal.count_before-at-requires
count_before-at-requires g c = parted_at (of_one_owner g.N.Labels.name) (one_owner_equivalence g.N.Labels.name) c.args.records.now.items c.args.place c.requires.within c.as_slice-2.result.now (c.as_slice-2.ensures.value ∙ c.reserve.ensures.items ∙ c.requires.starts)

pub move_behind-requires-clause-some : goal.move_behind-requires-clause-some
move_behind-requires-clause-some g c = λ h.
    let alike = of_one_owner g.N.Labels.name in
    let rs = c.args.records.now.items in
    let neighbour = c.neighbour_at-neighbour.ensures ∙ ap (λ zs. joins alike zs c.args.place c.args.rr) c.as_slice.ensures.value in
    let P : List ℕ → Type 0 = λ ss. c.count_before-at.result < length ss in
    subst P c.as_slice-2.ensures.value (some_behind alike (one_owner_equivalence g.N.Labels.name) rs c.args.place c.requires.within c.as_slice-2.result.now (c.as_slice-2.ensures.value ∙ c.reserve.ensures.items ∙ c.requires.starts) c.count_before-at.result c.count_before-at.ensures.bound c.count_before-at.ensures.cut c.args.rr (sym neighbour ∙ h))

pub move_behind-requires-clause-few : goal.move_behind-requires-clause-few
move_behind-requires-clause-few g c =
    let rs = c.args.records.now.items in
    let P : List ℕ → Type 0 = λ ss. AllByRecursion (λ s. s < 18446744073709551615) ss in
    subst P (sym (c.reserve.ensures.items ∙ c.requires.starts)) (starts_below (of_one_owner g.N.Labels.name) None 0 rs 18446744073709551615 (omega (arith, c.args.records.now.ok.0, c.args.records.now.ok.1, c.args.records.now.small)))

pub returns-clause-starts : goal.returns-clause-starts
returns-clause-starts g c =
    let alike = of_one_owner g.N.Labels.name in
    let rs = c.args.records.now.items in
    let p = c.args.place in
    let at = c.count_before-at.result in
    let neighbour = c.neighbour_at-neighbour.ensures ∙ ap (λ zs. joins alike zs p c.args.rr) c.as_slice.ensures.value in
    c.move_behind.ensures
    ∙ ap (λ k. moved k p (take at c.reserve.new.self.items) (drop at c.reserve.new.self.items)) neighbour
    ∙ ap (λ zs. moved (joins alike rs p c.args.rr) p (take at zs) (drop at zs)) (sym c.as_slice-2.ensures.value)
    ∙ after_insert alike (one_owner_equivalence g.N.Labels.name) rs p c.requires.within c.as_slice-2.result.now (c.as_slice-2.ensures.value ∙ c.reserve.ensures.items ∙ c.requires.starts) at c.count_before-at.ensures.bound c.count_before-at.ensures.cut c.args.rr c.requires.apart
    ∙ ap (starts_in alike) (sym c.in_ok-insert_at.ensures.items)
