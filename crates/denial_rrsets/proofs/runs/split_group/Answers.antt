use Rattle.std.proofs.Common.{◌≡◌, ◌∷◌, ◌+◌, sym, ◌∙◌}
use Rattle.std.proofs.lemmas.Option.{slice_get_within}
use Rattle.denial_rrsets.specs.Groups.{groups}
use Rattle.denial_rrsets.specs.Slices.{items_of}
use Rattle.denial_rrsets.proofs.Grouped.{StopsAt, alike_more, group_to, stops_there, stops_end, none_first, first_is_group}
use Rattle.denial_rrsets.proofs.runs.split_group.Goals.{in-Some-get+then-not-are_alike, in_default-get}
use Rattle.denial_rrsets.proofs.runs.split_group.Given.{Over}
use Rattle.denial_rrsets.proofs.runs.split_group.Goals as goal

pub returns-in_default-clause-parts : goal.returns-in_default-clause-parts
returns-in_default-clause-parts g c = none_first (items_of c.args.slice) (sym c.in_default.ensures)

pub loop-item-preserved : goal.loop-item-preserved
loop-item-preserved g c =
    let xs = items_of c.args.slice in
    record {
      inside = slice_get_within xs (c.loop-item.place + 1) c.in-Some-get.item.now (sym c.in-Some-get.ensures);
      last = sym c.in-Some-get.ensures;
      alike = alike_more g.K.Alike.alike xs c.loop-item.place c.loop-item.last.now c.in-Some-get.item.now c.loop-item.invariant.alike c.loop-item.invariant.last (sym c.in-Some-get.ensures) (sym c.if-not-are_alike.ensures);
    }

parts : (g : Over) (c : goal.After-split_at g) → groups g.K.Alike.alike (items_of c.args.slice) ≡ items_of c.split_at.result.0 ∷ groups g.K.Alike.alike (items_of c.split_at.result.1)
parts g c =
    let alike = g.K.Alike.alike in
    let xs = items_of c.args.slice in
    let stops : StopsAt alike c.loop-item.place xs =
    elim c.match-get-2.branch [
      | in-Some-get+then-not-are_alike w ↦ stops_there alike xs c.loop-item.place c.loop-item.last.now w.in-Some-get.item.now c.loop-item.invariant.last (sym w.in-Some-get.ensures) (sym w.if-not-are_alike.ensures)
      | in_default-get w ↦ stops_end alike xs c.loop-item.place (sym w.in_default-get.ensures)
    ] in
    let cut = group_to alike xs c.loop-item.place c.loop-item.invariant.inside c.loop-item.invariant.alike stops in
    let parts = c.split_at.ensures in
    cut ∙ (λ i. sym parts.front i ∷ groups alike (sym parts.behind i))

pub returns-clause-parts : goal.returns-clause-parts
returns-clause-parts g c = parts g c

pub returns-clause-group : goal.returns-clause-group
returns-clause-group g c = first_is_group g.K.Alike.alike g.met.K.Alike.equivalence _ _ _ (parts g c)
