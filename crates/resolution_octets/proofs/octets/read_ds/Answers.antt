use Rattle.std.proofs.Common.{◌≡◌, true, false, length, inr, refl, rules}
use Rattle.std.specs.Prelude.{◌==◌}
use Rattle.answer_judge_octets.specs.Replying.{judged_ds}
use Rattle.answer_judge_octets.specs.Written.{FitsDs, IsList, ds_octets}
use Rattle.resolution_octets.proofs.octets.read_ds.Goals as goal

pub returns-then-is_empty-clause-unread : goal.returns-then-is_empty-clause-unread
returns-then-is_empty-clause-unread c =
    let case = c.args.evidence.now in
    let set = c.in-Some.set.items in
    let spelled : IsList FitsDs ds_octets case.ds.now set = search rules in
    let none : (length (judged_ds case.algorithms.now set) == 0) ≡ true = search rules in
    inr (refl, inr (record { ds_set = set; ds = spelled; none = none }))

pub returns-clause-ok : goal.returns-clause-ok
returns-clause-ok c =
    let case = c.args.evidence.now in
    let set = c.in-Some.set.items in
    let spelled : IsList FitsDs ds_octets case.ds.now set = search rules in
    let some : (length c.judged_ds-ds.result.items == 0) ≡ false = search rules in
    record { ds_set = set; spelled = spelled; judged = c.judged_ds-ds.ensures; some = some }
