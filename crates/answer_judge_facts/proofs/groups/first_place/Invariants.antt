use Rattle.std.proofs.Common.{◌≡◌, drop}
use Rattle.std.specs.List.{list_any}
use Rattle.answer_judge_facts.specs.Marked.{is_of}
use Rattle.answer_judge_facts.proofs.groups.first_place.Given as goal

abbrev pub invariant-loop-i : goal.invariant-loop-i
invariant-loop-i l = list_any (is_of l.owner l.rtype) (drop l.i l.groups) ≡ list_any (is_of l.owner l.rtype) l.groups
