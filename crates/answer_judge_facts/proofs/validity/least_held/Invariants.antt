use Rattle.std.proofs.Common.{◌≡◌, drop, map}
use Rattle.std.specs.List.{filter_map}
use Rattle.answer_judge_facts.specs.Validity.{held_for, least, least_or_max}
use Rattle.answer_judge_facts.specs.Marked.{times_by}
use Rattle.answer_judge_facts.proofs.validity.least_held.Given as goal

abbrev pub invariant-loop-group : goal.invariant-loop-group
invariant-loop-group l = least l.least (map (held_for l.moment) (filter_map times_by (drop l.group-index l.groups))) ≡ least_or_max (map (held_for l.moment) (filter_map times_by l.groups))
