use Rattle.std.proofs.Common.{◌≡◌, drop}
use Rattle.std.specs.List.{filter_map}
use Rattle.answer_judge_facts.specs.Validity.{least, least_or_max, original_in}
use Rattle.answer_judge_facts.proofs.validity.least_original.Given as goal

abbrev pub invariant-loop-group : goal.invariant-loop-group
invariant-loop-group l = least l.least (filter_map original_in (drop l.group-index l.groups)) ≡ least_or_max (filter_map original_in l.groups)
