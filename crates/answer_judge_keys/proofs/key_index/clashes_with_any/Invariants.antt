use Rattle.std.proofs.Common.{◌≡◌, drop}
use Rattle.std.specs.List.{list_any}
use Rattle.answer_terms.specs.EqualTags.{clashes}
use Rattle.answer_judge_keys.proofs.key_index.clashes_with_any.Given as goal

abbrev pub invariant-loop-other : goal.invariant-loop-other
invariant-loop-other l = list_any (clashes l.key) (drop l.other-index l.keys) ≡ list_any (clashes l.key) l.keys
