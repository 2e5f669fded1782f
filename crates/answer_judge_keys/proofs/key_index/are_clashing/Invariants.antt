use Rattle.std.proofs.Common.{◌≡◌, drop}
use Rattle.std.specs.List.{list_any}
use Rattle.answer_terms.specs.EqualTags.{clashes}
use Rattle.answer_judge_keys.proofs.key_index.are_clashing.Given as goal

abbrev pub invariant-loop-key : goal.invariant-loop-key
invariant-loop-key l = list_any (λ a. list_any (clashes a) l.keys) (drop l.key-index l.keys) ≡ list_any (λ a. list_any (clashes a) l.keys) l.keys
