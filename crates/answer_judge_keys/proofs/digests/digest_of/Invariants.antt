use Rattle.std.proofs.Common.{◌≡◌, drop}
use Rattle.std.specs.List.{find}
use Rattle.answer_judge_keys.specs.Digests.{is_of_type}
use Rattle.answer_judge_keys.proofs.digests.digest_of.Given as goal

abbrev pub invariant-loop-digest : goal.invariant-loop-digest
invariant-loop-digest l = find (is_of_type l.algorithm) (drop l.digest-index l.made) ≡ find (is_of_type l.algorithm) l.made
