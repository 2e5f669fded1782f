use Rattle.std.proofs.Common.{◌≡◌, ◌+◌, drop, map}
use Rattle.messages.specs.Record.{spelled}
use Rattle.answer_judge_facts.specs.Ranked.{alike_len}
use Rattle.answer_judge_facts.proofs.facts.alike_len.Given as goal

abbrev pub invariant-loop-i : goal.invariant-loop-i
invariant-loop-i l = l.i + alike_len (spelled l.first) (map spelled (drop l.i l.others)) ≡ alike_len (spelled l.first) (map spelled l.others)
