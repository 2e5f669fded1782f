use Rattle.std.proofs.Common.{◌-◌, ◌≤◌, drop, length, map}
use Rattle.messages.specs.Record.{spelled}
use Rattle.answer_judge_facts.proofs.ChainRuns.{Gathering}
use Rattle.answer_judge_facts.proofs.facts.read_chain_groups.Given as goal

abbrev pub invariant-loop-start : goal.invariant-loop-start
invariant-loop-start l = Gathering l.message l.apex (map spelled l.chained) (map spelled (drop l.start l.chained)) l.groups.items × (l.start ≤ length l.chained)

abbrev pub decreases-loop-start : goal.decreases-loop-start
decreases-loop-start l = length l.chained - l.start
