use Rattle.std.proofs.Common.{◌≡◌, drop}
use Rattle.denial_laws.specs.NsecRules.{first_some}
use Rattle.answer_judge_facts.proofs.times.first_signed.Given as goal

abbrev pub invariant-loop-group : goal.invariant-loop-group
invariant-loop-group l = first_some (λ g. g.verified) (drop l.group-index l.groups) ≡ first_some (λ g. g.verified) l.groups
