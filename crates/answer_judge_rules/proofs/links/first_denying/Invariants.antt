use Rattle.std.proofs.Common.{◌≡◌, drop}
use Rattle.denial_laws.specs.NsecRules.{first_some, denies}
use Rattle.answer_judge_rules.proofs.links.first_denying.Given as goal

abbrev pub invariant-loop-link : goal.invariant-loop-link
invariant-loop-link l = first_some (denies l.name) (drop l.link-index l.links) ≡ first_some (denies l.name) l.links
