use Rattle.std.proofs.Common.{◌≡◌, drop}
use Rattle.denial_laws.specs.NsecRules.{first_some, at_owner}
use Rattle.answer_judge_rules.proofs.links.first_at_owner.Given as goal

abbrev pub invariant-loop-link : goal.invariant-loop-link
invariant-loop-link l = first_some (at_owner l.asked.apex.now l.asked.name.now l.asked.rtype) (drop l.link-index l.links) ≡ first_some (at_owner l.asked.apex.now l.asked.name.now l.asked.rtype) l.links
