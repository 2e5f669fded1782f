use Rattle.std.proofs.Common.{◌≡◌, drop}
use Rattle.denial_laws.specs.NsecRules.{first_some, at_star}
use Rattle.answer_judge_rules.proofs.links.first_at_star.Given as goal

abbrev pub invariant-loop-link : goal.invariant-loop-link
invariant-loop-link l = first_some (at_star l.apex l.star l.rtype) (drop l.link-index l.links) ≡ first_some (at_star l.apex l.star l.rtype) l.links
