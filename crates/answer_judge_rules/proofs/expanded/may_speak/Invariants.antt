use Rattle.std.proofs.Common.{◌≡◌, drop}
use Rattle.denial_laws.specs.NsecRules.{first_some, expanded_by, expanded}
use Rattle.answer_judge_rules.proofs.expanded.may_speak.Given as goal

abbrev pub invariant-loop-link : goal.invariant-loop-link
invariant-loop-link l = first_some (expanded_by l.apex l.name l.rrset) (drop l.link-index l.links) ≡ expanded l.apex l.name l.rrset l.links
