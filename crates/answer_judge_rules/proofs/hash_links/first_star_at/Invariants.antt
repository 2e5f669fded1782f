use Rattle.std.proofs.Common.{◌≡◌, drop}
use Rattle.denial_laws.specs.NsecRules.{first_some}
use Rattle.denial_laws.specs.Nsec3Rules.{star_at}
use Rattle.answer_judge_rules.proofs.hash_links.first_star_at.Given as goal

abbrev pub invariant-loop-link : goal.invariant-loop-link
invariant-loop-link l = first_some (star_at l.hash l.rtype) (drop l.link-index l.links) ≡ first_some (star_at l.hash l.rtype) l.links
