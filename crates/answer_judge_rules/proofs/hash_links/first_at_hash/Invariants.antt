use Rattle.std.proofs.Common.{◌≡◌, drop}
use Rattle.denial_laws.specs.NsecRules.{first_some}
use Rattle.denial_laws.specs.Nsec3Rules.{at_hash}
use Rattle.answer_judge_rules.proofs.hash_links.first_at_hash.Given as goal

abbrev pub invariant-loop-link : goal.invariant-loop-link
invariant-loop-link g l = first_some (at_hash l.apex (g.N.Labels.name l.name) l.rtype l.hash) (drop l.link-index l.links) ≡ first_some (at_hash l.apex (g.N.Labels.name l.name) l.rtype l.hash) l.links
