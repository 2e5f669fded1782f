use Rattle.std.proofs.Common.{◌≡◌, drop}
use Rattle.denial_laws.specs.NsecRules.{first_some}
use Rattle.denial_laws.specs.Nsec3Rules.{cut_above}
use Rattle.answer_judge_rules.proofs.hash_links.first_cut_above.Given as goal

abbrev pub invariant-loop-link : goal.invariant-loop-link
invariant-loop-link g l = first_some (cut_above l.apex (g.N.Labels.name l.ancestor) l.hash) (drop l.link-index l.links) ≡ first_some (cut_above l.apex (g.N.Labels.name l.ancestor) l.hash) l.links
