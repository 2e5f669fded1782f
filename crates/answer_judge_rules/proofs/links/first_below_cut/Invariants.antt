use Rattle.std.proofs.Common.{◌≡◌, drop}
use Rattle.denial_laws.specs.NsecRules.{first_some, below_cut}
use Rattle.answer_judge_rules.proofs.links.first_below_cut.Given as goal

abbrev pub invariant-loop-link : goal.invariant-loop-link
invariant-loop-link l = first_some (below_cut l.apex l.name) (drop l.link-index l.links) ≡ first_some (below_cut l.apex l.name) l.links
