use Rattle.std.proofs.Common.{◌≡◌, drop}
use Rattle.denial_laws.specs.Nsec3Rules.{asks_star}
use Rattle.answer_judge_rules.proofs.hash_links.is_denied.Given as goal

abbrev pub invariant-loop-link : goal.invariant-loop-link
invariant-loop-link l = asks_star l.hash (drop l.link-index l.links) ≡ asks_star l.hash l.links
