use Rattle.std.proofs.Common.{◌≡◌, drop}
use Rattle.std.specs.Prelude.{IfSome}
use Rattle.denial_laws.specs.NsecRules.{first_some, covered}
use Rattle.answer_judge_rules.specs.Enclosers.{IsUntold}
use Rattle.answer_judge_rules.proofs.links.first_covered.Given as goal

abbrev pub invariant-loop-link : goal.invariant-loop-link
invariant-loop-link l = record {
  rest : first_some (covered l.asked.apex.now l.asked.name.now l.asked.rtype l.links) (drop l.link-index l.links) ≡ first_some (covered l.asked.apex.now l.asked.name.now l.asked.rtype l.links) l.links;
  sought : IfSome l.sought (IsUntold l.asked.apex.now l.asked.name.now l.asked.rtype l.links);
}
