use Rattle.std.proofs.Common.{ap, ◌∙◌}
use Rattle.messages.specs.Questions.{asked_of}
use Rattle.evidence_laws.specs.Walking.{ds_at}
use Rattle.resolution_walk.specs.Query.{Query}
use Rattle.resolution_walk.proofs.Stopping.{judged_at}
use Rattle.resolution_walk.proofs.names_between.at_other.Goals as goal

pub at_asked-requires : goal.at_asked-requires
at_asked-requires g c = record {
  name = c.args.name.now;
  is = c.in_ok-asked.ensures ∙ ap (λ (x : Query). ds_at x.asked c.args.name.now) c.query.view_is;
  other = c.requires.other;
  reached = c.requires.reached;
}

pub returns-clause-judged : goal.returns-clause-judged
returns-clause-judged g c =
    let n = c.args.name.now in
    let is = c.in_ok-asked.ensures ∙ ap (λ (x : Query). ds_at x.asked n) c.query.view_is in
    judged_at c.args.evidence.now c.args.query.now (asked_of c.in_ok-asked.asked) n c.args.counts c.at_asked.result is c.at_asked.ensures.judged
