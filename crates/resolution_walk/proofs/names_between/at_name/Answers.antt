use Rattle.std.proofs.Common.{ap, sym, ◌∙◌}
use Rattle.resolution_walk.specs.Between.{is_itself}
use Rattle.resolution_walk.specs.Query.{Query}
use Rattle.resolution_walk.proofs.Hashed.{no_more}
use Rattle.resolution_walk.proofs.Stopping.{itself_at, other_at}
use Rattle.resolution_walk.proofs.names_between.at_name.Goals as goal

pub at_other-requires-clause-other : goal.at_other-requires-clause-other
at_other-requires-clause-other g c =
    ap (λ (x : Query). is_itself x.asked c.args.name.now) (sym c.query.view_is) ∙ sym c.is_itself.ensures ∙ c.if-is_itself.false

pub returns-then-is_itself-clause-judged : goal.returns-then-is_itself-clause-judged
returns-then-is_itself-clause-judged g c =
    let itself = ap (λ (x : Query). is_itself x.asked c.args.name.now) (sym c.query.view_is) ∙ sym c.is_itself.ensures ∙ c.if-is_itself.true in
    itself_at c.args.evidence.now c.args.query.now c.args.name.now c.args.counts itself

pub returns-else-is_itself-clause-judged : goal.returns-else-is_itself-clause-judged
returns-else-is_itself-clause-judged g c =
    let other = ap (λ (x : Query). is_itself x.asked c.args.name.now) (sym c.query.view_is) ∙ sym c.is_itself.ensures ∙ c.if-is_itself.false in
    other_at c.args.evidence.now c.args.query.now c.args.name.now c.args.counts c.at_other.result other c.at_other.ensures.judged

pub returns-then-is_itself-clause-hashed : goal.returns-then-is_itself-clause-hashed
returns-then-is_itself-clause-hashed g c = no_more _ c.args.counts
