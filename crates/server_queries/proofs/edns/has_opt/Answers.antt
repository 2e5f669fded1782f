use Rattle.std.proofs.Common.{◌≡◌, ◌∙◌, ◌<◌, false, sym, arith}
use Rattle.messages.specs.Record.{spelled}
use Rattle.server_queries.specs.Options.{is_opt}
use Rattle.server_queries.proofs.Passed.{passed}
use Rattle.server_queries.proofs.edns.has_opt.Goals as goal

pub loop-preserved : goal.loop-preserved
loop-preserved c =
    let other : is_opt (spelled c.in-Some.record) ≡ false = sym c.eq.ensures ∙ c.if-eq.false in
    let more : c.loop.counter < c.args.count = omega arith in
    passed c.args.count c.loop.counter (spelled c.in-Some.record) c.loop.records c.next.new.self _ more c.in-Some.ensures.steps other c.loop.invariant
