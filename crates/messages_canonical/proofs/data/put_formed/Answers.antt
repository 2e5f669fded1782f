use Rattle.definitions.specs.Limits.{pointer_limit}
use Rattle.messages_canonical.proofs.Pieces.{part_more}
use Rattle.messages_canonical.proofs.data.put_formed.Goals as goal

pub loop-part-preserved : goal.loop-part-preserved
loop-part-preserved c =
    let put = rw c.in-Some.is at c.in_ok-behind.ensures in
    part_more pointer_limit c.args.message.now c.args.limit c.form_of-part-items.result.now c.loop-part.part-index _ c.loop-part.at c.in-Some.behind
    c.loop-part.rdata.items c.put_part.new.rdata.items put.0 _ c.loop-part-test.true c.loop-part.invariant put.1 put.2
