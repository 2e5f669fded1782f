use Rattle.std.proofs.Common.{ap, length, arith}
use Rattle.names_labels.proofs.Runs.{length-labels_in}
use Rattle.names_labels.proofs.flat.label_count.Goals as goal

pub overflow_add-count : goal.overflow_add-count
overflow_add-count c =
    omega (arith, length-labels_in c.args.run.now c.requires, c.loop-behind.invariant.count, ap length c.in-Some.ensures.first)
