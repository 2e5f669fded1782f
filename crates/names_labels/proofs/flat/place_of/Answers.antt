use Rattle.std.proofs.Common.{arith}
use Rattle.names_labels.proofs.Cuts.{octets_left}
use Rattle.names_labels.proofs.flat.place_of.Goals as goal

pub overflow_sub-result : goal.overflow_sub-result
overflow_sub-result c = omega (arith, octets_left c.args.run.now c.behind.result.now c.args.index c.requires c.behind.ensures.run c.behind.ensures.labels)

pub returns : goal.returns
returns c = omega (arith, octets_left c.args.run.now c.behind.result.now c.args.index c.requires c.behind.ensures.run c.behind.ensures.labels)
