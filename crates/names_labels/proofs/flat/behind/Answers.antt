use Rattle.std.proofs.Common.{inl, inr, arith}
use Rattle.names_wire.specs.Label.{octets_of}
use Rattle.names_labels.proofs.Cuts.{begun, one_behind, labels_behind}
use Rattle.names_labels.proofs.flat.behind.Goals as goal

pub loop-init : goal.loop-init
loop-init c = begun c.args.run.now c.requires

pub split_label-requires : goal.split_label-requires
split_label-requires c = c.loop.invariant.left

pub loop-preserved : goal.loop-preserved
loop-preserved c = one_behind c.args.run.now c.loop.rest.now c.in-Some.behind.now c.loop.counter (octets_of c.in-Some.field-0-0) c.requires c.loop.invariant c.in-Some.ensures

pub returns-after-loop-clause-labels : goal.returns-after-loop-clause-labels
returns-after-loop-clause-labels c = labels_behind c.args.run.now c.loop.rest.now c.loop.counter c.args.count c.loop.invariant (inl (omega arith))

pub returns-in_default-clause-labels : goal.returns-in_default-clause-labels
returns-in_default-clause-labels c = labels_behind c.args.run.now c.loop.rest.now c.loop.counter c.args.count c.loop.invariant (inr (c.in_default.ensures, omega arith))
