use Rattle.std.proofs.Common.{◌+◌, sym, length-take-le}
use Rattle.names_wire.specs.Label.{octets_of}
use Rattle.names_labels.proofs.Cuts.{reaches_first, reaches_next, splits_last}
use Rattle.names_labels.proofs.flat.split_last_label.Goals as goal

pub loop-label-init : goal.loop-label-init
loop-label-init c = (0, reaches_first c.args.run.now c.in_ok-last.rest.now (octets_of c.in_ok-last.last) c.requires c.in_ok-last.ensures)

pub loop-label-preserved : goal.loop-label-preserved
loop-label-preserved c = (
  c.loop-label.invariant.0 + 1,
  reaches_next c.args.run.now c.loop-label.rest.now c.in-Some.behind.now c.loop-label.start c.loop-label.invariant.0 (octets_of c.loop-label.last) (octets_of c.in-Some.label) c.requires c.loop-label.invariant.1 c.in-Some.ensures,
)

pub slice_bounds-result-end : goal.slice_bounds-result-end
slice_bounds-result-end c =
    sym (length-take-le c.loop-label.start c.args.run.now (splits_last c.args.run.now c.loop-label.rest.now c.loop-label.start c.loop-label.invariant.0 (octets_of c.loop-label.last) c.requires c.loop-label.invariant.1 c.in_default.ensures).0)

pub returns : goal.returns
returns c = (splits_last c.args.run.now c.loop-label.rest.now c.loop-label.start c.loop-label.invariant.0 (octets_of c.loop-label.last) c.requires c.loop-label.invariant.1 c.in_default.ensures).1
