use Rattle.std.proofs.Common.{inr, arith}
use Rattle.names_wire.specs.Label.{octets_of}
use Rattle.names_labels.proofs.Checks.{ends_name, stops_relative, read_more, splits_off, test_empty, test_some, some_octets, nil_of}
use Rattle.names_labels.proofs.check.check_absolute.Goals as goal

pub returns-then-is_empty-clause-ok : goal.returns-then-is_empty-clause-ok
returns-then-is_empty-clause-ok c =
    let l = c.is_root.ensures.0 c.if-is_root.true in
    let r = nil_of c.in_ok-label.behind.now (test_empty c.in_ok-label.behind.now _ c.is_empty.ensures c.if-is_empty.true) in
    let b = splits_off c.loop-label.rest.now c.in_ok-label.behind.now (octets_of c.in_ok-label.label) c.in_ok-label.ensures in
    ends_name c.args.octets.now c.loop-label.rest.now c.loop-label.invariant (rw l at rw r at b) (omega arith)

pub returns-then-is_empty-2-clause-refused : goal.returns-then-is_empty-2-clause-refused
returns-then-is_empty-2-clause-refused c =
    inr (stops_relative c.args.octets.now c.loop-label.rest.now c.in_ok-label.behind.now _ c.loop-label.invariant (splits_off _ _ _ c.in_ok-label.ensures) (omega arith)
    (some_octets _ _ c.is_root.ensures.1 c.if-is_root.false)
    (test_empty c.in_ok-label.behind.now _ c.is_empty-in-loop-label.ensures c.if-is_empty-2.true))

pub loop-label-preserved : goal.loop-label-preserved
loop-label-preserved c =
    read_more c.args.octets.now c.loop-label.rest.now c.in_ok-label.behind.now _ c.loop-label.invariant (splits_off _ _ _ c.in_ok-label.ensures)
    (some_octets _ _ c.is_root.ensures.1 c.if-is_root.false)
    (test_some c.in_ok-label.behind.now _ c.is_empty-in-loop-label.ensures c.if-is_empty-2.false)
