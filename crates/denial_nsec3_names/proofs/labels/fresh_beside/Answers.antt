use Rattle.std.proofs.Common.{true, false, refl, arith}
use Rattle.names_wire.specs.Label.{octets_of}
use Rattle.denial_rrsets.proofs.RowEnds.{same_not, same_where}
use Rattle.denial_nsec3_names.proofs.Beside.{rows_beside}
use Rattle.denial_nsec3_names.proofs.labels.fresh_beside.Goals as goal

pub returns-then-run-other : goal.returns-then-run-other
returns-then-run-other c =
    let run = c.args.run.now in
    let other = c.args.other.now in
    rows_beside run other c.in_ok-_label.behind.now c.in_ok-_beside.rest.now (octets_of c.in_ok-_label._label) (octets_of c.in_ok-_beside._beside) c.common_tail-tail.result false c.requires.run c.requires.other c.in_ok-_label.ensures c.in_ok-_beside.ensures c.common_tail-tail.ensures.same c.if-behind-rest.false (omega (arith, c.if-tail-behind.false))
    (same_not run other c.requires.run c.requires.other c.if-run-other.true)

pub returns-then-tail-run : goal.returns-then-tail-run
returns-then-tail-run c =
    let run = c.args.run.now in
    let other = c.args.other.now in
    rows_beside run other c.in_ok-_label.behind.now c.in_ok-_beside.rest.now (octets_of c.in_ok-_label._label) (octets_of c.in_ok-_beside._beside) c.common_tail-tail.result true c.requires.run c.requires.other c.in_ok-_label.ensures c.in_ok-_beside.ensures c.common_tail-tail.ensures.same c.if-behind-rest.false (omega (arith, c.if-tail-behind.false))
    (same_where run other c.common_tail-tail.result true c.requires.run c.requires.other c.common_tail-tail.ensures c.if-run-other.false ((λ h. c.if-tail-run.true), (λ h. refl)))

pub returns-else-tail-run : goal.returns-else-tail-run
returns-else-tail-run c =
    let run = c.args.run.now in
    let other = c.args.other.now in
    rows_beside run other c.in_ok-_label.behind.now c.in_ok-_beside.rest.now (octets_of c.in_ok-_label._label) (octets_of c.in_ok-_beside._beside) c.common_tail-tail.result false c.requires.run c.requires.other c.in_ok-_label.ensures c.in_ok-_beside.ensures c.common_tail-tail.ensures.same c.if-behind-rest.false (omega (arith, c.if-tail-behind.false))
    (same_where run other c.common_tail-tail.result false c.requires.run c.requires.other c.common_tail-tail.ensures c.if-run-other.false ((λ h. absurd cc), (λ h. absurd (c.if-tail-run.false h))))
