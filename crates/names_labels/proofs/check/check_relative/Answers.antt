use Rattle.std.proofs.Common.{length, sym, arith}
use Rattle.names_wire.specs.Label.{octets_of}
use Rattle.names_labels.proofs.Checks.{splits_off, some_octets}
use Rattle.std.proofs.lemmas.Bool.{eqb-true}
use Rattle.names_labels.proofs.Relatives.{labels_more, ends_relative}
use Rattle.names_labels.proofs.check.check_relative.Goals as goal

pub loop-rest-preserved : goal.loop-rest-preserved
loop-rest-preserved c =
    labels_more c.args.octets.now c.loop-rest.rest.now c.in_ok-label.behind.now (octets_of c.in_ok-label.label) c.loop-rest.invariant
    (splits_off c.loop-rest.rest.now c.in_ok-label.behind.now (octets_of c.in_ok-label.label) c.in_ok-label.ensures)
    (some_octets _ _ c.is_root.ensures.1 c.if-is_root.false)

pub returns-clause-ok : goal.returns-clause-ok
returns-clause-ok c =
    ends_relative c.args.octets.now c.loop-rest.rest.now c.loop-rest.invariant (eqb-true (length c.loop-rest.rest.now) 0 (sym c.loop-rest-test.ensures)) (omega arith)
