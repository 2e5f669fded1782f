use Rattle.std.proofs.Common.{◌≡◌, ◌++◌, map, length}
use Rattle.definitions.specs.Name.{Name}
use Rattle.names_wire.specs.Room.{LeavesRoom}
use Rattle.names_labels.specs.Flat.{spelled}
use Rattle.names_labels.specs.Order.{in_case}
use Rattle.names_rdata.proofs.composer.compose_labels.Given as goal

abbrev pub invariant-loop-label : goal.invariant-loop-label
invariant-loop-label g l =
    let old = g.B.OctetsBuilder.bytes l.fn.target in
    (done : Name) × record {
      labels : done ++ l.labels ≡ l.fn.labels;
      octets : g.B.OctetsBuilder.bytes l.target ≡ old ++ spelled (map (in_case l.case) done);
      len : l.len ≡ length old;
      left : LeavesRoom g.B.OctetsBuilder.lacks_room l.fn.target l.target (length (spelled (map (in_case l.case) done)));
    }
