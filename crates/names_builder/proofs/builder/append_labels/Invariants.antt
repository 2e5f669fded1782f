use Rattle.std.proofs.Common.{◌≡◌, ◌++◌, length}
use Rattle.definitions.specs.Name.{Name}
use Rattle.names_labels.specs.Flat.{spelled}
use Rattle.names_builder.proofs.builder.append_labels.Given as goal

abbrev pub invariant-loop-label : goal.invariant-loop-label
invariant-loop-label g l =
    let old = g.B.OctetsBuilder.bytes l.fn.builder in
    (done : Name) × record {
      labels : done ++ l.labels ≡ g.N.Labels.labels l.name;
      octets : g.B.OctetsBuilder.bytes l.builder ≡ old ++ spelled done;
      len : l.len ≡ length old;
    }
