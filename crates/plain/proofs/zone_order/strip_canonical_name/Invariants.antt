use Rattle.std.proofs.Common.{◌≡◌, ◌++◌, map}
use Rattle.definitions.specs.Name.{Name}
use Rattle.names_labels.specs.Flat.{spelled}
use Rattle.names_labels.specs.Order.{in_case}
use Rattle.names_labels.specs.declared.order.Case.TheVariants.{Lowered}
use Rattle.plain.proofs.zone_order.strip_canonical_name.Given as goal

abbrev pub invariant-loop-label : goal.invariant-loop-label
invariant-loop-label g l =
    (done : Name) × record {
      labels : done ++ l.labels ≡ g.N.Labels.labels l.name;
      octets : l.octets ≡ spelled (map (in_case Lowered) done) ++ l.rest;
    }
