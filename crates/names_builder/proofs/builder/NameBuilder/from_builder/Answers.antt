use Rattle.std.proofs.Common.{None, ap, arith, length}
use Rattle.names_labels.specs.Flat.{labels_in, SpellsRelative}
use Rattle.names_builder.proofs.Builds.{holds_labels, holds_building}
use Rattle.names_labels.proofs.Relatives.{relative_short}
use Rattle.names_builder.proofs.builder.NameBuilder.from_builder.Goals as goal

pub invariant_of-result : goal.invariant_of-result
invariant_of-result g c =
    let bs = g.B.OctetsBuilder.bytes c.args.builder in
    let s : SpellsRelative bs (labels_in bs) = rw c.as_slice.ensures at c.in-Ok.ensures.ok in
    let short = relative_short (labels_in bs) s.name in
    holds_building bs None _ (holds_labels bs (labels_in bs) s (omega (arith, short, ap length s.octets)))
