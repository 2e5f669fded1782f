use Rattle.std.proofs.Common.{ap, arith, length}
use Rattle.names_labels.specs.Flat.{labels_in}
use Rattle.names_labels.proofs.Relatives.{relative_short}
use Rattle.names_builder.proofs.Builds.{holds_labels}
use Rattle.names_builder.proofs.builder.NameBuilder.behind.Goals as goal

pub invariant_of-result : goal.invariant_of-result
invariant_of-result g c =
    let bs = g.B.OctetsBuilder.bytes c.args.builder in
    let short = relative_short (labels_in bs) c.requires.name in
    holds_labels bs (labels_in bs) c.requires (omega (arith, short, ap length c.requires.octets))
