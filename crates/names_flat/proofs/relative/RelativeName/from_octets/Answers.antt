use Rattle.names_labels.specs.RefusedRelative.{RefusedRelative}
use Rattle.names_labels.proofs.Relatives.{refused_relative}
use Rattle.names_flat.proofs.relative.RelativeName.from_octets.Goals as goal

pub returns-in-Err-clause-accepts : goal.returns-in-Err-clause-accepts
returns-in-Err-clause-accepts g c =
    let refused : RefusedRelative (g.Octs.Octets.bytes c.args.octets) c.in-Err.error = rw c.as_slice.ensures at c.in-Err.ensures.refused in
    (λ e. cc, λ (n, s). absurd (refused_relative (g.Octs.Octets.bytes c.args.octets) c.in-Err.error n refused s))
