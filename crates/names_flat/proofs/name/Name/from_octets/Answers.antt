use Rattle.names_labels.specs.Refused.{RefusedName}
use Rattle.names_labels.proofs.Checks.{refused_spells_none}
use Rattle.names_flat.proofs.name.Name.from_octets.Goals as goal

pub returns-in-Err-clause-accepts : goal.returns-in-Err-clause-accepts
returns-in-Err-clause-accepts g c =
    let refused : RefusedName (g.Octs.Octets.bytes c.args.octets) c.in-Err.error = rw c.as_slice.ensures at c.in-Err.ensures.refused in
    (λ e. cc, λ (n, s). absurd (refused_spells_none (g.Octs.Octets.bytes c.args.octets) c.in-Err.error n refused s))
