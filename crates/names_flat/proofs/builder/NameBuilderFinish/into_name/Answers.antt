use Rattle.std.proofs.Common.{ap, sym, ◌∙◌, subst}
use Rattle.names_labels.specs.Flat.{name_in, IsFlat}
use Rattle.names_labels.proofs.Checks.{spells_flat}
use Rattle.names_builder.specs.Building.{all_labels}
use Rattle.names_builder.proofs.Builds.{read_name}
use Rattle.names_flat.proofs.builder.NameBuilderFinish.into_name.Goals as goal

pub of_octets-requires : goal.of_octets-requires
of_octets-requires g c =
    let built = c.in-Ok.octets in
    subst (λ xs. IsFlat xs) (sym (g.met.B.BuiltOctets.kept built)) (spells_flat (g.B.OctetsBuilder.bytes built) (all_labels c.args.self) c.in-Ok.ensures)

pub returns-in-Ok-clause-ok : goal.returns-in-Ok-clause-ok
returns-in-Ok-clause-ok g c =
    let built = c.in-Ok.octets in
    c.of_octets.ensures ∙ ap name_in (g.met.B.BuiltOctets.kept built) ∙ read_name (g.B.OctetsBuilder.bytes built) (all_labels c.args.self) c.in-Ok.ensures
