use Rattle.std.proofs.Common.{ap, sym, ◌∙◌, subst}
use Rattle.names_labels.specs.Flat.{labels_in, IsFlatRelative}
use Rattle.names_labels.proofs.Relatives.{spells_relative}
use Rattle.names_builder.specs.Building.{all_labels}
use Rattle.names_builder.proofs.Builds.{read_finished}
use Rattle.names_flat.proofs.builder.NameBuilderFinish.finish.Goals as goal

pub of_octets-requires : goal.of_octets-requires
of_octets-requires g c =
    let built = c.into_octets.result in
    subst (λ xs. IsFlatRelative xs) (sym (g.met.B.BuiltOctets.kept built)) (spells_relative (g.B.OctetsBuilder.bytes built) (all_labels c.args.self) c.into_octets.ensures)

pub returns : goal.returns
returns g c =
    let built = c.into_octets.result in
    c.of_octets.ensures ∙ ap labels_in (g.met.B.BuiltOctets.kept built) ∙ read_finished (g.B.OctetsBuilder.bytes built) (all_labels c.args.self) c.into_octets.ensures
