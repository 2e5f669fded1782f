use Rattle.std.proofs.Common.{◌∙◌, ◌∷◌, ap, sym}
use Rattle.names_wire.specs.Label.{octets_of}
use Rattle.names_labels.proofs.Checks.{spells_flat}
use Rattle.names_wire.proofs.PartLabel.{not_both}
use Rattle.names_flat.proofs.Splits.{first_of_name, only_root_label, read_name}
use Rattle.names_flat.proofs.name.Name.split_first.Goals as goal

pub returns-then-is_root : goal.returns-then-is_root
returns-then-is_root g c =
    only_root_label c.args.self.now c.run.result.now c.in_ok-label.rest.now (octets_of c.in_ok-label.label) c.run.ensures.labels c.run.ensures.name c.in_ok-label.ensures (c.is_root.ensures.0 c.if-is_root.true)

pub of_octets-requires : goal.of_octets-requires
of_octets-requires g c =
    let f = first_of_name c.args.self.now c.run.result.now c.in_ok-label.rest.now (octets_of c.in_ok-label.label) c.run.ensures.labels c.run.ensures.name c.in_ok-label.ensures (λ e. not_both c.is_root.result (c.is_root.ensures.1 e) c.if-is_root.false) in
    spells_flat c.in_ok-label.rest.now f.0 f.2

pub returns : goal.returns
returns g c =
    let f = first_of_name c.args.self.now c.run.result.now c.in_ok-label.rest.now (octets_of c.in_ok-label.label) c.run.ensures.labels c.run.ensures.name c.in_ok-label.ensures (λ e. not_both c.is_root.result (c.is_root.ensures.1 e) c.if-is_root.false) in
    f.1 ∙ ap (λ m. octets_of c.in_ok-label.label ∷ m) (sym (c.of_octets.ensures ∙ read_name c.in_ok-label.rest.now f.0 f.2))
