use Rattle.std.proofs.Common.{◌≡◌, ◌∙◌, ◌∷◌, [], ap, subst, length, arith}
use Rattle.std.proofs.lemmas.List.{length-take-le}
use Rattle.names_labels.specs.Flat.{SpellsRelative}
use Rattle.names_labels.proofs.Relatives.{spells_relative}
use Rattle.names_flat.proofs.Splits.{part_spells, place_in_wire, read_relative}
use Rattle.names_flat.proofs.name.Name.range.Goals as goal

pub split_at-requires : goal.split_at-requires
split_at-requires g c = omega (arith, place_in_wire c.args.self.now c.args.end c.requires.ends, ap length c.as_slice.ensures.value)

pub split_at-requires-2 : goal.split_at-requires-2
split_at-requires-2 g c =
    omega (arith, c.requires.ordered, ap length c.split_at.ensures.front, length-take-le c.args.end c.as_slice.result.now (omega (arith, place_in_wire c.args.self.now c.args.end c.requires.ends, ap length c.as_slice.ensures.value)))

pub of_octets-requires : goal.of_octets-requires
of_octets-requires g c =
    let p = part_spells c.args.self.now c.args.begin c.args.end (0 ∷ []) c.as_slice.result.now c.split_at.result.0.now c.split_at-2.result.1.now c.as_slice.ensures.value c.split_at.ensures.front c.split_at-2.ensures.back c.as_slice.ensures.name c.requires.begins c.requires.ends c.requires.ordered in
    spells_relative c.split_at-2.result.1.now p.0 p.1

pub returns : goal.returns
returns g c =
    let p = part_spells c.args.self.now c.args.begin c.args.end (0 ∷ []) c.as_slice.result.now c.split_at.result.0.now c.split_at-2.result.1.now c.as_slice.ensures.value c.split_at.ensures.front c.split_at-2.ensures.back c.as_slice.ensures.name c.requires.begins c.requires.ends c.requires.ordered in
    let same : c.of_octets.result ≡ p.0 = c.of_octets.ensures ∙ read_relative c.split_at-2.result.1.now p.0 p.1 in
    rw (same) (subst (λ xs. SpellsRelative xs p.0) (p.2) p.1)
