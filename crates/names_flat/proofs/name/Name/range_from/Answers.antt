use Rattle.std.proofs.Common.{◌≡◌, ◌∙◌, ap, sym, subst, drop, length, arith}
use Rattle.names_labels.specs.Flat.{SpellsName}
use Rattle.names_labels.proofs.Checks.{spells_flat}
use Rattle.names_flat.proofs.Splits.{place_in_wire, back_spells, split_there, read_name}
use Rattle.names_flat.proofs.name.Name.range_from.Goals as goal

pub split_at-requires : goal.split_at-requires
split_at-requires g c = omega (arith, place_in_wire c.args.self.now c.args.begin c.requires, ap length c.as_slice.ensures.value)

pub of_octets-requires : goal.of_octets-requires
of_octets-requires g c =
    let n = (split_there c.args.self.now c.args.begin c.requires).back in
    let e = c.split_at.ensures.back ∙ ap (drop c.args.begin) c.as_slice.ensures.value in
    spells_flat c.split_at.result.1.now n (subst (λ xs. SpellsName xs n) (sym e) (back_spells c.args.self.now c.args.begin c.as_slice.ensures.name c.requires))

pub returns : goal.returns
returns g c =
    let n = (split_there c.args.self.now c.args.begin c.requires).back in
    let e = c.split_at.ensures.back ∙ ap (drop c.args.begin) c.as_slice.ensures.value in
    let s = back_spells c.args.self.now c.args.begin c.as_slice.ensures.name c.requires in
    let same : c.of_octets.result ≡ n = c.of_octets.ensures ∙ read_name c.split_at.result.1.now n (subst (λ xs. SpellsName xs n) (sym e) s) in
    rw (same) s
