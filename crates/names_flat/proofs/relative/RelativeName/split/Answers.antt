use Rattle.std.proofs.Common.{◌≡◌, ◌∙◌, ◌++◌, [], ap, sym, subst, take, drop, length, arith}
use Rattle.std.proofs.lemmas.List.{append-nil}
use Rattle.names_labels.specs.Flat.{spelled, SpellsRelative}
use Rattle.names_labels.proofs.Relatives.{spells_relative}
use Rattle.names_flat.proofs.Splits.{place_within, front_spells, back_spells_relative, split_there, read_relative}
use Rattle.names_flat.proofs.relative.RelativeName.split.Goals as goal

pub split_at-requires : goal.split_at-requires
split_at-requires g c = omega (arith, place_within c.args.self.now c.args.mid c.requires, ap length c.as_slice.ensures.value)

pub of_octets-requires : goal.of_octets-requires
of_octets-requires g c =
    let s = split_there c.args.self.now c.args.mid c.requires in
    let e = c.split_at.ensures.front ∙ ap (take c.args.mid) (c.as_slice.ensures.value ∙ sym (append-nil (spelled c.args.self.now))) in
    spells_relative c.split_at.result.0.now s.front (subst (λ xs. SpellsRelative xs s.front) (sym e) (front_spells c.args.self.now c.args.mid [] c.as_slice.ensures.name c.requires))

pub of_octets-requires-2 : goal.of_octets-requires-2
of_octets-requires-2 g c =
    let s = split_there c.args.self.now c.args.mid c.requires in
    let e = c.split_at.ensures.back ∙ ap (drop c.args.mid) c.as_slice.ensures.value in
    spells_relative c.split_at.result.1.now s.back (subst (λ xs. SpellsRelative xs s.back) (sym e) (back_spells_relative c.args.self.now c.args.mid c.as_slice.ensures.name c.requires))

pub returns : goal.returns
returns g c =
    let s = split_there c.args.self.now c.args.mid c.requires in
    let e = c.split_at.ensures.front ∙ ap (take c.args.mid) (c.as_slice.ensures.value ∙ sym (append-nil (spelled c.args.self.now))) in
    let f = c.split_at.ensures.back ∙ ap (drop c.args.mid) c.as_slice.ensures.value in
    let front : c.of_octets.result ≡ s.front = c.of_octets.ensures ∙ read_relative c.split_at.result.0.now s.front (subst (λ xs. SpellsRelative xs s.front) (sym e) (front_spells c.args.self.now c.args.mid [] c.as_slice.ensures.name c.requires)) in
    let back : c.of_octets-2.result ≡ s.back = c.of_octets-2.ensures ∙ read_relative c.split_at.result.1.now s.back (subst (λ xs. SpellsRelative xs s.back) (sym f) (back_spells_relative c.args.self.now c.args.mid c.as_slice.ensures.name c.requires)) in
    record { parts = (λ i. front i ++ back i) ∙ s.are; place = ap (λ n. length (spelled n)) front ∙ s.place_is }
