use Rattle.std.proofs.Common.{◌≡◌, ◌∙◌, List, ℕ, length, ap, sym, subst}
use Rattle.std.proofs.lemmas.List.{length-map}
use Rattle.std.specs.Str.{str_to_ascii_lowercase}
use Rattle.std.specs.Char.{to_ascii_lowercase}
use Rattle.definitions.specs.Name.{low}
use Rattle.names_labels.specs.Flat.{labels_in, SpellsRelative}
use Rattle.names_labels.proofs.Relatives.{spells_relative}
use Rattle.names_flat.proofs.Splits.{lower_spells_relative, read_relative}
use Rattle.names_flat.proofs.relative.RelativeName.make_canonical.Goals as goal

pub invariant_of-self : goal.invariant_of-self
invariant_of-self g c =
    let b = c.self.inside.octets in
    let old = g.Octs.Octets.bytes b in
    let xs = c.make_ascii_lowercase.new.self in
    let e : xs ≡ str_to_ascii_lowercase old = c.make_ascii_lowercase.ensures.after ∙ ap str_to_ascii_lowercase (c.as_mut_slice.ensures.value ∙ sym (g.met.Octs.BuiltOctets.kept b)) in
    let l : length xs ≡ length (g.Octs.OctetsBuilder.bytes b) = ap length e ∙ length-map old to_ascii_lowercase ∙ ap length (g.met.Octs.BuiltOctets.kept b) in
    let now : g.Octs.Octets.bytes (g.Octs.OctetsBuilder.with_bytes b xs) ≡ str_to_ascii_lowercase old = g.met.Octs.BuiltOctets.kept (g.Octs.OctetsBuilder.with_bytes b xs) ∙ g.met.Octs.OctetsBuilder.shows b xs l ∙ e in
    let s = lower_spells_relative old (labels_in old) c.self.invariant in
    let t = subst (λ (ys : List ℕ). SpellsRelative ys (low (labels_in old))) (sym now) s in
    spells_relative (g.Octs.Octets.bytes (g.Octs.OctetsBuilder.with_bytes b xs)) (low (labels_in old)) t

pub returns : goal.returns
returns g c =
    let b = c.self.inside.octets in
    let old = g.Octs.Octets.bytes b in
    let xs = c.make_ascii_lowercase.new.self in
    let e : xs ≡ str_to_ascii_lowercase old = c.make_ascii_lowercase.ensures.after ∙ ap str_to_ascii_lowercase (c.as_mut_slice.ensures.value ∙ sym (g.met.Octs.BuiltOctets.kept b)) in
    let l : length xs ≡ length (g.Octs.OctetsBuilder.bytes b) = ap length e ∙ length-map old to_ascii_lowercase ∙ ap length (g.met.Octs.BuiltOctets.kept b) in
    let now : g.Octs.Octets.bytes (g.Octs.OctetsBuilder.with_bytes b xs) ≡ str_to_ascii_lowercase old = g.met.Octs.BuiltOctets.kept (g.Octs.OctetsBuilder.with_bytes b xs) ∙ g.met.Octs.OctetsBuilder.shows b xs l ∙ e in
    let s = lower_spells_relative old (labels_in old) c.self.invariant in
    let t = subst (λ (ys : List ℕ). SpellsRelative ys (low (labels_in old))) (sym now) s in
    read_relative (g.Octs.Octets.bytes (g.Octs.OctetsBuilder.with_bytes b xs)) (low (labels_in old)) t ∙ ap low c.self.view_is
