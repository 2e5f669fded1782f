use Rattle.std.proofs.Common.{◌∙◌, ◌++◌, [], List, ℕ, length, take, ap, sym, subst}
use Rattle.std.proofs.lemmas.List.{append-nil}
use Rattle.names_labels.specs.Flat.{spelled, labels_in, SpellsRelative, StartsLabel}
use Rattle.names_labels.proofs.Relatives.{spells_relative}
use Rattle.names_flat.proofs.Splits.{front_spells, split_there, read_relative}
use Rattle.names_flat.proofs.relative.RelativeName.truncate.Goals as goal

pub invariant_of-self : goal.invariant_of-self
invariant_of-self g c =
    let old = g.Octs.Octets.bytes c.self.inside.octets in
    let w = subst (λ m. StartsLabel m c.args.len) (sym c.self.view_is) c.requires in
    let s = split_there (labels_in old) c.args.len w in
    let b = c.truncate.new.self in
    let e = g.met.Octs.BuiltOctets.kept b ∙ c.truncate.ensures ∙ ap (take c.args.len) (sym (g.met.Octs.BuiltOctets.kept c.self.inside.octets) ∙ sym c.self.invariant.octets ∙ sym (append-nil (spelled (labels_in old)))) in
    spells_relative (g.Octs.Octets.bytes b) s.front (subst (λ (xs : List ℕ). SpellsRelative xs s.front) (sym e) (front_spells (labels_in old) c.args.len [] c.self.invariant.name w))

pub returns : goal.returns
returns g c =
    let old = g.Octs.Octets.bytes c.self.inside.octets in
    let w = subst (λ m. StartsLabel m c.args.len) (sym c.self.view_is) c.requires in
    let s = split_there (labels_in old) c.args.len w in
    let b = c.truncate.new.self in
    let e = g.met.Octs.BuiltOctets.kept b ∙ c.truncate.ensures ∙ ap (take c.args.len) (sym (g.met.Octs.BuiltOctets.kept c.self.inside.octets) ∙ sym c.self.invariant.octets ∙ sym (append-nil (spelled (labels_in old)))) in
    let r = read_relative (g.Octs.Octets.bytes b) s.front (subst (λ (xs : List ℕ). SpellsRelative xs s.front) (sym e) (front_spells (labels_in old) c.args.len [] c.self.invariant.name w)) in
    record { parts = (s.back, ap (λ m. m ++ s.back) r ∙ s.are ∙ c.self.view_is); place = ap (λ m. length (spelled m)) r ∙ s.place_is }
