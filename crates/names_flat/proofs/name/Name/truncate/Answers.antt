use Rattle.std.proofs.Common.{◌≡◌, ◌∙◌, ◌++◌, ◌∷◌, [], List, ℕ, length, take, ap, sym, subst}
use Rattle.names_labels.specs.Flat.{spelled, SpellsRelative}
use Rattle.names_labels.proofs.Relatives.{spells_relative}
use Rattle.names_flat.proofs.Splits.{front_spells, split_there, read_relative}
use Rattle.names_flat.proofs.name.Name.truncate.Goals as goal

pub of_octets-requires : goal.of_octets-requires
of_octets-requires g c =
    let s = split_there c.args.self c.args.len c.requires in
    let b = c.truncate.new.self in
    let e = g.met.Octs.BuiltOctets.kept b ∙ c.truncate.ensures ∙ ap (take c.args.len) (sym (g.met.Octs.BuiltOctets.kept c.into_octets-octets.result) ∙ c.into_octets-octets.ensures.octets) in
    spells_relative (g.Octs.Octets.bytes b) s.front (subst (λ (xs : List ℕ). SpellsRelative xs s.front) (sym e) (front_spells c.args.self c.args.len (0 ∷ []) c.into_octets-octets.ensures.name c.requires))

pub returns : goal.returns
returns g c =
    let s = split_there c.args.self c.args.len c.requires in
    let b = c.truncate.new.self in
    let e = g.met.Octs.BuiltOctets.kept b ∙ c.truncate.ensures ∙ ap (take c.args.len) (sym (g.met.Octs.BuiltOctets.kept c.into_octets-octets.result) ∙ c.into_octets-octets.ensures.octets) in
    let r : c.of_octets.result ≡ s.front = c.of_octets.ensures ∙ read_relative (g.Octs.Octets.bytes b) s.front (subst (λ (xs : List ℕ). SpellsRelative xs s.front) (sym e) (front_spells c.args.self c.args.len (0 ∷ []) c.into_octets-octets.ensures.name c.requires)) in
    record { parts = (s.back, ap (λ m. m ++ s.back) r ∙ s.are); place = ap (λ m. length (spelled m)) r ∙ s.place_is }
