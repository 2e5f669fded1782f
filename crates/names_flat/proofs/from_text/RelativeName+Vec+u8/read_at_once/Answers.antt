use Rattle.std.proofs.Common.{◌≡◌, ◌∙◌, ℕ, List, Option, Some, IfSome, sym, ap, subst}
use Rattle.std.specs.Str.{chars}
use Rattle.std.specs.Global.{Vec}
use Rattle.std.proofs.lemmas.Str.{chars-IsAscii}
use Rattle.definitions.specs.Name.{Name}
use Rattle.definitions.specs.Text.{relative_of_text}
use Rattle.names_labels.specs.Flat.{SpellsRelative, labels_in}
use Rattle.names_labels.proofs.Runs.{labels_in-spelled}
use Rattle.names_builder.specs.TextWalk.{SpellsRelativeText}
use Rattle.names_flat.proofs.from_text.RelativeName+Vec+u8.read_at_once.Goals as goal

spelled_text : (text : List ℕ) (o : Option (Vec ℕ)) (v : Vec ℕ) → IfSome o (λ v. SpellsRelativeText text v.items) → o ≡ Some v → SpellsRelativeText text v.items
spelled_text text o v h e = let P : Option (Vec ℕ) → Type 0 = λ x. IfSome x (λ v. SpellsRelativeText text v.items) in subst P e h

pub of_octets-requires : goal.of_octets-requires
of_octets-requires c =
    let s = spelled_text c.as_bytes.result.now c.in-Ok-Some.field-0 c.in-Ok-Some.octets c.in-Ok-Some.ensures c.in-Ok-Some.field-0-is in
    let P : Name → Type 0 = λ n. SpellsRelative c.in-Ok-Some.octets.items n in
    subst P (sym (ap labels_in (sym s.spells.octets) ∙ labels_in-spelled s.name)) s.spells

pub returns-in-Ok-Some-clause-ok : goal.returns-in-Ok-Some-clause-ok
returns-in-Ok-Some-clause-ok c =
    let s = spelled_text c.as_bytes.result.now c.in-Ok-Some.field-0 c.in-Ok-Some.octets c.in-Ok-Some.ensures c.in-Ok-Some.field-0-is in
    ap (λ t. relative_of_text (chars t)) (sym c.as_bytes.ensures.value) ∙ ap relative_of_text (chars-IsAscii c.as_bytes.result.now s.ascii)
    ∙ s.read ∙ ap Some (sym (c.of_octets.ensures ∙ ap labels_in (sym s.spells.octets) ∙ labels_in-spelled s.name))
