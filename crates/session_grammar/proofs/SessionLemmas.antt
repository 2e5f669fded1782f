-- A line behind others.
use Rattle.std.proofs.Common.{◌≡◌, ℕ, Bool, true, false, List, Option, Some, None, refl, ap, ◌∙◌}
use Rattle.std.specs.Prelude.{cond}
use Rattle.std.specs.Str.{IsUtf8, is_utf8}
use Rattle.std.proofs.lemmas.Str.{IsUtf8-from_is_utf8, is_utf8-from_IsUtf8}
use Rattle.session_grammar.specs.Sessions.{Lines, fields_of, with_fields, with_line}
use Rattle.session_grammar.specs.Lines.{is_passed_over}

abbrev read_text : Lines → List ℕ → Bool → Option Lines
read_text s line b = cond b (with_fields s (fields_of line)) None

counted : (s : Lines) (line : List ℕ) → is_passed_over line ≡ false → with_line s line ≡ read_text s line (is_utf8 line)
counted s line h = ap (λ b. cond b (Some s) (read_text s line (is_utf8 line))) h

refuted : (b : Bool) → (b ≡ true → ⊥) → b ≡ false
refuted true h = absurd (h refl)
refuted false h = refl

pub no_text : (s : Lines) (line : List ℕ) → is_passed_over line ≡ false → (IsUtf8 line → ⊥) → with_line s line ≡ None
no_text s line h n = counted s line h ∙ ap (read_text s line) (refuted (is_utf8 line) (λ e. n (IsUtf8-from_is_utf8 line e)))

pub a_text : (s : Lines) (line : List ℕ) → is_passed_over line ≡ false → IsUtf8 line → with_line s line ≡ with_fields s (fields_of line)
a_text s line h u = counted s line h ∙ ap (read_text s line) (is_utf8-from_IsUtf8 line u)
