-- Lines that are read behind that of the zone, and the first line of a journal.
use Rattle.std.proofs.Common.{◌≡◌, ℕ, Bool, true, false, cond, List, [], Option, Some, None, refl, ap, ◌∙◌}
use Rattle.std.specs.Str.{IsUtf8, is_utf8}
use Rattle.std.proofs.lemmas.Str.{IsUtf8-from_is_utf8, is_utf8-from_IsUtf8}
use Rattle.session_grammar.specs.Grammar.{◌>>=◌, zone_line}
use Rattle.session_grammar.specs.Lines.{is_passed_over}
use Rattle.session_grammar.specs.Sessions.{fields_of}
use Rattle.server_zone.specs.StateLines.{Nothing, fields_line, state_line}
use Rattle.server_zone.specs.Journals.{Phase, Empty, Beginning, first_line}

refuted : (b : Bool) → (b ≡ true → ⊥) → b ≡ false
refuted true h = absurd (h refl)
refuted false h = refl

read_text : {X : Type 0} → (List (List ℕ) → Option X) → List ℕ → Bool → Option X
read_text read line b = cond b (read (fields_of line)) None

-- a line that says something
read_counted : {X : Type 0} → X → (List (List ℕ) → Option X) → List ℕ → Option X
read_counted x read line = cond (is_passed_over line) (Some x) (read_text read line (is_utf8 line))

no_text : {X : Type 0} (x : X) (read : List (List ℕ) → Option X) (line : List ℕ) → is_passed_over line ≡ false → (IsUtf8 line → ⊥) → read_counted x read line ≡ None
unfolding read_counted read_text
no_text x read line h n =
    ap (λ b. cond b (Some x) (cond (is_utf8 line) (read (fields_of line)) None)) h
    ∙ ap (λ b. cond b (read (fields_of line)) None) (refuted (is_utf8 line) (λ e. n (IsUtf8-from_is_utf8 line e)))

a_text : {X : Type 0} (x : X) (read : List (List ℕ) → Option X) (line : List ℕ) → is_passed_over line ≡ false → IsUtf8 line → read_counted x read line ≡ read (fields_of line)
unfolding read_counted read_text
a_text x read line h u =
    ap (λ b. cond b (Some x) (cond (is_utf8 line) (read (fields_of line)) None)) h
    ∙ ap (λ b. cond b (read (fields_of line)) None) (is_utf8-from_IsUtf8 line u)

pub no_state_text : (line : List ℕ) → is_passed_over line ≡ false → (IsUtf8 line → ⊥) → state_line line ≡ None
unfolding read_counted read_text
no_state_text line h n = no_text Nothing fields_line line h n

pub a_state_text : (line : List ℕ) → is_passed_over line ≡ false → IsUtf8 line → state_line line ≡ fields_line (fields_of line)
unfolding read_counted read_text
a_state_text line h u = a_text Nothing fields_line line h u

-- ---- the first line

abbrev pub zone_fields_line : List (List ℕ) → Option Phase
zone_fields_line fields = zone_line fields >>= λ z. Some (Beginning z [])

pub no_first_text : (line : List ℕ) → is_passed_over line ≡ false → (IsUtf8 line → ⊥) → first_line line ≡ None
unfolding read_counted read_text
no_first_text line h n = no_text Empty zone_fields_line line h n

pub a_first_text : (line : List ℕ) → is_passed_over line ≡ false → IsUtf8 line → first_line line ≡ zone_fields_line (fields_of line)
unfolding read_counted read_text
a_first_text line h u = a_text Empty zone_fields_line line h u
