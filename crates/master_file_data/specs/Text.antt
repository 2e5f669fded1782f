-- Texts with escapes (RFC 1035, 5.1), and octets behind their number.
use Rattle.std.specs.Prelude.{◌≡◌, ℕ, ◌+◌, ◌-◌, ◌*◌, ◌&&◌, ◌==◌, nat_le, List, [], ◌∷◌, length, Option, Some, None, if◌then◌else◌}
use Rattle.definitions.specs.Text.{is_digit}

-- what three digits write
abbrev pub three_digits : ℕ → ℕ → ℕ → ℕ
three_digits a b c = (a - 48) * 100 + (b - 48) * 10 + (c - 48)

-- the octet that three characters write
abbrev pub decimal_octet : ℕ → ℕ → ℕ → Option ℕ
decimal_octet a b c = if is_digit a && is_digit b && is_digit c && nat_le (three_digits a b c) 255 then Some (three_digits a b c) else None

abbrev pub with_rest : List ℕ → Option ℕ → Option (ℕ × List ℕ)
with_rest rest None = None
with_rest rest (Some o) = Some (o, rest)

-- the octet behind a backslash: three digits, or a character that is none; and what stands behind it
abbrev pub escaped_at : List ℕ → Option (ℕ × List ℕ)
escaped_at [] = None
escaped_at (a ∷ []) = if is_digit a then None else Some (a, [])
escaped_at (a ∷ b ∷ []) = if is_digit a then None else Some (a, b ∷ [])
escaped_at (a ∷ b ∷ c ∷ rest) = if is_digit a then with_rest rest (decimal_octet a b c) else Some (a, b ∷ c ∷ rest)

-- the first octet of a text, and what stands behind it
abbrev pub octet_at : List ℕ → Option (ℕ × List ℕ)
octet_at [] = None
octet_at (c ∷ rest) = if c == 92 then escaped_at rest else Some (c, rest)

-- the text writes these octets
abbrev pub Spells : List ℕ → List ℕ → Type 0
Spells text [] = text ≡ []
Spells text (o ∷ os) = (rest : List ℕ) × ((octet_at text ≡ Some (o, rest)) × Spells rest os)

abbrev pub counted : List ℕ → List ℕ
counted os = length os ∷ os

-- the text writes octets that stand behind their number
abbrev pub SpellsCounted : List ℕ → List ℕ → Type 0
SpellsCounted text os = (inner : List ℕ) × (Spells text inner × (os ≡ counted inner))
