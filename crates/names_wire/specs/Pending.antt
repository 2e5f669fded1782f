-- The characters of a symbol that isn't whole yet.
use Rattle.std.specs.Prelude.{◌≡◌, ℕ, true, List, [], ◌∷◌}
use Rattle.definitions.specs.Text.{is_digit}
use Rattle.names_wire.specs.declared.symbol.Pending.{Pending}
use Rattle.names_wire.specs.declared.symbol.Pending.TheVariants.{Nothing, Backslash, OneDigit, TwoDigits}

abbrev pub pending_text : Pending → List ℕ
pending_text Nothing = []
pending_text Backslash = 92 ∷ []
pending_text (OneDigit d) = 92 ∷ d ∷ []
pending_text (TwoDigits d e) = 92 ∷ d ∷ e ∷ []

abbrev pub HasDigits : Pending → Type 0
HasDigits Nothing = Unit {0}
HasDigits Backslash = Unit {0}
HasDigits (OneDigit d) = is_digit d ≡ true
HasDigits (TwoDigits d e) = (is_digit d ≡ true) × (is_digit e ≡ true)
