-- The fault of a text that is refused as a label.
use Rattle.std.specs.Prelude.{◌≡◌, ◌⊎◌, ◌≤◌, true, false, ℕ, List, [], ◌∷◌, ◌++◌, map, length, Option, Some, None}
use Rattle.std.specs.Option.{option_map}
use Rattle.std.specs.Iterator.{Yields}
use Rattle.definitions.specs.Text.{Symbol, is_dot, is_bracket, octet, symbols_of, label_of_symbols}
use Rattle.names_wire.specs.Symbols.{is_begun, char_fault}
use Rattle.names_wire.specs.declared.symbol.SymbolCharsError.TheVariants.{ShortInput}
use Rattle.names_wire.specs.declared.owned.LabelFault.{LabelFault}
use Rattle.names_wire.specs.declared.owned.LabelFault.TheVariants.{Symbol as BadText, BinaryLabel, Dot, EmptyLabel, LongLabel}
use Rattle.names_wire.specs.declared.owned.LabelFromStrError.{LabelFromStrError}

-- the fault that an error names
abbrev pub named : LabelFromStrError → LabelFault
named e = e.0

-- Why a symbol is refused behind some octets of a label. No two of these hold at once.
abbrev pub FaultBehind : List ℕ → Symbol → LabelFault → Type 0
FaultBehind octets s (BadText e) = ⊥
FaultBehind octets s BinaryLabel = (is_bracket s ≡ true) × (octets ≡ [])
FaultBehind octets s Dot = is_dot s ≡ true
FaultBehind octets s EmptyLabel = ⊥
FaultBehind octets s LongLabel = (is_dot s ≡ false) × (63 ≤ length octets)

-- Why a character is refused behind those of an escape that isn't whole: they begin no symbol, or the one that it makes
-- whole is refused.
abbrev pub CharFault : List ℕ → List ℕ → ℕ → LabelFault → Type 0
CharFault octets unfinished ch f =
    ((is_begun (unfinished ++ ch ∷ []) ≡ false) × ((rest : List ℕ) → symbols_of (unfinished ++ ch ∷ rest) ≡ None) × (f ≡ BadText (char_fault unfinished)))
    ⊎ ((s : Symbol) × ((rest : List ℕ) → symbols_of (unfinished ++ ch ∷ rest) ≡ option_map (λ ss. s ∷ ss) (symbols_of rest)) × FaultBehind octets s f)

-- The first fault of the characters that an iterator gives as a label: the symbols before it begin one, and it is that of
-- the next character, or of the end within an escape or before the first symbol.
pub record FirstFault {S : Type 0} (steps : S → Option ℕ → S → Type 0) (s : S) (f : LabelFault) : Type 0 where
  pub whole : List ℕ
  pub symbols : List Symbol
  pub unfinished : List ℕ
  pub after : S
  pub yields : Yields steps s (whole ++ unfinished) after
  pub reads : (rest : List ℕ) → symbols_of (whole ++ rest) ≡ option_map (λ ss. symbols ++ ss) (symbols_of rest)
  pub begins : is_begun unfinished ≡ true
  pub stands : (symbols ≡ []) ⊎ (label_of_symbols symbols ≡ Some (map octet symbols))
  pub fault :
      ((ch : ℕ) × (t : S) × steps after (Some ch) t × CharFault (map octet symbols) unfinished ch f)
      ⊎ (((t : S) × steps after None t × (symbols_of unfinished ≡ None) × (f ≡ BadText ShortInput))
      ⊎ ((t : S) × steps after None t × (symbols ≡ []) × (unfinished ≡ []) × (f ≡ EmptyLabel)))
