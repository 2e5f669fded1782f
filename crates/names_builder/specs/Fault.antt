-- The fault of a symbol of a text that is refused.
use Rattle.std.specs.Prelude.{◌≡◌, ◌<◌, ◌≤◌, Bool, true, false, ℕ, ◌⊎◌, List, [], ◌∷◌, ◌++◌, length, Option, Some, None}
use Rattle.std.specs.Option.{option_map}
use Rattle.definitions.specs.Text.{Symbol, is_symbol, is_dot, is_bracket, octet, symbols_of}
use Rattle.names_wire.specs.Symbols.{is_begun, char_fault}
use Rattle.names_wire.specs.declared.symbol.SymbolCharsError.TheVariants.{BadSymbol}
use Rattle.names_builder.specs.Building.{Building, octets_of_building, with_octets}
use Rattle.names_builder.specs.declared.push_error.PushError.{PushError}
use Rattle.names_builder.specs.declared.push_error.PushError.TheVariants.{LongLabel as TooLongLabel, LongName as TooLongName, ShortBuf as Full}
use Rattle.names_builder.specs.declared.text_error.Fault.{Fault}
use Rattle.names_builder.specs.declared.text_error.Fault.TheVariants.{Symbol as BadText, BinaryLabel, LongLabel, EmptyLabel, LongName}
use Rattle.names_builder.specs.declared.text_error.PresentationError.{PresentationError}
use Rattle.names_builder.specs.declared.text_error.FromStrError.{FromStrError}
use Rattle.names_builder.specs.declared.text_error.FromStrError.TheVariants.{Presentation, ShortBuf}
use Rattle.names_builder.specs.declared.text_error.RelativeFromStrError.{RelativeFromStrError}
use Rattle.names_builder.specs.declared.text_error.RelativeFromStrError.TheVariants.{FromStr, AbsoluteName}

-- the fault that an error names
abbrev pub named : PresentationError → Fault
named p = p.0

-- the fault of a text that is refused, unless there was no room
abbrev pub fault_of : FromStrError → Option Fault
fault_of (Presentation p) = Some (named p)
fault_of ShortBuf = None

abbrev pub relative_fault_of : RelativeFromStrError → Option Fault
relative_fault_of (FromStr e) = fault_of e
relative_fault_of AbsoluteName = None

abbrev pub pushed_fault : PushError → Option Fault
pushed_fault TooLongLabel = Some LongLabel
pushed_fault TooLongName = Some LongName
pushed_fault Full = None

-- why a symbol adds no octet to a label, which is open or begins with it
abbrev pub OctetFault : Symbol → Bool → Fault → Type 0
OctetFault s open_label (BadText e) = (is_symbol s ≡ false) × (e ≡ BadSymbol)
OctetFault s open_label EmptyLabel = (is_dot s ≡ true) × (open_label ≡ false)
OctetFault s open_label BinaryLabel = (is_bracket s ≡ true) × (open_label ≡ false)
OctetFault s open_label LongLabel = ⊥
OctetFault s open_label LongName = ⊥

-- the symbol adds an octet to the open label, or begins one
pub record AddsOctet (b : Building) (s : Symbol) : Type 0 where
  pub plain : is_dot s ≡ false
  pub valid : is_symbol s ≡ true
  pub begins : b.open_label ≡ [] → is_bracket s ≡ false

-- Why a symbol is refused behind what a builder has. No two of these hold at once.
abbrev pub FaultAt : Building → Symbol → Fault → Type 0
FaultAt b s (BadText e) = (is_symbol s ≡ false) × (e ≡ BadSymbol)
FaultAt b s EmptyLabel = (is_dot s ≡ true) × (b.open_label ≡ [])
FaultAt b s BinaryLabel = (is_bracket s ≡ true) × (b.open_label ≡ [])
FaultAt b s LongLabel = AddsOctet b s × (63 ≤ length b.open_label)
FaultAt b s LongName = AddsOctet b s × (length b.open_label < 63) × (254 < length (octets_of_building (with_octets b (octet s ∷ []))))

-- Why a character is refused behind those of an escape that isn't whole: they begin no symbol, or the one that it makes
-- whole is refused.
abbrev pub CharFault : Building → List ℕ → ℕ → Fault → Type 0
CharFault b unfinished ch f =
    ((is_begun (unfinished ++ ch ∷ []) ≡ false) × ((rest : List ℕ) → symbols_of (unfinished ++ ch ∷ rest) ≡ None) × (f ≡ BadText (char_fault unfinished)))
    ⊎ ((s : Symbol) × ((rest : List ℕ) → symbols_of (unfinished ++ ch ∷ rest) ≡ option_map (λ ss. s ∷ ss) (symbols_of rest)) × FaultAt b s f)
