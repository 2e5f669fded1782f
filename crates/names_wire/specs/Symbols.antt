-- Symbols of text as the code has them, and a reader that takes characters one by one (RFC 1035, 5.1).
use Rattle.std.specs.Prelude.{◌≡◌, ℕ, Bool, true, not, ◌&&◌, nat_eq, nat_le, List, [], ◌∷◌, ◌++◌, length, if◌then◌else◌, Option, Some, None}
use Rattle.std.specs.List.{list_all}
use Rattle.std.specs.Option.{option_map}
use Rattle.definitions.specs.Text.{Plain, Quoted, Decimal, is_digit, is_printable, is_quoted, symbols_of, is_symbol, spelling}
use Rattle.definitions.specs.Text as text
use Rattle.names_wire.specs.declared.symbol.Symbol.{Symbol}
use Rattle.names_wire.specs.declared.symbol.SymbolCharsError.{SymbolCharsError}
use Rattle.names_wire.specs.declared.symbol.SymbolCharsError.TheVariants.{BadSymbol, BadEscape}
use Rattle.names_wire.specs.declared.symbol.Symbol.TheVariants.{Char, SimpleEscape, DecimalEscape}

abbrev pub symbol_of : Symbol → text.Symbol
symbol_of (Char c) = Plain c
symbol_of (SimpleEscape c) = Quoted c
symbol_of (DecimalEscape b) = Decimal b

-- a symbol that was read, if one was, and then others
abbrev pub followed_by : Option Symbol → Option (List text.Symbol) → Option (List text.Symbol)
followed_by None read = read
followed_by (Some s) read = option_map (λ ss. symbol_of s ∷ ss) read

-- whatever follows these characters, they are read as this symbol
abbrev pub ReadsAs : List ℕ → Symbol → Type 0
ReadsAs chars s = (rest : List ℕ) → symbols_of (chars ++ rest) ≡ option_map (λ ss. symbol_of s ∷ ss) (symbols_of rest)

-- a character behind others makes a symbol whole, or none, and leaves these
abbrev pub Takes : List ℕ → ℕ → List ℕ → Option Symbol → Type 0
Takes old ch left symbol = (rest : List ℕ) → symbols_of (old ++ ch ∷ rest) ≡ followed_by symbol (symbols_of (left ++ rest))

-- how a symbol is written, if it is one
abbrev pub written : text.Symbol → Option (List ℕ)
written s = if is_symbol s then Some (spelling s) else None

-- no characters, or those that the digits of an escape begin with: a backslash and at most two digits
abbrev pub is_begun : List ℕ → Bool
is_begun [] = true
is_begun (c ∷ ds) = nat_eq c 92 && nat_le (length ds) 2 && list_all is_digit ds

-- what is left of some characters where the last made a symbol whole, if it did
abbrev pub left_of : Option Symbol → List ℕ → List ℕ
left_of None chars = chars
left_of (Some s) chars = []

-- why a character makes no symbol behind others: it is none itself, or makes no escape
abbrev pub char_fault : List ℕ → SymbolCharsError
char_fault [] = BadSymbol
char_fault (c ∷ cs) = BadEscape

-- an octet that is printed as itself
abbrev pub is_plain : ℕ → Bool
is_plain b = not (is_quoted b) && is_printable b
