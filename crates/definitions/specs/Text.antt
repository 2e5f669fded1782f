-- Names as text (RFC 1035, 5.1; RFC 4343, 2.1).
use Rattle.std.specs.Prelude.{ℕ, zero, suc, ◌+◌, ◌-◌, ◌*◌, ◌/◌, ◌%◌, ◌≡◌, Bool, true, false, not, ◌&&◌, ◌||◌, if◌then◌else◌, nat_eq, nat_lt, nat_le, List, [], ◌∷◌, ◌++◌, map, length, Option, Some, None}
use Rattle.std.specs.List.{flat_map, list_all, list_any, join_with_byte}
use Rattle.std.specs.Option.{option_map}
use Rattle.definitions.specs.Name.{Name, Label, wire_len}

-- A symbol is a character, a character behind a backslash, or an octet as three digits behind a backslash.
pub data Symbol : Type 0 where
  Plain : ℕ → Symbol
  Quoted : ℕ → Symbol
  Decimal : ℕ → Symbol

-- from a blank up to a tilde
abbrev pub is_printable : ℕ → Bool
is_printable c = nat_le 32 c && nat_le c 126

abbrev pub is_digit : ℕ → Bool
is_digit c = nat_le 48 c && nat_le c 57

abbrev pub is_symbol : Symbol → Bool
is_symbol (Plain c) = is_printable c && not (nat_eq c 92)
is_symbol (Quoted c) = is_printable c && not (is_digit c)
is_symbol (Decimal b) = nat_le b 255

-- an octet as three digits
abbrev pub three_digits : ℕ → List ℕ
three_digits b = (48 + b / 100) ∷ (48 + b / 10 % 10) ∷ (48 + b % 10) ∷ []

-- how a symbol is written
abbrev pub spelling : Symbol → List ℕ
spelling (Plain c) = c ∷ []
spelling (Quoted c) = 92 ∷ c ∷ []
spelling (Decimal b) = 92 ∷ three_digits b

-- the octet that a symbol stands for
abbrev pub octet : Symbol → ℕ
octet (Plain c) = c
octet (Quoted c) = c
octet (Decimal b) = b

-- The text is these symbols, one after another.
pub record Spells (text : List ℕ) (symbols : List Symbol) : Type 0 where
  pub each : list_all is_symbol symbols ≡ true
  pub spelled : text ≡ flat_map spelling symbols

-- an unescaped dot, which separates labels
abbrev pub is_dot : Symbol → Bool
is_dot (Plain c) = nat_eq c 46
is_dot (Quoted c) = false
is_dot (Decimal b) = false

-- a backslash before `[`, by which a binary label would begin (RFC 2673, 3.2; given up by RFC 6891, 5)
abbrev pub is_bracket : Symbol → Bool
is_bracket (Plain c) = false
is_bracket (Quoted c) = nat_eq c 91
is_bracket (Decimal b) = false

-- ---- reading

-- the octet of three digits behind a backslash
abbrev pub octet_at : ℕ → ℕ → ℕ → Option Symbol
octet_at d e f =
    if is_digit e && is_digit f && nat_le ((d - 48) * 100 + (e - 48) * 10 + (f - 48)) 255
    then Some (Decimal ((d - 48) * 100 + (e - 48) * 10 + (f - 48)))
    else None

-- the symbol that a backslash begins
abbrev pub escape_at : List ℕ → Option Symbol
escape_at [] = None
escape_at (d ∷ []) = if is_digit d then None else (if is_printable d then Some (Quoted d) else None)
escape_at (d ∷ e ∷ []) = if is_digit d then None else (if is_printable d then Some (Quoted d) else None)
escape_at (d ∷ e ∷ f ∷ rest) = if is_digit d then octet_at d e f else (if is_printable d then Some (Quoted d) else None)

-- the symbol that begins with a character and goes on with a text
abbrev pub symbol_at : ℕ → List ℕ → Option Symbol
symbol_at c rest = if nat_eq c 92 then escape_at rest else (if is_printable c then Some (Plain c) else None)

-- the characters of a symbol behind its first
abbrev pub tail_len : Symbol → ℕ
tail_len (Plain c) = 0
tail_len (Quoted c) = 1
tail_len (Decimal b) = 3

-- the symbols of a text, where its first characters belong to a symbol that began before it
abbrev pub symbols_behind : ℕ → List ℕ → Option (List Symbol)
symbols_behind zero [] = Some []
symbols_behind (suc k) [] = None
symbols_behind (suc k) (c ∷ text) = symbols_behind k text
symbols_behind zero (c ∷ text) = elim (symbol_at c text) [ None ↦ None | Some s ↦ option_map (λ ss. s ∷ ss) (symbols_behind (tail_len s) text) ]

-- the symbols of a text, if it is made of symbols
abbrev pub symbols_of : List ℕ → Option (List Symbol)
symbols_of text = symbols_behind 0 text

-- The label of some symbols without a dot that separates: 1 to 63 octets, and the first is no escaped bracket.
abbrev pub begins_binary : List Symbol → Bool
begins_binary [] = false
begins_binary (s ∷ ss) = is_bracket s

abbrev pub is_label_text : List Symbol → Bool
is_label_text ss = nat_lt 0 (length ss) && nat_le (length ss) 63 && list_all is_symbol ss && not (begins_binary ss)

abbrev pub label_of_symbols : List Symbol → Option Label
label_of_symbols ss = if is_label_text ss && not (list_any is_dot ss) then Some (map octet ss) else None

-- the label that a text spells
abbrev pub label_of_text : List ℕ → Option Label
label_of_text text = elim (symbols_of text) [ None ↦ None | Some ss ↦ label_of_symbols ss ]

-- a symbol before the first piece
abbrev pub onto_first : Symbol → List (List Symbol) → List (List Symbol)
onto_first s [] = (s ∷ []) ∷ []
onto_first s (p ∷ ps) = (s ∷ p) ∷ ps

-- the pieces between the unescaped dots
abbrev pub pieces : List Symbol → List (List Symbol)
pieces [] = [] ∷ []
pieces (s ∷ ss) = if is_dot s then [] ∷ pieces ss else onto_first s (pieces ss)

abbrev pub labels_of_pieces : List (List Symbol) → Option Name
labels_of_pieces [] = Some []
labels_of_pieces (p ∷ ps) = elim (label_of_symbols p) [ None ↦ None | Some l ↦ option_map (λ ls. l ∷ ls) (labels_of_pieces ps) ]

-- the name where it has at most 255 octets with the root's
abbrev pub if_short : Option Name → Option Name
if_short None = None
if_short (Some n) = if nat_le (wire_len n) 255 then Some n else None

-- the symbols without an unescaped dot at the end
abbrev pub without_last_dot : List Symbol → List Symbol
without_last_dot [] = []
without_last_dot (s ∷ []) = if is_dot s then [] else s ∷ []
without_last_dot (s ∷ t ∷ ss) = s ∷ without_last_dot (t ∷ ss)

abbrev pub is_lone_dot : List Symbol → Bool
is_lone_dot [] = false
is_lone_dot (s ∷ []) = is_dot s
is_lone_dot (s ∷ t ∷ ss) = false

-- The absolute name of some symbols: a lone dot is the root, and else a last dot may be left out.
abbrev pub name_of_symbols : List Symbol → Option Name
name_of_symbols ss = if is_lone_dot ss then Some [] else if_short (labels_of_pieces (pieces (without_last_dot ss)))

abbrev pub name_of_text : List ℕ → Option Name
name_of_text text = elim (symbols_of text) [ None ↦ None | Some ss ↦ name_of_symbols ss ]

-- The relative name of some symbols: none is the empty name, and a last dot would make an absolute one.
abbrev pub relative_of_symbols : List Symbol → Option Name
relative_of_symbols [] = Some []
relative_of_symbols (s ∷ ss) = if_short (labels_of_pieces (pieces (s ∷ ss)))

abbrev pub relative_of_text : List ℕ → Option Name
relative_of_text text = elim (symbols_of text) [ None ↦ None | Some ss ↦ relative_of_symbols ss ]

-- ---- printing

-- a blank, a dot and a backslash stand behind a backslash
abbrev pub is_quoted : ℕ → Bool
is_quoted b = nat_eq b 32 || nat_eq b 46 || nat_eq b 92

-- the symbol that an octet is printed as
abbrev pub symbol_of_octet : ℕ → Symbol
symbol_of_octet b = if is_quoted b then Quoted b else (if is_printable b then Plain b else Decimal b)

abbrev pub text_of_octet : ℕ → List ℕ
text_of_octet b = spelling (symbol_of_octet b)

abbrev pub text_of_label : Label → List ℕ
text_of_label l = flat_map text_of_octet l

-- the labels with a dot between each two
abbrev pub text_of_relative : Name → List ℕ
text_of_relative n = join_with_byte 46 (map text_of_label n)

-- an absolute name without its last dot, but that the root is a dot
abbrev pub text_of_name : Name → List ℕ
text_of_name [] = 46 ∷ []
text_of_name (l ∷ n) = text_of_relative (l ∷ n)

-- an absolute name with its last dot
abbrev pub dotted_text_of_name : Name → List ℕ
dotted_text_of_name [] = 46 ∷ []
dotted_text_of_name (l ∷ n) = text_of_relative (l ∷ n) ++ 46 ∷ []
