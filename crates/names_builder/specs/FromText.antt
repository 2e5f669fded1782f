-- Names read from text (RFC 1035, 5.1).
use Rattle.std.specs.Prelude.{◌≡◌, ◌⊎◌, ℕ, Bool, true, false, List, [], ◌∷◌, ◌++◌, map, Option, Some, None, IfSome}
use Rattle.std.specs.Option.{option_map}
use Rattle.std.specs.Iterator.{Yields, Drains}
use Rattle.definitions.specs.Name.{Name, Label}
use Rattle.definitions.specs.Text.{Symbol, symbols_of, pieces, is_dot, is_bracket, is_symbol, octet, name_of_text}
use Rattle.names_wire.specs.Symbols.{symbol_of, is_begun}
use Rattle.names_wire.specs.declared.symbol.Symbol.{Symbol as WireSymbol}
use Rattle.names_labels.specs.Open.{open_labels, read_behind}
use Rattle.names_builder.specs.Building.{Building, nothing}
use Rattle.names_builder.specs.Fault.{FaultAt, CharFault, fault_of}
use Rattle.names_builder.specs.declared.text_error.Fault.{Fault}
use Rattle.names_builder.specs.declared.text_error.Fault.TheVariants.{Symbol as BadText, EmptyLabel}
use Rattle.names_wire.specs.declared.symbol.SymbolCharsError.TheVariants.{ShortInput}
use Rattle.names_builder.specs.declared.push_error.PushError.{PushError}
use Rattle.names_builder.specs.declared.push_error.PushError.TheVariants.{LongLabel, LongName, ShortBuf as Full}
use Rattle.names_builder.specs.declared.push_error.PushNameError.{PushNameError}
use Rattle.names_builder.specs.declared.push_error.PushNameError.TheVariants.{LongName as TooLong, ShortBuf as NoRoom}
use Rattle.names_builder.specs.declared.text_error.FromStrError.{FromStrError}
use Rattle.names_builder.specs.declared.text_error.FromStrError.TheVariants.{Presentation, ShortBuf}
use Rattle.names_builder.specs.declared.text_error.RelativeFromStrError.{RelativeFromStrError}
use Rattle.names_builder.specs.declared.text_error.RelativeFromStrError.TheVariants.{FromStr, AbsoluteName}

-- the text is to blame, and not the room
abbrev pub is_text : FromStrError → Bool
is_text (Presentation p) = true
is_text ShortBuf = false

abbrev pub is_relative_text : RelativeFromStrError → Bool
is_relative_text (FromStr e) = is_text e
is_relative_text AbsoluteName = true

abbrev pub is_pushed_text : PushError → Bool
is_pushed_text LongLabel = true
is_pushed_text LongName = true
is_pushed_text Full = false

abbrev pub is_long_name : PushNameError → Bool
is_long_name TooLong = true
is_long_name NoRoom = false

-- ---- one symbol

-- an octet that goes on with a label, which is open or begins with it
pub record GoesOn (s : Symbol) (open_label : Bool) (v : ℕ) : Type 0 where
  pub plain : is_dot s ≡ false
  pub valid : is_symbol s ≡ true
  pub begins : open_label ≡ false → is_bracket s ≡ false
  pub value : v ≡ octet s

-- an empty label, a binary one, or no symbol
abbrev pub CannotGoOn : Symbol → Bool → Type 0
CannotGoOn s open_label = ((is_dot s ≡ true) × (open_label ≡ false)) ⊎ (((is_bracket s ≡ true) × (open_label ≡ false)) ⊎ (is_symbol s ≡ false))

-- ---- what a builder reads

-- the labels of a builder, and the open one last: empty where none is open
abbrev pub standing : Building → Name
standing b = b.done ++ b.open_label ∷ []

-- the labels of a builder where these symbols follow, however long they get
abbrev pub continued : Building → List Symbol → Option Name
continued b ss = option_map (λ ls. b.done ++ ls) (open_labels b.open_label (pieces ss))

-- the labels of a builder where these symbols follow
abbrev pub symbols_behind : Building → List Symbol → Option Name
symbols_behind b ss = read_behind b.done b.open_label ss

-- the labels of a builder where this text follows
abbrev pub text_behind : Building → List ℕ → Option Name
text_behind b text = elim (symbols_of text) [ None ↦ None | Some ss ↦ read_behind b.done b.open_label ss ]

-- the iterator gave these symbols, and the builder has read them
abbrev pub ReadsSymbols : {S : Type 0} → (S → Option WireSymbol → S → Type 0) → S → Building → Building → Type 0
ReadsSymbols {S} steps s old new = (read : List WireSymbol) × Drains steps s read × (symbols_behind old (map symbol_of read) ≡ Some (standing new))

-- The iterator gave a symbol that was refused; the builder has read those before it, and nothing else.
pub record StopsAtSymbol {S : Type 0} (steps : S → Option WireSymbol → S → Type 0) (s : S) (old new : Building) (e : FromStrError) : Type 0 where
  pub read : List WireSymbol
  pub refused : WireSymbol
  pub after : S
  pub yields : Yields steps s (read ++ refused ∷ []) after
  pub stands : symbols_behind old (map symbol_of read) ≡ Some (standing new)
  pub fault : IfSome (fault_of e) (FaultAt new (symbol_of refused))
  pub text : is_text e ≡ true → (rest : List Symbol) → symbols_behind old (map symbol_of (read ++ refused ∷ []) ++ rest) ≡ None

-- a character is added behind those of a symbol: it makes the symbol whole, which the builder reads, or is left with them
abbrev pub AddsChar : Building → List ℕ → ℕ → Building → List ℕ → Type 0
AddsChar old before ch new left =
    ((new ≡ old) × (left ≡ before ++ ch ∷ []))
    ⊎ ((s : Symbol) × ((rest : List ℕ) → symbols_of (before ++ ch ∷ rest) ≡ option_map (λ ss. s ∷ ss) (symbols_of rest)) × ((ss : List Symbol) → continued old (s ∷ ss) ≡ continued new ss) × (left ≡ []))

-- The iterator gave some characters behind others: whole symbols, which the builder has read, and at most the beginning of
-- an escape.
pub record StopsInText {S : Type 0} (steps : S → Option ℕ → S → Type 0) (s : S) (before : List ℕ) (old new : Building) : Type 0 where
  pub text : List ℕ
  pub whole : List ℕ
  pub symbols : List Symbol
  pub unfinished : List ℕ
  pub after : S
  pub yields : Yields steps s text after
  pub divided : before ++ text ≡ whole ++ unfinished
  pub reads : (rest : List ℕ) → symbols_of (whole ++ rest) ≡ option_map (λ ss. symbols ++ ss) (symbols_of rest)
  pub begins : is_begun unfinished ≡ true
  pub stands : symbols_behind old symbols ≡ Some (standing new)
  pub onward : (rest : List ℕ) → text_behind old (before ++ (text ++ rest)) ≡ text_behind new (unfinished ++ rest)

-- The first fault of the characters that an iterator gives behind others: what was before it is read, and it is that
-- of the next character, or of the end within an escape.
pub record FirstFault {S : Type 0} (steps : S → Option ℕ → S → Type 0) (s : S) (before : List ℕ) (old new : Building) (f : Fault) : Type 0 where
  pub stop : StopsInText steps s before old new
  pub fault :
      ((ch : ℕ) × (t : S) × steps stop.after (Some ch) t × CharFault new stop.unfinished ch f)
      ⊎ ((t : S) × steps stop.after None t × (symbols_of stop.unfinished ≡ None) × (f ≡ BadText ShortInput))

-- the first fault of the characters that an iterator gives behind what a builder has
abbrev pub FaultBehind : {S : Type 0} → (S → Option ℕ → S → Type 0) → S → Building → Fault → Type 0
FaultBehind {S} steps s old f = (at : Building) × FirstFault steps s [] old at f

-- The first fault of the characters that an iterator gives as a name: there are none, or that of the first refused one.
abbrev pub NameFault : {S : Type 0} → (S → Option ℕ → S → Type 0) → S → Fault → Type 0
NameFault {S} steps s f =
    ((t : S) × steps s None t × (f ≡ EmptyLabel)) ⊎ FaultBehind steps s nothing f

-- ---- symbols that an iterator gives

-- the symbols that an iterator gives are read as this value
abbrev pub SymbolsSpell : {S A : Type 0} → (S → Option WireSymbol → S → Type 0) → S → (List Symbol → Option A) → A → Type 0
SymbolsSpell {S} steps s read a = (symbols : List WireSymbol) × Drains steps s symbols × (read (map symbol_of symbols) ≡ Some a)

-- nothing is read from the symbols that an iterator gave: whatever may come behind them, or there are no more
abbrev pub SymbolsSpellNothing : {S A : Type 0} → (S → Option WireSymbol → S → Type 0) → S → (List Symbol → Option A) → Type 0
SymbolsSpellNothing {S} steps s read =
    ((symbols : List WireSymbol) × (t : S) × Yields steps s symbols t × ((rest : List Symbol) → read (map symbol_of symbols ++ rest) ≡ None))
    ⊎ ((symbols : List WireSymbol) × Drains steps s symbols × (read (map symbol_of symbols) ≡ None))

-- The first fault of the symbols that an iterator gives behind what a builder has: that of the next one.
pub record FirstSymbolFault {S : Type 0} (steps : S → Option WireSymbol → S → Type 0) (s : S) (old new : Building) (f : Fault) : Type 0 where
  pub read : List WireSymbol
  pub refused : WireSymbol
  pub after : S
  pub yields : Yields steps s (read ++ refused ∷ []) after
  pub stands : symbols_behind old (map symbol_of read) ≡ Some (standing new)
  pub fault : FaultAt new (symbol_of refused) f

-- the first fault of the symbols that an iterator gives as a name: there are none, or that of the first refused one
abbrev pub SymbolsFault : {S : Type 0} → (S → Option WireSymbol → S → Type 0) → S → Fault → Type 0
SymbolsFault {S} steps s f =
    ((t : S) × steps s None t × (f ≡ EmptyLabel)) ⊎ ((new : Building) × FirstSymbolFault steps s nothing new f)

-- the first fault of the characters that an iterator gives as a relative name
abbrev pub RelativeFault : {S : Type 0} → (S → Option ℕ → S → Type 0) → S → Fault → Type 0
RelativeFault {S} steps s f = FaultBehind steps s nothing f

-- The text spells an absolute name that has a label. The text of the root alone is refused as one with an empty label.
abbrev pub IsAbsolute : List ℕ → Type 0
IsAbsolute text = (l : Label) × (n : Name) × (name_of_text text ≡ Some (l ∷ n))

-- the iterator gave a text that spells an absolute name with a label
abbrev pub SpellsAbsolute : {S : Type 0} → (S → Option ℕ → S → Type 0) → S → Type 0
SpellsAbsolute {S} steps s = (text : List ℕ) × Drains steps s text × IsAbsolute text
