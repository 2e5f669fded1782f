-- The first fault of the characters of a label.
use Rattle.std.proofs.Common.{◌≡◌, ◌⊎◌, inl, inr, ℕ, ◌≤◌, ◌++◌, cond, ◌&&◌, not, List, [], ◌∷◌, map, length, sym, ap, ◌∙◌, arith, subst, nat_lt, nat_le, true, false, refl, Option, Some, None}
use Rattle.std.specs.Option.{option_map}
use Rattle.std.specs.Iterator.{Yields}
use Rattle.std.proofs.lemmas.List.{length-map}
use Rattle.std.proofs.lemmas.Bool.{le-leb, lt-ltb}
use Rattle.definitions.specs.Text.{Symbol, is_symbol, octet, symbols_of, label_of_symbols}
use Rattle.std.specs.List.{list_all, list_any}
use Rattle.definitions.specs.Text.{is_dot, begins_binary}
use Rattle.std.specs.Str.{chars, IsUtf8}
use Rattle.std.specs.Str.Iter.{chars_rest, chars_steps}
use Rattle.std.specs.declared.str.Chars.{Chars}
use Rattle.names_wire.specs.Spelled.{in_turn}
use Rattle.names_wire.proofs.Characters.{characters, no_octets}
use Rattle.names_wire.specs.Symbols.{is_begun, char_fault}
use Rattle.names_wire.specs.LabelFault.{FaultBehind, CharFault, FirstFault}
use Rattle.names_wire.specs.declared.symbol.SymbolCharsError.{SymbolCharsError}
use Rattle.names_wire.specs.declared.symbol.SymbolCharsError.TheVariants.{ShortInput}
use Rattle.names_wire.specs.declared.owned.LabelFault.{LabelFault}
use Rattle.names_wire.specs.declared.owned.LabelFault.TheVariants.{Symbol as BadText, EmptyLabel}
use Rattle.names_wire.proofs.PartLabel.{PartRead}

pub none_begun : (pending : List ℕ) → pending ≡ [] → is_begun pending ≡ true
none_begun pending e = ap is_begun e

-- some symbols that were read begin a label
begins_label : (ss : List Symbol) → length ss ≤ 63 → list_all is_symbol ss ≡ true → list_any is_dot ss ≡ false → begins_binary ss ≡ false → (ss ≡ []) ⊎ (label_of_symbols ss ≡ Some (map octet ss))
begins_label [] short each undivided first = inl refl
begins_label (s ∷ ss) short each undivided first = inr (go (lt-ltb 0 (length (s ∷ ss)) (omega arith)) (le-leb (length (s ∷ ss)) 63 short))
  where
    go : nat_lt 0 (length (s ∷ ss)) ≡ true → nat_le (length (s ∷ ss)) 63 ≡ true → label_of_symbols (s ∷ ss) ≡ Some (map octet (s ∷ ss))
    go a b = λ i. cond ((((a i && b i) && each i) && not (first i)) && not (undivided i)) (Some (map octet (s ∷ ss))) None

read_begins : (text pending octets : List ℕ) (p : PartRead text pending octets) → (p.symbols ≡ []) ⊎ (label_of_symbols p.symbols ≡ Some (map octet p.symbols))
read_begins text pending octets p =
    begins_label p.symbols (omega (arith, p.short, ap length p.spelled, length-map p.symbols octet)) p.each p.undivided p.first

-- the next character is refused
at_next : {S : Type 0} (steps : S → Option ℕ → S → Type 0) (s t u : S) (text pending octets : List ℕ) (ch : ℕ) (f : LabelFault) → PartRead text pending octets → is_begun pending ≡ true → Yields steps s text t → steps t (Some ch) u → CharFault octets pending ch f → FirstFault steps s f
at_next steps s t u text pending octets ch f p b y h o = record {
  whole = p.whole;
  symbols = p.symbols;
  unfinished = pending;
  after = t;
  yields = subst (λ x. Yields steps s x t) p.divided y;
  begins = b;
  reads = p.reads;
  stands = read_begins text pending octets p;
  fault = inl (ch, u, h, subst (λ os. CharFault os pending ch f) p.spelled o);
}

-- it makes no symbol
pub no_symbol : {S : Type 0} (steps : S → Option ℕ → S → Type 0) (s t u : S) (text pending octets : List ℕ) (ch : ℕ) (e : SymbolCharsError) (f : LabelFault) → PartRead text pending octets → is_begun pending ≡ true → Yields steps s text t → steps t (Some ch) u → is_begun (pending ++ ch ∷ []) ≡ false → ((rest : List ℕ) → symbols_of (pending ++ ch ∷ rest) ≡ None) → e ≡ char_fault pending → f ≡ BadText e → FirstFault steps s f
no_symbol steps s t u text pending octets ch e f p b y h m n k i = at_next steps s t u text pending octets ch f p b y h (inl (m, n, i ∙ ap BadText k))

-- it makes a symbol whole that is refused
pub bad_symbol : {S : Type 0} (steps : S → Option ℕ → S → Type 0) (s t u : S) (text pending later octets : List ℕ) (ch : ℕ) (c : Symbol) (f : LabelFault) → PartRead text pending octets → is_begun pending ≡ true → Yields steps s text t → steps t (Some ch) u → ((rest : List ℕ) → symbols_of (pending ++ ch ∷ rest) ≡ option_map (λ ss. c ∷ ss) (symbols_of (later ++ rest))) → later ≡ [] → FaultBehind octets c f → FirstFault steps s f
bad_symbol steps s t u text pending later octets ch c f p b y h r e o = at_next steps s t u text pending octets ch f p b y h (inr (c, λ rest. r rest ∙ ap (λ x. option_map (λ ss. c ∷ ss) (symbols_of (x ++ rest))) e, o))

-- there are no more within a symbol
pub ends_within : {S : Type 0} (steps : S → Option ℕ → S → Type 0) (s t u : S) (text pending octets : List ℕ) (e : SymbolCharsError) (f : LabelFault) → PartRead text pending octets → is_begun pending ≡ true → Yields steps s text t → steps t None u → symbols_of pending ≡ None → e ≡ ShortInput → f ≡ BadText e → FirstFault steps s f
ends_within steps s t u text pending octets e f p b y h n k i = record {
  whole = p.whole;
  symbols = p.symbols;
  unfinished = pending;
  after = t;
  yields = subst (λ x. Yields steps s x t) p.divided y;
  begins = b;
  reads = p.reads;
  stands = read_begins text pending octets p;
  fault = inr (inl (u, h, n, i ∙ ap BadText k));
}

no_symbols : (ss : List Symbol) → map octet ss ≡ [] → ss ≡ []
no_symbols [] h = refl
no_symbols (s ∷ ss) h = cc

-- there are none
pub ends_empty : {S : Type 0} (steps : S → Option ℕ → S → Type 0) (s t u : S) (text pending octets : List ℕ) → PartRead text pending octets → is_begun pending ≡ true → Yields steps s text t → steps t None u → pending ≡ [] → octets ≡ [] → FirstFault steps s EmptyLabel
ends_empty steps s t u text pending octets p b y h n e = record {
  whole = p.whole;
  symbols = p.symbols;
  unfinished = pending;
  after = t;
  yields = subst (λ x. Yields steps s x t) p.divided y;
  begins = b;
  reads = p.reads;
  stands = read_begins text pending octets p;
  fault = inr (inr (u, h, no_symbols p.symbols (sym p.spelled ∙ e), n, refl));
}

-- ---- the characters of a text

pub in_turn-yields : (text rest : List ℕ) → Yields in_turn (text ++ rest) text rest
in_turn-yields [] rest = refl
in_turn-yields (c ∷ text) rest = (text ++ rest, refl, in_turn-yields text rest)

in_text : (s : Chars) (f : LabelFault) → IsUtf8 (chars_rest s) → FirstFault chars_steps s f → FirstFault in_turn (chars (chars_rest s)) f
in_text s f u o =
    let after = o.after in
    let read = characters s after (o.whole ++ o.unfinished) u o.yields in
    record {
      whole = o.whole;
      symbols = o.symbols;
      unfinished = o.unfinished;
      after = chars (chars_rest after);
      yields = subst (λ x. Yields in_turn x (o.whole ++ o.unfinished) (chars (chars_rest after))) (sym read.0) (in_turn-yields (o.whole ++ o.unfinished) (chars (chars_rest after)));
      begins = o.begins;
      reads = o.reads;
      stands = o.stands;
      fault = elim o.fault [
        | inl p ↦ inl (p.0, chars (chars_rest p.1), (characters after p.1 (p.0 ∷ []) read.1 (p.1, p.2, refl)).0, p.3)
        | inr q ↦ elim q [
          | inl p ↦ inr (inl ([], no_octets (chars_rest after) p.1.0.0, p.2, p.3))
          | inr p ↦ inr (inr ([], no_octets (chars_rest after) p.1.0.0, p.2, p.3, p.4))
        ]
      ];
    }

pub fault_in_text : (s : Chars) (bs : List ℕ) (f : LabelFault) → IsUtf8 bs → chars_rest s ≡ bs → FirstFault chars_steps s f → FirstFault in_turn (chars bs) f
fault_in_text s bs f u e o = subst (λ x. FirstFault in_turn (chars x) f) e (in_text s f (subst IsUtf8 (sym e) u) o)
