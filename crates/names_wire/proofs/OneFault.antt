-- A text stops at one place, and is refused there for one reason.
use Rattle.std.proofs.Common.{◌≡◌, ◌⊎◌, inl, inr, ℕ, ◌<◌, ◌≤◌, Bool, true, false, cond, ◌&&◌, List, [], ◌∷◌, ◌++◌, map, length, refl, sym, ap, ◌∙◌, append_assoc, arith, nat_le, nat_eq, length-append, subst, Option, Some, None}
use Rattle.std.specs.Option.{option_map}
use Rattle.std.specs.List.{list_all}
use Rattle.std.specs.Iterator.{Yields}
use Rattle.std.proofs.lemmas.List.{append-nil, append_cancel_left}
use Rattle.std.proofs.lemmas.Bool.{and_parts, leb-true, leb-false, le-leb}
use Rattle.definitions.specs.Text.{Symbol, Plain, Quoted, Decimal, is_digit, is_printable, is_dot, is_bracket, octet, escape_at, symbol_at, symbols_of, symbols_behind, tail_len, label_of_symbols}
use Rattle.names_wire.specs.Symbols.{is_begun}
use Rattle.names_wire.specs.Spelled.{in_turn, CannotFollow}
use Rattle.names_wire.specs.LabelFault.{FaultBehind, CharFault, FirstFault}
use Rattle.names_wire.specs.declared.symbol.SymbolCharsError.TheVariants.{ShortInput}
use Rattle.names_wire.specs.declared.owned.LabelFault.{LabelFault}
use Rattle.names_wire.specs.declared.owned.LabelFault.TheVariants.{Symbol as BadText, BinaryLabel, Dot, EmptyLabel, LongLabel}
use Rattle.names_wire.proofs.PartLabel.{not_both, cannot_follow}

-- ---- two beginnings of a text

-- the longer one goes on with this
record Onward (a b c d : List ℕ) : Type 0 where
  middle : List ℕ
  longer : c ≡ a ++ middle
  rest : b ≡ middle ++ d

onward : (a b c d : List ℕ) → a ++ b ≡ c ++ d → length a ≤ length c → Onward a b c d
onward [] b c d e h = record { middle = c; longer = refl; rest = e }
onward (x ∷ a) b [] d e h = absurd (omega (arith, h))
onward (x ∷ a) b (y ∷ c) d e h =
    let first : x ≡ y = cc in
    let others : a ++ b ≡ c ++ d = cc in
    let o = onward a b c d others (omega (arith, h)) in
    record { middle = o.middle; longer = λ i. sym first i ∷ o.longer i; rest = o.rest }

-- the characters that were given are the beginning
pub given : (read text after : List ℕ) → Yields in_turn text read after → text ≡ read ++ after
given [] text after y = y
given (c ∷ read) text after y = y.1 ∙ ap (λ t. c ∷ t) (given read y.0 after y.2)

-- ---- escapes that are begun

all_front : (a b : List ℕ) → list_all is_digit (a ++ b) ≡ true → list_all is_digit a ≡ true
all_front [] b h = refl
all_front (c ∷ a) b h = let p = and_parts (is_digit c) (list_all is_digit (a ++ b)) h in λ i. p.0 i && all_front a b p.1 i

-- a beginning of one is one
begun_front : (a b : List ℕ) → is_begun (a ++ b) ≡ true → is_begun a ≡ true
begun_front [] b h = refl
begun_front (c ∷ ds) b h =
    let p = and_parts (nat_eq c 92 && nat_le (length (ds ++ b)) 2) (list_all is_digit (ds ++ b)) h in
    let q = and_parts (nat_eq c 92) (nat_le (length (ds ++ b)) 2) p.0 in
    let l : nat_le (length ds) 2 ≡ true = le-leb (length ds) 2 (omega (arith, leb-true (length (ds ++ b)) 2 q.1, length-append ds b)) in
    λ i. (q.0 i && l i) && all_front ds b p.1 i

no_escape : (ds : List ℕ) → length ds ≤ 2 → list_all is_digit ds ≡ true → escape_at ds ≡ None
no_escape [] l h = refl
no_escape (d ∷ []) l h = ap (λ b. cond b None (cond (is_printable d) (Some (Quoted d)) None)) (and_parts (is_digit d) true h).0
no_escape (d ∷ e ∷ []) l h = ap (λ b. cond b None (cond (is_printable d) (Some (Quoted d)) None)) (and_parts (is_digit d) (list_all is_digit (e ∷ [])) h).0
no_escape (d ∷ e ∷ f ∷ ds) l h = absurd (omega (arith, l))

-- it isn't a whole symbol
begun_alone : (u : List ℕ) → 0 < length u → is_begun u ≡ true → symbols_of u ≡ None
begun_alone [] some h = absurd (omega (arith, some))
begun_alone (c ∷ ds) some h =
    let p = and_parts (nat_eq c 92 && nat_le (length ds) 2) (list_all is_digit ds) h in
    let q = and_parts (nat_eq c 92) (nat_le (length ds) 2) p.0 in
    let n : symbol_at c ds ≡ None = (λ i. cond (q.0 i) (escape_at ds) (cond (is_printable c) (Some (Plain c)) None)) ∙ no_escape ds (leb-true (length ds) 2 q.1) p.1 in
    ap (λ (o : Option Symbol). elim o as (λ _. Option (List Symbol)) [ None ↦ None | Some s ↦ option_map (λ ss. s ∷ ss) (symbols_behind (tail_len s) ds) ]) n

-- ---- where a text stops

-- why a character is refused behind a begun escape: no symbol begins so, or one that may not stand there
abbrev pub Refused : (Symbol → Type 0) → List ℕ → ℕ → Type 0
Refused Barred unfinished ch =
    ((is_begun (unfinished ++ ch ∷ []) ≡ false) × ((rest : List ℕ) → symbols_of (unfinished ++ ch ∷ rest) ≡ None))
    ⊎ ((s : Symbol) × ((rest : List ℕ) → symbols_of (unfinished ++ ch ∷ rest) ≡ option_map (λ ss. s ∷ ss) (symbols_of rest)) × Barred s)

-- The text is whole symbols, at most the beginning of an escape, and characters of which the first is refused.
pub record Stop (text : List ℕ) (Barred : Symbol → Type 0) : Type 0 where
  pub whole : List ℕ
  pub symbols : List Symbol
  pub unfinished : List ℕ
  pub after : List ℕ
  pub divided : text ≡ (whole ++ unfinished) ++ after
  pub reads : (rest : List ℕ) → symbols_of (whole ++ rest) ≡ option_map (λ ss. symbols ++ ss) (symbols_of rest)
  pub begins : is_begun unfinished ≡ true
  pub next : (ch : ℕ) (t : List ℕ) → after ≡ ch ∷ t → Refused Barred unfinished ch

-- no symbols that may stand behind it go on so
abbrev pub Bars : (Symbol → Type 0) → List Symbol → List Symbol → Type 0
Bars Barred before all = (s : Symbol) (ss : List Symbol) → Barred s → all ≡ before ++ s ∷ ss → ⊥

refuses : (Barred : Symbol → Type 0) (unfinished more : List ℕ) (ch : ℕ) (ds : List Symbol) → Refused Barred unfinished ch → symbols_of (unfinished ++ ch ∷ more) ≡ Some ds → ((s : Symbol) (ss : List Symbol) → Barred s → ds ≡ s ∷ ss → ⊥) → ⊥
refuses Barred unfinished more ch ds (inl p) e bars = let k : None ≡ Some ds = sym (p.1 more) ∙ e in absurd (cc)
refuses Barred unfinished more ch ds (inr p) e bars = go (symbols_of more) (sym (p.1 more) ∙ e)
  where
    go : (o : Option (List Symbol)) → option_map (λ ss. p.0 ∷ ss) o ≡ Some ds → ⊥
    go None k = absurd (cc)
    go (Some ss) k = let f : p.0 ∷ ss ≡ ds = cc in bars p.0 ss p.2 (sym f)

-- whole symbols do not go on over it
no_further : (text : List ℕ) (Barred : Symbol → Type 0) (a : Stop text Barred) (d r : List ℕ) (ds : List Symbol) → a.unfinished ++ a.after ≡ d ++ r → symbols_of d ≡ Some ds → ((s : Symbol) (ss : List Symbol) → Barred s → ds ≡ s ∷ ss → ⊥) → d ≡ []
no_further text Barred a [] r ds e h bars = refl
no_further text Barred a (c ∷ d) r ds e h bars = absurd (go (nat_le (length (c ∷ d)) (length a.unfinished)) refl)
  where
    within : Onward (c ∷ d) r a.unfinished a.after → ⊥
    within o =
        let n : symbols_of (c ∷ d) ≡ None = begun_alone (c ∷ d) (omega arith) (begun_front (c ∷ d) o.middle (ap is_begun (sym o.longer) ∙ a.begins)) in
        let k : None ≡ Some ds = sym n ∙ h in
        absurd (cc)

    over : (m : List ℕ) → c ∷ d ≡ a.unfinished ++ m → a.after ≡ m ++ r → 0 < length m → ⊥
    over [] l k some = absurd (omega (arith, some))
    over (ch ∷ m) l k some = refuses Barred a.unfinished m ch ds (a.next ch (m ++ r) k) (ap symbols_of (sym l) ∙ h) bars

    go : (b : Bool) → nat_le (length (c ∷ d)) (length a.unfinished) ≡ b → ⊥
    go true k = within (onward (c ∷ d) r a.unfinished a.after (sym e) (leb-true (length (c ∷ d)) (length a.unfinished) k))
    go false k =
        let l = leb-false (length (c ∷ d)) (length a.unfinished) k in
        let o = onward a.unfinished a.after (c ∷ d) r e (omega (arith, l)) in
        over o.middle o.longer o.rest (omega (arith, l, ap length o.longer, length-append a.unfinished o.middle))

alone : (text : List ℕ) (Barred : Symbol → Type 0) (a : Stop text Barred) → symbols_of a.whole ≡ Some a.symbols
alone text Barred a = ap symbols_of (sym (append-nil a.whole)) ∙ a.reads [] ∙ ap Some (append-nil a.symbols)

apart : (text : List ℕ) (Barred : Symbol → Type 0) (a : Stop text Barred) → text ≡ a.whole ++ (a.unfinished ++ a.after)
apart text Barred a = a.divided ∙ append_assoc a.whole a.unfinished a.after

-- the whole symbols before two stops, of which one isn't before the other
same_whole : (text : List ℕ) (P Q : Symbol → Type 0) (a : Stop text P) (b : Stop text Q) → length a.whole ≤ length b.whole → Bars P a.symbols b.symbols → (b.whole ≡ a.whole) × (b.symbols ≡ a.symbols)
same_whole text P Q a b h bars = go (symbols_of o.middle) refl (sym (a.reads o.middle) ∙ ap symbols_of (sym o.longer) ∙ alone text Q b)
  where
    o : Onward a.whole (a.unfinished ++ a.after) b.whole (b.unfinished ++ b.after)
    o = onward a.whole (a.unfinished ++ a.after) b.whole (b.unfinished ++ b.after) (sym (apart text P a) ∙ apart text Q b) h

    go : (q : Option (List Symbol)) → symbols_of o.middle ≡ q → option_map (λ ss. a.symbols ++ ss) q ≡ Some b.symbols → (b.whole ≡ a.whole) × (b.symbols ≡ a.symbols)
    go None e k = cc
    go (Some ds) e k =
        let j : a.symbols ++ ds ≡ b.symbols = cc in
        let z : o.middle ≡ [] = no_further text P a o.middle (b.unfinished ++ b.after) ds o.rest e (λ s ss p f. bars s ss p (sym j ∙ ap (λ x. a.symbols ++ x) f)) in
        let f : Some [] ≡ Some ds = ap symbols_of (sym z) ∙ e in
        let g : [] ≡ ds = cc in
        (o.longer ∙ ap (λ x. a.whole ++ x) z ∙ append-nil a.whole, sym j ∙ ap (λ x. a.symbols ++ x) (sym g) ∙ append-nil a.symbols)

-- the escapes that are begun there
same_unfinished : (text : List ℕ) (P Q : Symbol → Type 0) (a : Stop text P) (b : Stop text Q) → b.whole ≡ a.whole → length a.unfinished ≤ length b.unfinished → (b.unfinished ≡ a.unfinished) × (b.after ≡ a.after)
same_unfinished text P Q a b w h = go o.middle o.longer o.rest
  where
    rests : a.unfinished ++ a.after ≡ b.unfinished ++ b.after
    rests = append_cancel_left a.whole (a.unfinished ++ a.after) (b.unfinished ++ b.after) (sym (apart text P a) ∙ apart text Q b ∙ ap (λ x. x ++ (b.unfinished ++ b.after)) w)

    o : Onward a.unfinished a.after b.unfinished b.after
    o = onward a.unfinished a.after b.unfinished b.after rests h

    stopped : (ch : ℕ) (m : List ℕ) → b.unfinished ≡ a.unfinished ++ ch ∷ m → Refused P a.unfinished ch → ⊥
    stopped ch m l q =
        let u : is_begun (a.unfinished ++ ch ∷ []) ≡ true = begun_front (a.unfinished ++ ch ∷ []) m (ap is_begun (append_assoc a.unfinished (ch ∷ []) m ∙ sym l) ∙ b.begins) in
        let n : symbols_of (a.unfinished ++ ch ∷ []) ≡ None = begun_alone (a.unfinished ++ ch ∷ []) (omega (arith, length-append a.unfinished (ch ∷ []))) u in
        elim q [
          | inl p ↦ not_both (is_begun (a.unfinished ++ ch ∷ [])) u p.0
          | inr p ↦ let k : None ≡ Some (p.0 ∷ []) = sym n ∙ p.1 [] in absurd (cc)
        ]

    go : (m : List ℕ) → b.unfinished ≡ a.unfinished ++ m → a.after ≡ m ++ b.after → (b.unfinished ≡ a.unfinished) × (b.after ≡ a.after)
    go [] l r = (l ∙ append-nil a.unfinished, sym r)
    go (ch ∷ m) l r = absurd (stopped ch m l (a.next ch (m ++ b.after) r))

-- Two stops of one text are at one place, where neither refuses what the other has read.
pub same_stop : (text : List ℕ) (P Q : Symbol → Type 0) (a : Stop text P) (b : Stop text Q) → Bars P a.symbols b.symbols → Bars Q b.symbols a.symbols → (b.symbols ≡ a.symbols) × (b.unfinished ≡ a.unfinished) × (b.after ≡ a.after)
same_stop text P Q a b p q = (wholes.1, unfinished.0, unfinished.1)
  where
    wholes : (b.whole ≡ a.whole) × (b.symbols ≡ a.symbols)
    wholes = go (nat_le (length a.whole) (length b.whole)) refl
      where
        go : (t : Bool) → nat_le (length a.whole) (length b.whole) ≡ t → (b.whole ≡ a.whole) × (b.symbols ≡ a.symbols)
        go true e = same_whole text P Q a b (leb-true (length a.whole) (length b.whole) e) p
        go false e =
            let s = same_whole text Q P b a (omega (arith, leb-false (length a.whole) (length b.whole) e)) q in
            (sym s.0, sym s.1)

    unfinished : (b.unfinished ≡ a.unfinished) × (b.after ≡ a.after)
    unfinished = go (nat_le (length a.unfinished) (length b.unfinished)) refl
      where
        go : (t : Bool) → nat_le (length a.unfinished) (length b.unfinished) ≡ t → (b.unfinished ≡ a.unfinished) × (b.after ≡ a.after)
        go true e = same_unfinished text P Q a b wholes.0 (leb-true (length a.unfinished) (length b.unfinished) e)
        go false e =
            let s = same_unfinished text Q P b a (sym wholes.0) (omega (arith, leb-false (length a.unfinished) (length b.unfinished) e)) in
            (sym s.0, sym s.1)

-- ---- the fault of a label's text

dot_or_bracket : (s : Symbol) → is_bracket s ≡ true → is_dot s ≡ true → ⊥
dot_or_bracket (Plain c) b d = absurd (cc)
dot_or_bracket (Quoted c) b d = absurd (cc)
dot_or_bracket (Decimal c) b d = absurd (cc)

empty_or_full : (octets : List ℕ) → octets ≡ [] → 63 ≤ length octets → ⊥
empty_or_full octets e h = omega (arith, ap length e, h)

one_behind : (octets : List ℕ) (s : Symbol) (f g : LabelFault) → FaultBehind octets s f → FaultBehind octets s g → f ≡ g
one_behind octets s (BadText e) g p q = absurd p
one_behind octets s EmptyLabel g p q = absurd p
one_behind octets s f (BadText e) p q = absurd q
one_behind octets s f EmptyLabel p q = absurd q
one_behind octets s BinaryLabel BinaryLabel p q = refl
one_behind octets s BinaryLabel Dot p q = absurd (dot_or_bracket s p.0 q)
one_behind octets s BinaryLabel LongLabel p q = absurd (empty_or_full octets p.1 q.1)
one_behind octets s Dot BinaryLabel p q = absurd (dot_or_bracket s q.0 p)
one_behind octets s Dot Dot p q = refl
one_behind octets s Dot LongLabel p q = absurd (not_both (is_dot s) p q.0)
one_behind octets s LongLabel BinaryLabel p q = absurd (empty_or_full octets q.1 p.1)
one_behind octets s LongLabel Dot p q = absurd (not_both (is_dot s) q p.0)
one_behind octets s LongLabel LongLabel p q = refl

follows : (octets : List ℕ) (s : Symbol) (f : LabelFault) → FaultBehind octets s f → CannotFollow octets s
follows octets s (BadText e) p = absurd p
follows octets s EmptyLabel p = absurd p
follows octets s BinaryLabel p = inr (inl (p.1, p.0))
follows octets s Dot p = inl p
follows octets s LongLabel p = inr (inr p.1)

-- a label has no symbol that is refused
label_bars : (ss all : List Symbol) (f : LabelFault) → (all ≡ []) ⊎ (label_of_symbols all ≡ Some (map octet all)) → Bars (λ s. FaultBehind (map octet ss) s f) ss all
label_bars ss all f (inl n) s us p e = absurd (omega (arith, ap length (sym n ∙ e), length-append ss (s ∷ us)))
label_bars ss all f (inr l) s us p e =
    let n : label_of_symbols all ≡ None = ap label_of_symbols (e ∙ sym (append_assoc ss (s ∷ []) us)) ∙ cannot_follow ss s us (follows (map octet ss) s f p) in
    let k : None ≡ Some (map octet all) = sym n ∙ l in
    absurd (cc)

-- the fault at a place of the text
abbrev FaultThere : LabelFault → List Symbol → List ℕ → List ℕ → Type 0
FaultThere f symbols unfinished after =
    ((ch : ℕ) × (t : List ℕ) × (after ≡ ch ∷ t) × CharFault (map octet symbols) unfinished ch f)
    ⊎ (((t : List ℕ) × (after ≡ []) × (symbols_of unfinished ≡ None) × (f ≡ BadText ShortInput))
    ⊎ ((t : List ℕ) × (after ≡ []) × (symbols ≡ []) × (unfinished ≡ []) × (f ≡ EmptyLabel)))

-- none and some
pub some_none : {A : Type 0} (o : Option A) (x : A) → o ≡ None → o ≡ Some x → ⊥
some_none o x h k = let e : None ≡ Some x = sym h ∙ k in absurd (cc)

pub next_or_end : {A : Type 0} (after t : List A) (ch : A) → after ≡ ch ∷ t → after ≡ [] → ⊥
next_or_end after t ch h k = let e : ch ∷ t ≡ [] = sym h ∙ k in absurd (cc)

one_char : (octets unfinished : List ℕ) (ch : ℕ) (f g : LabelFault) → CharFault octets unfinished ch f → CharFault octets unfinished ch g → f ≡ g
one_char octets unfinished ch f g (inl p) (inl q) = p.2 ∙ sym q.2
one_char octets unfinished ch f g (inl p) (inr q) = absurd (some_none (symbols_of (unfinished ++ ch ∷ [])) (q.0 ∷ []) (p.1 []) (q.1 []))
one_char octets unfinished ch f g (inr p) (inl q) = absurd (some_none (symbols_of (unfinished ++ ch ∷ [])) (p.0 ∷ []) (q.1 []) (p.1 []))
one_char octets unfinished ch f g (inr p) (inr q) =
    let k : Some (q.0 ∷ []) ≡ Some (p.0 ∷ []) = sym (q.1 []) ∙ p.1 [] in
    let e : q.0 ≡ p.0 = cc in
    one_behind octets p.0 f g p.2 (subst (λ s. FaultBehind octets s g) e q.2)

one_there : (f g : LabelFault) (symbols : List Symbol) (unfinished after : List ℕ) → FaultThere f symbols unfinished after → FaultThere g symbols unfinished after → f ≡ g
one_there f g symbols unfinished after (inl p) (inl q) =
    let k : q.0 ∷ q.1 ≡ p.0 ∷ p.1 = sym q.2 ∙ p.2 in
    let e : q.0 ≡ p.0 = cc in
    one_char (map octet symbols) unfinished p.0 f g p.3 (subst (λ ch. CharFault (map octet symbols) unfinished ch g) e q.3)
one_there f g symbols unfinished after (inl p) (inr (inl q)) = absurd (next_or_end after p.1 p.0 p.2 q.1)
one_there f g symbols unfinished after (inl p) (inr (inr q)) = absurd (next_or_end after p.1 p.0 p.2 q.1)
one_there f g symbols unfinished after (inr (inl p)) (inl q) = absurd (next_or_end after q.1 q.0 q.2 p.1)
one_there f g symbols unfinished after (inr (inr p)) (inl q) = absurd (next_or_end after q.1 q.0 q.2 p.1)
one_there f g symbols unfinished after (inr (inl p)) (inr (inl q)) = p.3 ∙ sym q.3
one_there f g symbols unfinished after (inr (inl p)) (inr (inr q)) = absurd (some_none (symbols_of unfinished) [] p.2 (ap symbols_of q.3))
one_there f g symbols unfinished after (inr (inr p)) (inr (inl q)) = absurd (some_none (symbols_of unfinished) [] q.2 (ap symbols_of p.3))
one_there f g symbols unfinished after (inr (inr p)) (inr (inr q)) = p.4 ∙ sym q.4

label_refuses : (f : LabelFault) (symbols : List Symbol) (unfinished after : List ℕ) → FaultThere f symbols unfinished after → (ch : ℕ) (t : List ℕ) → after ≡ ch ∷ t → Refused (λ s. FaultBehind (map octet symbols) s f) unfinished ch
label_refuses f symbols unfinished after (inl p) ch t e =
    let k : p.0 ∷ p.1 ≡ ch ∷ t = sym p.2 ∙ e in
    let c : p.0 ≡ ch = cc in
    subst (Refused (λ s. FaultBehind (map octet symbols) s f) unfinished) c (elim p.3 [ inl q ↦ inl (q.0, q.1) | inr q ↦ inr q ])
label_refuses f symbols unfinished after (inr (inl p)) ch t e = absurd (next_or_end after t ch e p.1)
label_refuses f symbols unfinished after (inr (inr p)) ch t e = absurd (next_or_end after t ch e p.1)

label_stop : (text : List ℕ) (f : LabelFault) (o : FirstFault in_turn text f) → Stop text (λ s. FaultBehind (map octet o.symbols) s f)
label_stop text f o = record {
  whole = o.whole;
  symbols = o.symbols;
  unfinished = o.unfinished;
  after = o.after;
  divided = given (o.whole ++ o.unfinished) text o.after o.yields;
  reads = o.reads;
  begins = o.begins;
  next = label_refuses f o.symbols o.unfinished o.after o.fault;
}

pub one_fault : (text : List ℕ) (f g : LabelFault) → FirstFault in_turn text f → FirstFault in_turn text g → f ≡ g
unfolding label_stop
one_fault text f g a b =
    let s = same_stop text (λ s. FaultBehind (map octet a.symbols) s f) (λ s. FaultBehind (map octet b.symbols) s g) (label_stop text f a) (label_stop text g b) (label_bars a.symbols b.symbols f b.stands) (label_bars b.symbols a.symbols g a.stands) in
    let here : FaultThere g a.symbols b.unfinished b.after = subst (λ x. FaultThere g x b.unfinished b.after) s.0 b.fault in
    let there : FaultThere g a.symbols a.unfinished b.after = subst (λ x. FaultThere g a.symbols x b.after) s.1 here in
    one_there f g a.symbols a.unfinished a.after a.fault (subst (FaultThere g a.symbols a.unfinished) s.2 there)
