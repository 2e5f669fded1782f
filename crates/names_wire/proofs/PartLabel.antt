-- What has been read of a label's text.
use Rattle.std.proofs.Common.{◌≡◌, ◌⊎◌, inl, inr, ℕ, ◌<◌, ◌≤◌, Bool, true, false, cond, ◌&&◌, ◌||◌, not, List, [], ◌∷◌, ◌++◌, map, length, refl, sym, ap, ◌∙◌, append_assoc, arith, nat_le, nat_lt, length-append, subst, Option, Some, None}
use Rattle.std.specs.Option.{option_map}
use Rattle.std.specs.Iterator.{Yields}
use Rattle.std.specs.List.{list_all, list_any}
use Rattle.std.proofs.lemmas.List.{append-nil, length-map}
use Rattle.std.proofs.lemmas.Bool.{leb-true, leb-false, lt-leb, le-leb, lt-ltb}
use Rattle.definitions.specs.Text.{Symbol, is_symbol, is_dot, is_bracket, octet, symbols_of, begins_binary, is_label_text, label_of_symbols, label_of_text}
use Rattle.definitions.specs.Name.{Label}
use Rattle.names_wire.specs.Spelled.{CannotFollow}

-- The text so far is some whole symbols and pending characters, and the octets are those of the symbols.
pub record PartRead (text pending octets : List ℕ) : Type 0 where
  pub symbols : List Symbol
  pub read : (rest : List ℕ) → symbols_of (text ++ rest) ≡ option_map (λ us. symbols ++ us) (symbols_of (pending ++ rest))
  pub whole : List ℕ
  pub divided : text ≡ whole ++ pending
  pub reads : (rest : List ℕ) → symbols_of (whole ++ rest) ≡ option_map (λ us. symbols ++ us) (symbols_of rest)
  pub spelled : octets ≡ map octet symbols
  pub each : list_all is_symbol symbols ≡ true
  pub undivided : list_any is_dot symbols ≡ false
  pub first : begins_binary symbols ≡ false
  pub short : length octets ≤ 63

pub same_option : (o : Option (List Symbol)) → option_map (λ us. [] ++ us) o ≡ o
same_option None = refl
same_option (Some us) = refl

-- before the first character
pub begun : (pending octets : List ℕ) → pending ≡ [] → octets ≡ [] → PartRead [] pending octets
begun pending octets p e = record { symbols = []; read = λ rest. sym (same_option (symbols_of (pending ++ rest)) ∙ ap (λ t. symbols_of (t ++ rest)) p); whole = []; divided = sym p; reads = λ rest. sym (same_option (symbols_of rest)); spelled = e; each = refl; undivided = refl; first = refl; short = omega (arith, ap length e) }

-- a character that makes no symbol whole
pub waited : (text pending onward octets : List ℕ) (c : ℕ) → PartRead text pending octets → ((rest : List ℕ) → symbols_of (pending ++ c ∷ rest) ≡ symbols_of (onward ++ rest)) → onward ≡ pending ++ c ∷ [] → PartRead (text ++ c ∷ []) onward octets
waited text pending onward octets c p h e = record {
  symbols = p.symbols;
  read = λ rest. ap symbols_of (append_assoc text (c ∷ []) rest) ∙ p.read (c ∷ rest) ∙ ap (option_map (λ us. p.symbols ++ us)) (h rest);
  whole = p.whole;
  divided = ap (λ t. t ++ c ∷ []) p.divided ∙ append_assoc p.whole pending (c ∷ []) ∙ ap (λ t. p.whole ++ t) (sym e);
  reads = p.reads;
  spelled = p.spelled;
  each = p.each;
  undivided = p.undivided;
  first = p.first;
  short = p.short;
}

pub joined : (ss : List Symbol) (s : Symbol) (o : Option (List Symbol)) → option_map (λ us. ss ++ us) (option_map (λ us. s ∷ us) o) ≡ option_map (λ us. (ss ++ s ∷ []) ++ us) o
joined ss s None = refl
joined ss s (Some us) = ap Some (sym (append_assoc ss (s ∷ []) us))

reads_on : (text pending onward octets : List ℕ) (c : ℕ) (s : Symbol) (p : PartRead text pending octets) → ((rest : List ℕ) → symbols_of (pending ++ c ∷ rest) ≡ option_map (λ us. s ∷ us) (symbols_of (onward ++ rest))) → (rest : List ℕ) → symbols_of ((text ++ c ∷ []) ++ rest) ≡ option_map (λ us. (p.symbols ++ s ∷ []) ++ us) (symbols_of (onward ++ rest))
reads_on text pending onward octets c s p h rest =
    ap symbols_of (append_assoc text (c ∷ []) rest) ∙ p.read (c ∷ rest) ∙ ap (option_map (λ us. p.symbols ++ us)) (h rest) ∙ joined p.symbols s (symbols_of (onward ++ rest))

all_end : (ss : List Symbol) (s : Symbol) → list_all is_symbol ss ≡ true → is_symbol s ≡ true → list_all is_symbol (ss ++ s ∷ []) ≡ true
all_end [] s h k = ap (λ b. b && true) k
all_end (t ∷ ss) s h k = both (is_symbol t) (list_all is_symbol ss) (list_all is_symbol (ss ++ s ∷ [])) h (λ e. all_end ss s e k)
  where
    both : (a b c : Bool) → (a && b) ≡ true → (b ≡ true → c ≡ true) → (a && c) ≡ true
    both true b c h f = f h
    both false b c h f = h

none_end : (ss : List Symbol) (s : Symbol) → list_any is_dot ss ≡ false → is_dot s ≡ false → list_any is_dot (ss ++ s ∷ []) ≡ false
none_end [] s h k = ap (λ b. b || false) k
none_end (t ∷ ss) s h k = both (is_dot t) (list_any is_dot ss) (list_any is_dot (ss ++ s ∷ [])) h (λ e. none_end ss s e k)
  where
    both : (a b c : Bool) → (a || b) ≡ false → (b ≡ false → c ≡ false) → (a || c) ≡ false
    both true b c h f = h
    both false b c h f = f h

map_end : (ss : List Symbol) (s : Symbol) → map octet (ss ++ s ∷ []) ≡ map octet ss ++ octet s ∷ []
map_end [] s = refl
map_end (t ∷ ss) s = ap (λ os. octet t ∷ os) (map_end ss s)

opposite : (b : Bool) → (b ≡ true → ⊥) → b ≡ false
opposite true h = absurd (h refl)
opposite false h = refl

first_end : (ss : List Symbol) (s : Symbol) → begins_binary ss ≡ false → (map octet ss ≡ [] → is_bracket s ≡ false) → begins_binary (ss ++ s ∷ []) ≡ false
first_end [] s h k = k refl
first_end (t ∷ ss) s h k = h

-- a character that makes a symbol whole, which goes behind the octets
pub took : (text pending onward octets longer : List ℕ) (c : ℕ) (s : Symbol) → PartRead text pending octets → ((rest : List ℕ) → symbols_of (pending ++ c ∷ rest) ≡ option_map (λ us. s ∷ us) (symbols_of (onward ++ rest))) → is_symbol s ≡ true → (CannotFollow octets s → ⊥) → longer ≡ octets ++ octet s ∷ [] → onward ≡ [] → PartRead (text ++ c ∷ []) onward longer
took text pending onward octets longer c s p h v n e k = record {
  symbols = p.symbols ++ s ∷ [];
  read = reads_on text pending onward octets c s p h;
  whole = text ++ c ∷ [];
  divided = sym (append-nil (text ++ c ∷ [])) ∙ ap (λ t. (text ++ c ∷ []) ++ t) (sym k);
  reads = λ rest. reads_on text pending onward octets c s p h rest ∙ ap (λ t. option_map (λ us. (p.symbols ++ s ∷ []) ++ us) (symbols_of (t ++ rest))) k;
  spelled = e ∙ ap (λ os. os ++ octet s ∷ []) p.spelled ∙ sym (map_end p.symbols s);
  each = all_end p.symbols s p.each v;
  undivided = none_end p.symbols s p.undivided (opposite (is_dot s) (λ d. n (inl d)));
  first = first_end p.symbols s p.first (λ m. opposite (is_bracket s) (λ b. n (inr (inl (p.spelled ∙ m, b)))));
  short = few;
}
  where
    below : (length octets ≤ 63) → (nat_le 63 (length octets) ≡ false) → length longer ≤ 63
    below h k = omega (arith, leb-false 63 (length octets) k, ap length e ∙ length-append octets (octet s ∷ []))

    few : length longer ≤ 63
    few = below p.short (opposite (nat_le 63 (length octets)) (λ k. n (inr (inr (leb-true 63 (length octets) k)))))

-- what an option of symbols is as a label
abbrev label_of : Option (List Symbol) → Option Label
label_of o = elim o [ None ↦ None | Some ss ↦ label_of_symbols ss ]

and_false : (a : Bool) → (a && false) ≡ false
and_false true = refl
and_false false = refl

any_middle : (ss : List Symbol) (s : Symbol) (us : List Symbol) → is_dot s ≡ true → list_any is_dot ((ss ++ s ∷ []) ++ us) ≡ true
any_middle [] s us h = ap (λ b. b || list_any is_dot us) h
any_middle (t ∷ ss) s us h = ap (λ b. is_dot t || b) (any_middle ss s us h) ∙ either (is_dot t)
  where
    either : (a : Bool) → (a || true) ≡ true
    either true = refl
    either false = refl

unlabelled : (x : List Symbol) → (is_label_text x ≡ false) ⊎ (list_any is_dot x ≡ true) → label_of_symbols x ≡ None
unlabelled x (inl h) = ap (λ b. cond (b && not (list_any is_dot x)) (Some (map octet x)) None) h
unlabelled x (inr h) = ap (λ b. cond (is_label_text x && not b) (Some (map octet x)) None) h ∙ ap (λ b. cond b (Some (map octet x)) None) (and_false (is_label_text x))

bracketed : (ss : List Symbol) (s : Symbol) (us : List Symbol) → map octet ss ≡ [] → is_bracket s ≡ true → is_label_text ((ss ++ s ∷ []) ++ us) ≡ false
bracketed [] s us e h = ap (λ b. (nat_lt 0 (length (s ∷ us)) && nat_le (length (s ∷ us)) 63 && list_all is_symbol (s ∷ us)) && not b) h ∙ and_false (nat_lt 0 (length (s ∷ us)) && nat_le (length (s ∷ us)) 63 && list_all is_symbol (s ∷ us))
bracketed (t ∷ ss) s us e h = cc

too_long : (x : List Symbol) → 63 < length x → is_label_text x ≡ false
too_long x h =
    ap (λ b. ((nat_lt 0 (length x) && b) && list_all is_symbol x) && not (begins_binary x)) (lt-leb (length x) 63 h)
    ∙ ap (λ b. (b && list_all is_symbol x) && not (begins_binary x)) (and_false (nat_lt 0 (length x)))

longer : (ss : List Symbol) (s : Symbol) (us : List Symbol) → 63 ≤ length ss → 63 < length ((ss ++ s ∷ []) ++ us)
longer ss s us h = omega (arith, length-append (ss ++ s ∷ []) us, length-append ss (s ∷ []))

-- no label goes on so
pub cannot_follow : (ss : List Symbol) (s : Symbol) (us : List Symbol) → CannotFollow (map octet ss) s → label_of_symbols ((ss ++ s ∷ []) ++ us) ≡ None
cannot_follow ss s us (inl d) = unlabelled ((ss ++ s ∷ []) ++ us) (inr (any_middle ss s us d))
cannot_follow ss s us (inr (inl b)) = unlabelled ((ss ++ s ∷ []) ++ us) (inl (bracketed ss s us b.0 b.1))
cannot_follow ss s us (inr (inr l)) = unlabelled ((ss ++ s ∷ []) ++ us) (inl (too_long ((ss ++ s ∷ []) ++ us) (longer ss s us (subst (λ k. 63 ≤ k) (length-map ss octet) l))))

-- nor the text of one
pub spoilt : (text pending onward octets : List ℕ) (c : ℕ) (s : Symbol) → PartRead text pending octets → ((rest : List ℕ) → symbols_of (pending ++ c ∷ rest) ≡ option_map (λ us. s ∷ us) (symbols_of (onward ++ rest))) → CannotFollow octets s → (rest : List ℕ) → label_of_text ((text ++ c ∷ []) ++ rest) ≡ None
spoilt text pending onward octets c s p h n rest = ap label_of (reads_on text pending onward octets c s p h rest) ∙ fails (symbols_of (onward ++ rest))
  where
    fails : (o : Option (List Symbol)) → label_of (option_map (λ us. (p.symbols ++ s ∷ []) ++ us) o) ≡ None
    fails None = refl
    fails (Some us) = cannot_follow p.symbols s us (subst (λ os. CannotFollow os s) p.spelled n)

-- a character that no symbol has there
pub stopped : (text pending octets : List ℕ) (c : ℕ) → PartRead text pending octets → ((rest : List ℕ) → symbols_of (pending ++ c ∷ rest) ≡ None) → (rest : List ℕ) → label_of_text ((text ++ c ∷ []) ++ rest) ≡ None
stopped text pending octets c p h rest = ap label_of (ap symbols_of (append_assoc text (c ∷ []) rest) ∙ p.read (c ∷ rest) ∙ ap (option_map (λ us. p.symbols ++ us)) (h rest))

at_end : (text pending octets : List ℕ) (p : PartRead text pending octets) → symbols_of text ≡ option_map (λ us. p.symbols ++ us) (symbols_of pending)
at_end text pending octets p = ap symbols_of (sym (append-nil text)) ∙ p.read [] ∙ ap (λ t. option_map (λ us. p.symbols ++ us) (symbols_of t)) (append-nil pending)

-- the text ends within a symbol
pub cut_short : (text pending octets : List ℕ) → PartRead text pending octets → symbols_of pending ≡ None → label_of_text text ≡ None
cut_short text pending octets p h = ap label_of (at_end text pending octets p ∙ ap (option_map (λ us. p.symbols ++ us)) h)

whole : (text pending octets : List ℕ) (p : PartRead text pending octets) → pending ≡ [] → symbols_of text ≡ Some p.symbols
whole text pending octets p e = at_end text pending octets p ∙ ap (λ t. option_map (λ us. p.symbols ++ us) (symbols_of t)) e ∙ ap Some (append-nil p.symbols)

-- the text ends before the first symbol
pub empty : (text pending octets : List ℕ) → PartRead text pending octets → pending ≡ [] → octets ≡ [] → label_of_text text ≡ None
empty text pending octets p e z = ap label_of (whole text pending octets p e) ∙ nothing p.symbols (sym p.spelled ∙ z)
  where
    nothing : (ss : List Symbol) → map octet ss ≡ [] → label_of_symbols ss ≡ None
    nothing [] h = refl
    nothing (s ∷ ss) h = cc

-- the text is a label's
pub complete : (text pending octets : List ℕ) → PartRead text pending octets → pending ≡ [] → 0 < length octets → label_of_text text ≡ Some octets
complete text pending octets p e some = ap label_of (whole text pending octets p e) ∙ label ∙ ap Some (sym p.spelled)
  where
    count : length octets ≡ length p.symbols
    count = ap length p.spelled ∙ length-map p.symbols octet

    parts : (length octets ≤ 63) → (a : nat_lt 0 (length p.symbols) ≡ true) → (b : nat_le (length p.symbols) 63 ≡ true) → label_of_symbols p.symbols ≡ Some (map octet p.symbols)
    parts h a b = λ i. cond ((((a i && b i) && p.each i) && not (p.first i)) && not (p.undivided i)) (Some (map octet p.symbols)) None

    label : label_of_symbols p.symbols ≡ Some (map octet p.symbols)
    label = parts p.short (lt-ltb 0 (length p.symbols) (omega (arith, some, count))) (le-leb (length p.symbols) 63 (omega (arith, p.short, count)))

-- calls that gave some characters, and one more call
pub yields_more : {S : Type 0} (steps : S → Option ℕ → S → Type 0) (s : S) (text : List ℕ) (t : S) (c : ℕ) (u : S) → Yields steps s text t → steps t (Some c) u → Yields steps s (text ++ c ∷ []) u
yields_more {S} steps s [] t c u y h = (u, subst (λ (x : S). steps x (Some c) u) (sym y) h, refl)
yields_more {S} steps s (d ∷ text) t c u y h = (y.0, y.1, yields_more steps y.0 text t c u y.2 h)

pub some_octets : (xs : List ℕ) → (xs ≡ [] → ⊥) → 0 < length xs
some_octets [] h = absurd (h refl)
some_octets (x ∷ xs) h = omega arith

pub not_both : (b : Bool) → b ≡ true → b ≡ false → ⊥
not_both b h k = let e : true ≡ false = sym h ∙ k in absurd (cc)
