-- What is printed of a label is read as the same label.
use Rattle.std.proofs.Common.{◌≡◌, ℕ, ◌+◌, ◌-◌, ◌*◌, ◌/◌, ◌%◌, ◌<◌, ◌≤◌, Bool, true, false, cond, ◌&&◌, ◌||◌, not, List, [], ◌∷◌, ◌++◌, map, length, refl, sym, ap, ◌∙◌, arith, nat_eq, nat_le, nat_lt, Option, Some, None, ◌⊎◌, inl, inr, subst}
use Rattle.std.specs.Option.{option_map}
use Rattle.std.specs.List.{flat_map, list_all, list_any, AllByRecursion}
use Rattle.std.proofs.lemmas.List.{length-map}
use Rattle.std.proofs.lemmas.Bool.{and_parts, eqb-true, leb-true, le-leb, lt-ltb}
use Rattle.definitions.specs.Name.{IsLabel}
use Rattle.definitions.specs.Text.{Symbol, Plain, Quoted, Decimal, is_symbol, is_printable, is_digit, is_dot, is_bracket, is_quoted, octet, octet_at, spelling, three_digits, escape_at, symbol_at, symbol_of_octet, symbols_of, symbols_behind, tail_len, text_of_label, begins_binary, label_of_symbols, label_of_text}

unnot : (a : Bool) → not a ≡ true → a ≡ false
unnot true h = cc
unnot false h = refl

then : (c : ℕ) (rest : List ℕ) (s : Symbol) → symbol_at c rest ≡ Some s → symbols_of (c ∷ rest) ≡ option_map (λ ss. s ∷ ss) (symbols_behind (tail_len s) rest)
then c rest s h = ap (λ (o : Option Symbol). elim o as (λ _. Option (List Symbol)) [ None ↦ None | Some s ↦ option_map (λ ss. s ∷ ss) (symbols_behind (tail_len s) rest) ]) h

quoted_at : (c : ℕ) (rest : List ℕ) → is_digit c ≡ false → is_printable c ≡ true → escape_at (c ∷ rest) ≡ Some (Quoted c)
quoted_at c [] h p = λ i. cond (h i) None (cond (p i) (Some (Quoted c)) None)
quoted_at c (d ∷ []) h p = λ i. cond (h i) None (cond (p i) (Some (Quoted c)) None)
quoted_at c (d ∷ e ∷ rest) h p = λ i. cond (h i) (octet_at c d e) (cond (p i) (Some (Quoted c)) None)

abbrev value : ℕ → ℕ → ℕ → ℕ
value d e f = (d - 48) * 100 + (e - 48) * 10 + (f - 48)

digit : (d : ℕ) → d < 10 → is_digit (48 + d) ≡ true
digit d h = λ i. le-leb 48 (48 + d) (omega arith) i && le-leb (48 + d) 57 (omega (arith, h)) i

-- the three digits of an octet spell it
spelt : (b : ℕ) → value (48 + b / 100) (48 + b / 10 % 10) (48 + b % 10) ≡ b
spelt b = omega arith

decimal_at : (b : ℕ) (rest : List ℕ) → b ≤ 255 → escape_at (three_digits b ++ rest) ≡ Some (Decimal b)
decimal_at b rest h =
    (λ i. cond (digit (b / 100) (omega (arith, h)) i) (cond (digit (b / 10 % 10) (omega arith) i && digit (b % 10) (omega arith) i && nat_le (spelt b i) 255) (Some (Decimal (spelt b i))) None) (cond (is_printable (48 + b / 100)) (Some (Quoted (48 + b / 100))) None))
    ∙ ap (λ t. cond t (Some (Decimal b)) None) (le-leb b 255 h)

pub symbol_again : (s : Symbol) (rest : List ℕ) → is_symbol s ≡ true → symbols_of (spelling s ++ rest) ≡ option_map (λ ss. s ∷ ss) (symbols_of rest)
symbol_again (Plain c) rest h =
    let p : (is_printable c ≡ true) × (not (nat_eq c 92) ≡ true) = and_parts (is_printable c) (not (nat_eq c 92)) h in
    then c rest (Plain c) (λ i. cond (unnot (nat_eq c 92) p.1 i) (escape_at rest) (cond (p.0 i) (Some (Plain c)) None))
symbol_again (Quoted c) rest h =
    let p : (is_printable c ≡ true) × (not (is_digit c) ≡ true) = and_parts (is_printable c) (not (is_digit c)) h in
    then 92 (c ∷ rest) (Quoted c) (quoted_at c rest (unnot (is_digit c) p.1) p.0)
symbol_again (Decimal b) rest h = then 92 (three_digits b ++ rest) (Decimal b) (decimal_at b rest (leb-true b 255 h))

-- how an octet is printed
pub record Prints (b : ℕ) (s : Symbol) : Type 0 where
  pub valid : is_symbol s ≡ true
  pub same : octet s ≡ b
  pub undivided : is_dot s ≡ false
  pub plain : is_bracket s ≡ false

either : (a b : Bool) → (a || b) ≡ true → (a ≡ true) ⊎ (b ≡ true)
either true b h = inl refl
either false b h = inr h

neither : (a b : Bool) → (a || b) ≡ false → (a ≡ false) × (b ≡ false)
neither true b h = cc
neither false b h = (refl, h)

quoted : (b : ℕ) → is_quoted b ≡ true → Prints b (Quoted b)
quoted b h = elim (either (nat_eq b 32 || nat_eq b 46) (nat_eq b 92) h) [
  | inl k ↦ elim (either (nat_eq b 32) (nat_eq b 46) k) [
    | inl e ↦ subst (λ n. Prints n (Quoted n)) (sym (eqb-true b 32 e)) (record { valid = refl; same = refl; undivided = refl; plain = refl })
    | inr e ↦ subst (λ n. Prints n (Quoted n)) (sym (eqb-true b 46 e)) (record { valid = refl; same = refl; undivided = refl; plain = refl })
  ]
  | inr e ↦ subst (λ n. Prints n (Quoted n)) (sym (eqb-true b 92 e)) (record { valid = refl; same = refl; undivided = refl; plain = refl })
]

pub prints : (b : ℕ) → b < 256 → Prints b (symbol_of_octet b)
prints b h = go (is_quoted b) (is_printable b) refl refl
  where
    go : (q p : Bool) → is_quoted b ≡ q → is_printable b ≡ p → Prints b (cond q (Quoted b) (cond p (Plain b) (Decimal b)))
    go true p e f = quoted b e
    go false true e f =
        let n : ((nat_eq b 32 || nat_eq b 46) ≡ false) × (nat_eq b 92 ≡ false) = neither (nat_eq b 32 || nat_eq b 46) (nat_eq b 92) e in
        let m : (nat_eq b 32 ≡ false) × (nat_eq b 46 ≡ false) = neither (nat_eq b 32) (nat_eq b 46) n.0 in
        record { valid = λ i. f i && not (n.1 i); same = refl; undivided = m.1; plain = refl }
    go false false e f = record { valid = le-leb b 255 (omega (arith, h)); same = refl; undivided = refl; plain = refl }

text_again : (l : List ℕ) → AllByRecursion (λ b. b < 256) l → symbols_of (text_of_label l) ≡ Some (map symbol_of_octet l)
text_again [] h = refl
text_again (b ∷ l) h = symbol_again (symbol_of_octet b) (text_of_label l) (prints b h.0).valid ∙ ap (option_map (λ ss. symbol_of_octet b ∷ ss)) (text_again l h.1)

valid_all : (l : List ℕ) → AllByRecursion (λ b. b < 256) l → list_all is_symbol (map symbol_of_octet l) ≡ true
valid_all [] h = refl
valid_all (b ∷ l) h = λ i. (prints b h.0).valid i && valid_all l h.1 i

pub no_dot : (l : List ℕ) → AllByRecursion (λ b. b < 256) l → list_any is_dot (map symbol_of_octet l) ≡ false
no_dot [] h = refl
no_dot (b ∷ l) h = λ i. (prints b h.0).undivided i || no_dot l h.1 i

no_bracket : (l : List ℕ) → AllByRecursion (λ b. b < 256) l → begins_binary (map symbol_of_octet l) ≡ false
no_bracket [] h = refl
no_bracket (b ∷ l) h = (prints b h.0).plain

same_octets : (l : List ℕ) → AllByRecursion (λ b. b < 256) l → map octet (map symbol_of_octet l) ≡ l
same_octets [] h = refl
same_octets (b ∷ l) h = λ i. (prints b h.0).same i ∷ same_octets l h.1 i

pub as_label : (l : List ℕ) → IsLabel l → AllByRecursion (λ b. b < 256) l → label_of_symbols (map symbol_of_octet l) ≡ Some l
as_label l is h = (λ i. cond ((((some i && short i) && valid_all l h i) && not (no_bracket l h i)) && not (no_dot l h i)) (Some (same_octets l h i)) None)
  where
    some : nat_lt 0 (length (map symbol_of_octet l)) ≡ true
    some = lt-ltb 0 (length (map symbol_of_octet l)) (omega (arith, is.some, length-map l symbol_of_octet))

    short : nat_le (length (map symbol_of_octet l)) 63 ≡ true
    short = le-leb (length (map symbol_of_octet l)) 63 (omega (arith, is.short, length-map l symbol_of_octet))

pub read_back : (l : List ℕ) → IsLabel l → AllByRecursion (λ b. b < 256) l → label_of_text (text_of_label l) ≡ Some l
read_back l is h = ap (λ (o : Option (List Symbol)). elim o as (λ _. Option (List ℕ)) [ None ↦ None | Some ss ↦ label_of_symbols ss ]) (text_again l h) ∙ as_label l is h

pub spelled_is_read : (ss : List Symbol) → list_all is_symbol ss ≡ true → symbols_of (flat_map spelling ss) ≡ Some ss
spelled_is_read [] h = refl
spelled_is_read (s ∷ ss) h =
    let p : (is_symbol s ≡ true) × (list_all is_symbol ss ≡ true) = and_parts (is_symbol s) (list_all is_symbol ss) h in
    symbol_again s (flat_map spelling ss) p.0 ∙ ap (option_map (λ us. s ∷ us)) (spelled_is_read ss p.1)
