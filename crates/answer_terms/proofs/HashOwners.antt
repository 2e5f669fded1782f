-- A label that spells octets in base32hex, and one that spells none.
use Rattle.std.proofs.Common.{◌≡◌, ℕ, zero, suc, ◌+◌, ◌*◌, ◌/◌, ◌%◌, ◌<◌, ◌≤◌, Bool, true, false, not, cond, List, [], ◌∷◌, length, refl, sym, subst, ap, ◌∙◌, arith, inl, inr, ⊎_elim, leb, ltb}
use Rattle.std.specs.Prelude.{◌&&◌, ◌||◌, Some, None}
use Rattle.std.specs.List.{AllByRecursion, prefix_len}
use Rattle.std.specs.Char.{to_ascii_lowercase}
use Rattle.std.specs.Str.{IsAscii, IsUtf8, str_to_ascii_lowercase}
use Rattle.std.proofs.lemmas.Bool.{and_parts, le-leb, leb-true, lt-leb, ltb-true, ltb-false}
use Rattle.std.proofs.lemmas.Slice.Eq.{bytes_eq-Decides}
use Rattle.std.proofs.lemmas.Str.{IsUtf8-from_ascii}
use Rattle.definitions.specs.Base32hex.{base32hex, digit}
use Rattle.numbers.specs.Decoding.{decoded, first_no_digit, is_digit, value}
use Rattle.numbers.specs.Refusing.{IsBadLength, RefusedDigits, RefusedText}
use Rattle.numbers.specs.declared.base32hex.DecodeError.{DecodeError}
use Rattle.numbers.specs.declared.base32hex.DecodeError.TheVariants.{BadChar, BadLength, TrailingBits, Memory}
use Rattle.numbers.proofs.Decodes.{decodes}
use Rattle.answer_terms.specs.HashOwner.{is_base32hex, label_octets}

-- ---- digits

abbrev pub AreDigits : List ℕ → Type 0
AreDigits ds = AllByRecursion (λ c. is_digit c ≡ true) ds

abbrev AreBytes : List ℕ → Type 0
AreBytes os = AllByRecursion (λ x. x < 256) os

low_digit : (c : ℕ) → 48 ≤ c → c ≤ 57 → is_digit c ≡ true
low_digit c a b = λ i. (le-leb 48 c a i && le-leb c 57 b i) || (leb 97 c && leb c 118)

high_digit : (c : ℕ) → 97 ≤ c → c ≤ 118 → is_digit c ≡ true
high_digit c a b = λ i. (le-leb 48 c (omega (arith, a)) i && lt-leb c 57 (omega (arith, a)) i) || (le-leb 97 c a i && le-leb c 118 b i)

digit_is : (d : ℕ) → d < 32 → is_digit (digit d) ≡ true
digit_is d small = go (ltb d 10) refl
  where
    go : (t : Bool) → ltb d 10 ≡ t → is_digit (digit d) ≡ true
    go true e = ap (λ b. is_digit (cond b (48 + d) (87 + d))) e ∙ low_digit (48 + d) (omega arith) (omega (arith, ltb-true d 10 e))
    go false e = ap (λ b. is_digit (cond b (48 + d) (87 + d))) e ∙ high_digit (87 + d) (omega (arith, ltb-false d 10 e)) (omega (arith, small))

-- the digits of octets
digits_of : (o : List ℕ) → AreBytes o → AreDigits (base32hex o)
digits_of [] h = tt
digits_of (a ∷ []) h = (digit_is (a / 8) (omega (arith, h.0)), (digit_is (a % 8 * 4) (omega arith), tt))
digits_of (a ∷ b ∷ []) h = (digit_is (a / 8) (omega (arith, h.0)), (digit_is (a % 8 * 4 + b / 64) (omega (arith, h.1.0)), (digit_is (b / 2 % 32) (omega arith), (digit_is (b % 2 * 16) (omega arith), tt))))
digits_of (a ∷ b ∷ c ∷ []) h = (digit_is (a / 8) (omega (arith, h.0)), (digit_is (a % 8 * 4 + b / 64) (omega (arith, h.1.0)), (digit_is (b / 2 % 32) (omega arith), (digit_is (b % 2 * 16 + c / 16) (omega (arith, h.1.1.0)), (digit_is (c % 16 * 2) (omega arith), tt)))))
digits_of (a ∷ b ∷ c ∷ d ∷ []) h = (digit_is (a / 8) (omega (arith, h.0)), (digit_is (a % 8 * 4 + b / 64) (omega (arith, h.1.0)), (digit_is (b / 2 % 32) (omega arith), (digit_is (b % 2 * 16 + c / 16) (omega (arith, h.1.1.0)), (digit_is (c % 16 * 2 + d / 128) (omega (arith, h.1.1.1.0)), (digit_is (d / 4 % 32) (omega arith), (digit_is (d % 4 * 8) (omega arith), tt)))))))
digits_of (a ∷ b ∷ c ∷ d ∷ e ∷ rest) h = (digit_is (a / 8) (omega (arith, h.0)), (digit_is (a % 8 * 4 + b / 64) (omega (arith, h.1.0)), (digit_is (b / 2 % 32) (omega arith), (digit_is (b % 2 * 16 + c / 16) (omega (arith, h.1.1.0)), (digit_is (c % 16 * 2 + d / 128) (omega (arith, h.1.1.1.0)), (digit_is (d / 4 % 32) (omega arith), (digit_is (d % 4 * 8 + e / 32) (omega (arith, h.1.1.1.1.0)), (digit_is (e % 32) (omega arith), digits_of rest h.1.1.1.1.1))))))))

-- no octets have 1, 3 or 6 digits beside whole blocks
good_length : (o : List ℕ) → IsBadLength (length (base32hex o)) → ⊥
good_length [] h = ⊎_elim (λ e. omega (arith, e)) (λ k. ⊎_elim (λ e. omega (arith, e)) (λ e. omega (arith, e)) k) h
good_length (a ∷ []) h = ⊎_elim (λ e. omega (arith, e)) (λ k. ⊎_elim (λ e. omega (arith, e)) (λ e. omega (arith, e)) k) h
good_length (a ∷ b ∷ []) h = ⊎_elim (λ e. omega (arith, e)) (λ k. ⊎_elim (λ e. omega (arith, e)) (λ e. omega (arith, e)) k) h
good_length (a ∷ b ∷ c ∷ []) h = ⊎_elim (λ e. omega (arith, e)) (λ k. ⊎_elim (λ e. omega (arith, e)) (λ e. omega (arith, e)) k) h
good_length (a ∷ b ∷ c ∷ d ∷ []) h = ⊎_elim (λ e. omega (arith, e)) (λ k. ⊎_elim (λ e. omega (arith, e)) (λ e. omega (arith, e)) k) h
good_length (a ∷ b ∷ c ∷ d ∷ e ∷ rest) h =
    let n = length (base32hex rest) in
    good_length rest (less n h)
  where
    less : (n : ℕ) → IsBadLength (suc (suc (suc (suc (suc (suc (suc (suc n)))))))) → IsBadLength n
    less n h = ⊎_elim (λ e. inl (omega (arith, e))) (λ k. inr (⊎_elim (λ e. inl (omega (arith, e))) (λ e. inr (omega (arith, e))) k)) h

-- ---- octets of digits

one_small : (x y : ℕ) → x < 32 → y < 32 → x * 8 + y / 4 < 256
one_small x y a b = omega (arith, a, b)

two_small : (x y z : ℕ) → y < 32 → z < 32 → x % 4 * 64 + y * 2 + z / 16 < 256
two_small x y z b c = omega (arith, b, c)

three_small : (x y : ℕ) → y < 32 → x % 16 * 16 + y / 2 < 256
three_small x y b = omega (arith, b)

four_small : (x y z : ℕ) → y < 32 → z < 32 → x % 2 * 128 + y * 4 + z / 8 < 256
four_small x y z b c = omega (arith, b, c)

five_small : (x y : ℕ) → y < 32 → x % 8 * 32 + y < 256
five_small x y b = omega (arith, b)

small : (c : ℕ) → value c < 32
small c = omega arith

one : (a b : ℕ) → value a * 8 + value b / 4 < 256
one a b = one_small (value a) (value b) (small a) (small b)

two : (b c d : ℕ) → value b % 4 * 64 + value c * 2 + value d / 16 < 256
two b c d = two_small (value b) (value c) (value d) (small c) (small d)

three : (d e : ℕ) → value d % 16 * 16 + value e / 2 < 256
three d e = three_small (value d) (value e) (small e)

four : (e f g : ℕ) → value e % 2 * 128 + value f * 4 + value g / 8 < 256
four e f g = four_small (value e) (value f) (value g) (small f) (small g)

five : (g h : ℕ) → value g % 8 * 32 + value h < 256
five g h = five_small (value g) (value h) (small h)

bytes_of : (ds : List ℕ) → AreBytes (decoded ds)
bytes_of [] = tt
bytes_of (a ∷ []) = tt
bytes_of (a ∷ b ∷ []) = (one a b, tt)
bytes_of (a ∷ b ∷ c ∷ []) = (one a b, tt)
bytes_of (a ∷ b ∷ c ∷ d ∷ []) = (one a b, (two b c d, tt))
bytes_of (a ∷ b ∷ c ∷ d ∷ e ∷ []) = (one a b, (two b c d, (three d e, tt)))
bytes_of (a ∷ b ∷ c ∷ d ∷ e ∷ f ∷ []) = (one a b, (two b c d, (three d e, tt)))
bytes_of (a ∷ b ∷ c ∷ d ∷ e ∷ f ∷ g ∷ []) = (one a b, (two b c d, (three d e, (four e f g, tt))))
bytes_of (a ∷ b ∷ c ∷ d ∷ e ∷ f ∷ g ∷ h ∷ rest) = (one a b, (two b c d, (three d e, (four e f g, (five g h, bytes_of rest)))))

-- what spells octets has digits alone
pub digits_alone : (ds : List ℕ) → base32hex (decoded ds) ≡ ds → AreDigits ds
digits_alone ds e = subst AreDigits e (digits_of (decoded ds) (bytes_of ds))

whole_prefix : (ds : List ℕ) → AreDigits ds → prefix_len (λ c. not (not (is_digit c))) ds ≡ length ds
whole_prefix [] h = refl
whole_prefix (d ∷ ds) h =
    let rest = whole_prefix ds h.1 in
    ap (λ b. cond (not (not b)) (1 + prefix_len (λ c. not (not (is_digit c))) ds) 0) h.0 ∙ omega (arith, rest)

not_below : (n : ℕ) → ltb n n ≡ false
not_below n = go (ltb n n) refl
  where
    go : (b : Bool) → ltb n n ≡ b → ltb n n ≡ false
    go true e = absurd (omega (arith, ltb-true n n e))
    go false e = e

no_place : (ds : List ℕ) → AreDigits ds → first_no_digit ds ≡ None
no_place ds h =
    ap (λ n. cond (ltb n (length ds)) (Some n) None) (whole_prefix ds h) ∙ ap (λ b. cond b (Some (length ds)) None) (not_below (length ds))

-- digits that were refused spell no octets
refused_digits : (ds : List ℕ) (e : DecodeError) → RefusedDigits ds e → (e ≡ Memory → ⊥) → base32hex (decoded ds) ≡ ds → ⊥
refused_digits ds (BadChar p) h n eq = let x = sym h ∙ no_place ds (digits_alone ds eq) in cc
refused_digits ds BadLength h n eq = good_length (decoded ds) (subst IsBadLength (ap length (sym eq)) h.1)
refused_digits ds TrailingBits h n eq = h.1.1 (decoded ds) (bytes_of ds) eq
refused_digits ds Memory h n eq = n refl

-- ---- labels

-- a digit in either case is ASCII
pub digit_small : (c : ℕ) → is_digit c ≡ true → c < 128
digit_small c h = go (leb 48 c && leb c 57) refl
  where
    go : (b : Bool) → (leb 48 c && leb c 57) ≡ b → c < 128
    go true e = omega (arith, leb-true c 57 (and_parts (leb 48 c) (leb c 57) e).1)
    go false e =
        let high : (leb 97 c && leb c 118) ≡ true = ap (λ b. b || (leb 97 c && leb c 118)) (sym e) ∙ h in
        omega (arith, leb-true c 118 (and_parts (leb 97 c) (leb c 118) high).1)

letter_small : (c : ℕ) → to_ascii_lowercase c < 128 → c < 128
letter_small c h = first (ltb c 65) refl
  where
    second : ltb c 65 ≡ false → (b : Bool) → ltb c 91 ≡ b → c < 128
    second e true k = omega (arith, ltb-true c 91 k)
    second e false k =
        let same : to_ascii_lowercase c ≡ c = (λ i. cond (e i) c (cond (k i) (c + 32) c)) in
        omega (arith, h, same)

    first : (b : Bool) → ltb c 65 ≡ b → c < 128
    first true e = omega (arith, ltb-true c 65 e)
    first false e = second e (ltb c 91) refl

ascii_of : (l : List ℕ) → AreDigits (str_to_ascii_lowercase l) → IsAscii l
ascii_of [] h i = omega arith
ascii_of (c ∷ l) h zero = letter_small c (digit_small (to_ascii_lowercase c) h.0)
ascii_of (c ∷ l) h (suc i) = ascii_of l h.1 i

pub unspelled : (l : List ℕ) → (base32hex (label_octets l) ≡ str_to_ascii_lowercase l → ⊥) → is_base32hex l ≡ false
unspelled l f = go (is_base32hex l) refl
  where
    go : (b : Bool) → is_base32hex l ≡ b → is_base32hex l ≡ false
    go true e = absurd (f ((bytes_eq-Decides (base32hex (label_octets l)) (str_to_ascii_lowercase l)).0 e))
    go false e = e

-- octets whose digits the label is
pub label_spells : (l octets : List ℕ) → AllByRecursion (λ x. x < 256) octets → base32hex octets ≡ str_to_ascii_lowercase l → (is_base32hex l ≡ true) × (octets ≡ label_octets l)
label_spells l octets bytes e =
    let same : octets ≡ label_octets l = sym (decodes octets bytes) ∙ ap decoded e in
    ((bytes_eq-Decides (base32hex (label_octets l)) (str_to_ascii_lowercase l)).1 (ap base32hex (sym same) ∙ e), same)

-- it is no text, or its text is refused
pub label_no_text : (l : List ℕ) → (IsUtf8 l → ⊥) → is_base32hex l ≡ false
label_no_text l f = unspelled l (λ e. f (IsUtf8-from_ascii l (ascii_of l (digits_alone (str_to_ascii_lowercase l) e))))

pub label_refused : (l : List ℕ) (e : DecodeError) → RefusedText l e → (e ≡ Memory → ⊥) → is_base32hex l ≡ false
label_refused l e h n = unspelled l (refused_digits (str_to_ascii_lowercase l) e h n)

pub text_refused : (t l : List ℕ) (e : DecodeError) → t ≡ l → RefusedText t e → RefusedText l e
text_refused t l e same h = subst (λ x. RefusedText x e) same h
