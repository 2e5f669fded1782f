-- Digits of base32hex that spell octets, by what stands behind whole blocks.
use Rattle.std.proofs.Common.{◌≡◌, ℕ, suc, ◌+◌, ◌*◌, ◌/◌, ◌%◌, ◌<◌, ◌≤◌, ◌==◌, Bool, true, false, not, List, [], ◌∷◌, length, get_or, take, drop, refl, sym, ap, ◌∙◌, arith}
use Rattle.std.specs.Prelude.{◌&&◌, ◌||◌}
use Rattle.std.specs.List.{AllByRecursion, list_all}
use Rattle.std.specs.Char.{to_ascii_lowercase}
use Rattle.std.specs.Str.{bytes_eq, str_to_ascii_lowercase}
use Rattle.std.proofs.lemmas.Bool.{agree_below_at, and_parts, eq-eqb, eqb-true, false≢true}
use Rattle.std.proofs.lemmas.List.{take-append-drop}
use Rattle.std.proofs.lemmas.List.Folds.{list_all-append}
use Rattle.std.proofs.lemmas.Slice.Eq.{bytes_eq-Decides}
use Rattle.definitions.specs.Base32hex.{base32hex, digit}
use Rattle.definitions.proofs.Members.{both_ways}
use Rattle.numbers.specs.Decoding.{decoded, is_digit, octet_one, octet_two, octet_three, octet_four, octet_five, value}
use Rattle.answer_terms.specs.HashOwner.{is_base32hex}
use Rattle.answer_terms.proofs.HashOwners.{AreDigits, digit_small, digits_alone, unspelled}

-- ---- what a digit stands for

abbrev IsDigit : ℕ → Type 0
IsDigit c = is_digit c ≡ true

small : (c : ℕ) → value c < 32
small c = omega arith

value_back : (c : ℕ) → IsDigit c → digit (value c) ≡ c
value_back c h =
    let t : (not (is_digit c) || (digit (value c) == c)) ≡ true = agree_below_at (λ n. not (is_digit n) || (digit (value n) == n)) (λ n. true) 128 c refl (digit_small c h) in
    eqb-true (digit (value c)) c (ap (λ b. not b || (digit (value c) == c)) (sym h) ∙ t)

digit_back : (d : ℕ) → d < 32 → value (digit d) ≡ d
digit_back d h = eqb-true (value (digit d)) d (agree_below_at (λ n. value (digit n) == n) (λ n. true) 32 d refl h)

-- ---- the digits of a block again, by what they stand for

joined_two : (p q b : ℕ) → p % 8 ≡ b / 4 → q / 64 ≡ b % 4 → p % 8 * 4 + q / 64 ≡ b
joined_two p q b e f = omega arith

joined_four : (q r d : ℕ) → q % 2 ≡ d / 16 → r / 16 ≡ d % 16 → q % 2 * 16 + r / 16 ≡ d
joined_four q r d e f = omega arith

joined_five : (r s e : ℕ) → r % 16 ≡ e / 2 → s / 128 ≡ e % 2 → r % 16 * 2 + s / 128 ≡ e
joined_five r s e f g = omega arith

joined_seven : (s t g : ℕ) → s % 4 ≡ g / 8 → t / 32 ≡ g % 8 → s % 4 * 8 + t / 32 ≡ g
joined_seven s t g e f = omega arith

by_one : (a b : ℕ) → b < 32 → (a * 8 + b / 4) / 8 ≡ a
by_one a b x = omega (arith, x)

by_two : (a b c d : ℕ) → b < 32 → c < 32 → d < 32 → (a * 8 + b / 4) % 8 * 4 + (b % 4 * 64 + c * 2 + d / 16) / 64 ≡ b
by_two a b c d x y z = joined_two (a * 8 + b / 4) (b % 4 * 64 + c * 2 + d / 16) b (omega (arith, x)) (omega (arith, y, z))

by_three : (b c d : ℕ) → c < 32 → d < 32 → (b % 4 * 64 + c * 2 + d / 16) / 2 % 32 ≡ c
by_three b c d x y = omega (arith, x, y)

by_four : (b c d e : ℕ) → d < 32 → e < 32 → (b % 4 * 64 + c * 2 + d / 16) % 2 * 16 + (d % 16 * 16 + e / 2) / 16 ≡ d
by_four b c d e x y = joined_four (b % 4 * 64 + c * 2 + d / 16) (d % 16 * 16 + e / 2) d (omega (arith, x)) (omega (arith, y))

by_five : (d e f g : ℕ) → e < 32 → f < 32 → g < 32 → (d % 16 * 16 + e / 2) % 16 * 2 + (e % 2 * 128 + f * 4 + g / 8) / 128 ≡ e
by_five d e f g x y z = joined_five (d % 16 * 16 + e / 2) (e % 2 * 128 + f * 4 + g / 8) e (omega (arith, x)) (omega (arith, y, z))

by_six : (e f g : ℕ) → f < 32 → g < 32 → (e % 2 * 128 + f * 4 + g / 8) / 4 % 32 ≡ f
by_six e f g x y = omega (arith, x, y)

by_seven : (e f g h : ℕ) → g < 32 → h < 32 → (e % 2 * 128 + f * 4 + g / 8) % 4 * 8 + (g % 8 * 32 + h) / 32 ≡ g
by_seven e f g h x y = joined_seven (e % 2 * 128 + f * 4 + g / 8) (g % 8 * 32 + h) g (omega (arith, x)) (omega (arith, y))

by_eight : (g h : ℕ) → h < 32 → (g % 8 * 32 + h) % 32 ≡ h
by_eight g h x = omega (arith, x)

one : (a b : ℕ) → IsDigit a → digit (octet_one a b / 8) ≡ a
one a b x = ap digit (by_one (value a) (value b) (small b)) ∙ value_back a x

two : (a b c d : ℕ) → IsDigit b → digit (octet_one a b % 8 * 4 + octet_two b c d / 64) ≡ b
two a b c d x = ap digit (by_two (value a) (value b) (value c) (value d) (small b) (small c) (small d)) ∙ value_back b x

three : (b c d : ℕ) → IsDigit c → digit (octet_two b c d / 2 % 32) ≡ c
three b c d x = ap digit (by_three (value b) (value c) (value d) (small c) (small d)) ∙ value_back c x

four : (b c d e : ℕ) → IsDigit d → digit (octet_two b c d % 2 * 16 + octet_three d e / 16) ≡ d
four b c d e x = ap digit (by_four (value b) (value c) (value d) (value e) (small d) (small e)) ∙ value_back d x

five : (d e f g : ℕ) → IsDigit e → digit (octet_three d e % 16 * 2 + octet_four e f g / 128) ≡ e
five d e f g x = ap digit (by_five (value d) (value e) (value f) (value g) (small e) (small f) (small g)) ∙ value_back e x

six : (e f g : ℕ) → IsDigit f → digit (octet_four e f g / 4 % 32) ≡ f
six e f g x = ap digit (by_six (value e) (value f) (value g) (small f) (small g)) ∙ value_back f x

seven : (e f g h : ℕ) → IsDigit g → digit (octet_four e f g % 4 * 8 + octet_five g h / 32) ≡ g
seven e f g h x = ap digit (by_seven (value e) (value f) (value g) (value h) (small g) (small h)) ∙ value_back g x

eight : (g h : ℕ) → IsDigit h → digit (octet_five g h % 32) ≡ h
eight g h x = ap digit (by_eight (value g) (value h) (small h)) ∙ value_back h x

-- ---- a last digit whose bits behind the last octet are zeros

abbrev is_spelled : List ℕ → Bool
is_spelled ds = bytes_eq (base32hex (decoded ds)) ds

-- digits end with a last one, x of whose bits are kept
ends : (ds : List ℕ) (x b k : ℕ) → IsDigit b → x < 32 → (digit x ≡ b → base32hex (decoded ds) ≡ ds) → (base32hex (decoded ds) ≡ ds → digit x ≡ b)
    → (value b % k ≡ 0 → x ≡ value b) → (x ≡ value b → value b % k ≡ 0) → (value b % k == 0) ≡ is_spelled ds
ends ds x b k is within whole last up down =
    both_ways (value b % k == 0) (is_spelled ds)
    (λ t. (bytes_eq-Decides (base32hex (decoded ds)) ds).1 (whole (ap digit (up (eqb-true (value b % k) 0 t)) ∙ value_back b is)))
    (λ t. eq-eqb (value b % k) 0 (down (sym (digit_back x within) ∙ ap value (last ((bytes_eq-Decides (base32hex (decoded ds)) ds).0 t)))))

kept_four : (b c d : ℕ) → d < 32 → (b % 4 * 64 + c * 2 + d / 16) % 2 * 16 ≡ d / 16 * 16
kept_four b c d h = omega (arith, h)

kept_five : (d e : ℕ) → e < 32 → (d % 16 * 16 + e / 2) % 16 * 2 ≡ e / 2 * 2
kept_five d e h = omega (arith, h)

kept_seven : (e f g : ℕ) → g < 32 → (e % 2 * 128 + f * 4 + g / 8) % 4 * 8 ≡ g / 8 * 8
kept_seven e f g h = omega (arith, h)

four_digits : (a b c d : ℕ) → IsDigit a → IsDigit b → IsDigit c → IsDigit d → (value d % 16 == 0) ≡ is_spelled (a ∷ b ∷ c ∷ d ∷ [])
four_digits a b c d x y z w =
    let k : octet_two b c d % 2 * 16 ≡ value d / 16 * 16 = kept_four (value b) (value c) (value d) (small d) in
    ends (a ∷ b ∷ c ∷ d ∷ []) (octet_two b c d % 2 * 16) d 16 w (omega (arith, k, small d)) (λ e. λ i. one a b x i ∷ two a b c d y i ∷ three b c d z i ∷ e i ∷ []) (λ e. cc) (λ v. omega (arith, k, v)) (λ v. omega (arith, k, v))

five_digits : (a b c d e : ℕ) → IsDigit a → IsDigit b → IsDigit c → IsDigit d → IsDigit e → (value e % 2 == 0) ≡ is_spelled (a ∷ b ∷ c ∷ d ∷ e ∷ [])
five_digits a b c d e x y z w v =
    let k : octet_three d e % 16 * 2 ≡ value e / 2 * 2 = kept_five (value d) (value e) (small e) in
    ends (a ∷ b ∷ c ∷ d ∷ e ∷ []) (octet_three d e % 16 * 2) e 2 v (omega (arith, k, small e)) (λ l. λ i. one a b x i ∷ two a b c d y i ∷ three b c d z i ∷ four b c d e w i ∷ l i ∷ []) (λ l. cc)
    (λ u. omega (arith, k, u)) (λ u. omega (arith, k, u))

seven_digits : (a b c d e f g : ℕ) → IsDigit a → IsDigit b → IsDigit c → IsDigit d → IsDigit e → IsDigit f → IsDigit g → (value g % 8 == 0) ≡ is_spelled (a ∷ b ∷ c ∷ d ∷ e ∷ f ∷ g ∷ [])
seven_digits a b c d e f g x y z w v u t =
    let k : octet_four e f g % 4 * 8 ≡ value g / 8 * 8 = kept_seven (value e) (value f) (value g) (small g) in
    ends (a ∷ b ∷ c ∷ d ∷ e ∷ f ∷ g ∷ []) (octet_four e f g % 4 * 8) g 8 t (omega (arith, k, small g))
    (λ l. λ i. one a b x i ∷ two a b c d y i ∷ three b c d z i ∷ four b c d e w i ∷ five d e f g v i ∷ six e f g u i ∷ l i ∷ []) (λ l. cc)
    (λ s. omega (arith, k, s)) (λ s. omega (arith, k, s))

-- ---- a block in front

block : (a b c d e f g h : ℕ) (rest : List ℕ) → IsDigit a → IsDigit b → IsDigit c → IsDigit d → IsDigit e → IsDigit f → IsDigit g → IsDigit h
    → is_spelled (a ∷ b ∷ c ∷ d ∷ e ∷ f ∷ g ∷ h ∷ rest) ≡ is_spelled rest
block a b c d e f g h rest xa xb xc xd xe xf xg xh =
    let ds = a ∷ b ∷ c ∷ d ∷ e ∷ f ∷ g ∷ h ∷ rest in
    both_ways (is_spelled ds) (is_spelled rest)
    (λ t. (bytes_eq-Decides (base32hex (decoded rest)) rest).1 (ap (drop 8) ((bytes_eq-Decides (base32hex (decoded ds)) ds).0 t)))
    (λ t.
    let behind = (bytes_eq-Decides (base32hex (decoded rest)) rest).0 t in
    (bytes_eq-Decides (base32hex (decoded ds)) ds).1 (λ i.
    one a b xa i ∷ two a b c d xb i ∷ three b c d xc i ∷ four b c d e xd i ∷ five d e f g xe i ∷ six e f g xf i ∷ seven e f g h xg i ∷ eight g h xh i ∷ behind i))

eight_more : (n : ℕ) → suc (suc (suc (suc (suc (suc (suc (suc n))))))) / 8 * 8 ≡ suc (suc (suc (suc (suc (suc (suc (suc (n / 8 * 8))))))))
eight_more n = omega arith

behind_blocks : (l : List ℕ) → AllByRecursion (λ c. IsDigit (to_ascii_lowercase c)) l → is_base32hex (drop (length l / 8 * 8) l) ≡ is_base32hex l
behind_blocks [] s = refl
behind_blocks (a ∷ []) s = refl
behind_blocks (a ∷ b ∷ []) s = refl
behind_blocks (a ∷ b ∷ c ∷ []) s = refl
behind_blocks (a ∷ b ∷ c ∷ d ∷ []) s = refl
behind_blocks (a ∷ b ∷ c ∷ d ∷ e ∷ []) s = refl
behind_blocks (a ∷ b ∷ c ∷ d ∷ e ∷ f ∷ []) s = refl
behind_blocks (a ∷ b ∷ c ∷ d ∷ e ∷ f ∷ g ∷ []) s = refl
behind_blocks (a ∷ b ∷ c ∷ d ∷ e ∷ f ∷ g ∷ h ∷ rest) s =
    let low = to_ascii_lowercase in
    ap (λ k. is_base32hex (drop k (a ∷ b ∷ c ∷ d ∷ e ∷ f ∷ g ∷ h ∷ rest))) (eight_more (length rest))
    ∙ behind_blocks rest s.1.1.1.1.1.1.1.1
    ∙ sym (block (low a) (low b) (low c) (low d) (low e) (low f) (low g) (low h) (str_to_ascii_lowercase rest) s.0 s.1.0 s.1.1.0 s.1.1.1.0 s.1.1.1.1.0 s.1.1.1.1.1.0 s.1.1.1.1.1.1.0 s.1.1.1.1.1.1.1.0)

-- ---- labels

abbrev pub AreEither : List ℕ → Type 0
AreEither l = list_all (λ c. is_digit (to_ascii_lowercase c)) l ≡ true

each : (l : List ℕ) → AreEither l → AllByRecursion (λ c. IsDigit (to_ascii_lowercase c)) l
each [] h = tt
each (c ∷ l) h = let p = and_parts (is_digit (to_ascii_lowercase c)) (list_all (λ c. is_digit (to_ascii_lowercase c)) l) h in (p.0, each l p.1)

all_of : (l : List ℕ) → AreDigits (str_to_ascii_lowercase l) → AreEither l
all_of [] h = refl
all_of (c ∷ l) h = λ i. h.0 i && all_of l h.1 i

-- what is behind whole blocks decides
pub rest_decides : (l : List ℕ) → AreEither l → is_base32hex (drop (length l / 8 * 8) l) ≡ is_base32hex l
rest_decides l h = behind_blocks l (each l h)

pub rest_digits : (l : List ℕ) (k : ℕ) → AreEither l → AreEither (drop k l)
rest_digits l k h =
    let p = λ (c : ℕ). is_digit (to_ascii_lowercase c) in
    (and_parts (list_all p (take k l)) (list_all p (drop k l)) (sym (list_all-append p (take k l) (drop k l)) ∙ ap (list_all p) (take-append-drop k l) ∙ h)).1

-- a label with what is no digit spells nothing
pub no_digits : (l : List ℕ) → list_all (λ c. is_digit (to_ascii_lowercase c)) l ≡ false → is_base32hex l ≡ false
no_digits l h = unspelled l (λ e. false≢true (sym h ∙ all_of l (digits_alone (str_to_ascii_lowercase l) e)))

-- fewer than eight
pub spells_four : (l : List ℕ) → 4 ≤ length l → length l < 5 → AreEither l → (value (to_ascii_lowercase (get_or l 3 0)) % 16 == 0) ≡ is_base32hex l
spells_four [] m n h = absurd (omega (arith, m))
spells_four (a ∷ []) m n h = absurd (omega (arith, m))
spells_four (a ∷ b ∷ []) m n h = absurd (omega (arith, m))
spells_four (a ∷ b ∷ c ∷ []) m n h = absurd (omega (arith, m))
spells_four (a ∷ b ∷ c ∷ d ∷ []) m n h =
    let s = each (a ∷ b ∷ c ∷ d ∷ []) h in
    four_digits (to_ascii_lowercase a) (to_ascii_lowercase b) (to_ascii_lowercase c) (to_ascii_lowercase d) s.0 s.1.0 s.1.1.0 s.1.1.1.0
spells_four (a ∷ b ∷ c ∷ d ∷ e ∷ l) m n h = absurd (omega (arith, n))

pub spells_five : (l : List ℕ) → 5 ≤ length l → length l < 6 → AreEither l → (value (to_ascii_lowercase (get_or l 4 0)) % 2 == 0) ≡ is_base32hex l
spells_five [] m n h = absurd (omega (arith, m))
spells_five (a ∷ []) m n h = absurd (omega (arith, m))
spells_five (a ∷ b ∷ []) m n h = absurd (omega (arith, m))
spells_five (a ∷ b ∷ c ∷ []) m n h = absurd (omega (arith, m))
spells_five (a ∷ b ∷ c ∷ d ∷ []) m n h = absurd (omega (arith, m))
spells_five (a ∷ b ∷ c ∷ d ∷ e ∷ []) m n h =
    let s = each (a ∷ b ∷ c ∷ d ∷ e ∷ []) h in
    five_digits (to_ascii_lowercase a) (to_ascii_lowercase b) (to_ascii_lowercase c) (to_ascii_lowercase d) (to_ascii_lowercase e) s.0 s.1.0 s.1.1.0 s.1.1.1.0 s.1.1.1.1.0
spells_five (a ∷ b ∷ c ∷ d ∷ e ∷ f ∷ l) m n h = absurd (omega (arith, n))

pub spells_seven : (l : List ℕ) → 7 ≤ length l → length l < 8 → AreEither l → (value (to_ascii_lowercase (get_or l 6 0)) % 8 == 0) ≡ is_base32hex l
spells_seven [] m n h = absurd (omega (arith, m))
spells_seven (a ∷ []) m n h = absurd (omega (arith, m))
spells_seven (a ∷ b ∷ []) m n h = absurd (omega (arith, m))
spells_seven (a ∷ b ∷ c ∷ []) m n h = absurd (omega (arith, m))
spells_seven (a ∷ b ∷ c ∷ d ∷ []) m n h = absurd (omega (arith, m))
spells_seven (a ∷ b ∷ c ∷ d ∷ e ∷ []) m n h = absurd (omega (arith, m))
spells_seven (a ∷ b ∷ c ∷ d ∷ e ∷ f ∷ []) m n h = absurd (omega (arith, m))
spells_seven (a ∷ b ∷ c ∷ d ∷ e ∷ f ∷ g ∷ []) m n h =
    let s = each (a ∷ b ∷ c ∷ d ∷ e ∷ f ∷ g ∷ []) h in
    seven_digits (to_ascii_lowercase a) (to_ascii_lowercase b) (to_ascii_lowercase c) (to_ascii_lowercase d) (to_ascii_lowercase e) (to_ascii_lowercase f) (to_ascii_lowercase g)
    s.0 s.1.0 s.1.1.0 s.1.1.1.0 s.1.1.1.1.0 s.1.1.1.1.1.0 s.1.1.1.1.1.1.0
spells_seven (a ∷ b ∷ c ∷ d ∷ e ∷ f ∷ g ∷ x ∷ l) m n h = absurd (omega (arith, n))
