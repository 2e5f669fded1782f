-- Digits in either case, and the octets that they spell.
use Rattle.std.proofs.Common.{◌≡◌, ℕ, ◌+◌, ◌*◌, ◌/◌, ◌%◌, ◌<◌, ◌≤◌, ◌==◌, Bool, true, false, not, cond, inl, inr, Some, None, List, [], ◌∷◌, ◌++◌, length, map, take, drop, refl, sym, ap, ◌∙◌, arith, get_or, ltb, IsAscii, All, zero, suc}
use Rattle.std.specs.Char.{to_ascii_lowercase}
use Rattle.std.specs.List.{AllByRecursion, list_all, position, prefix_len}
use Rattle.std.proofs.lemmas.Bool.{agree_below_at, and_parts, both_ways, eqb-true, ltb-true}
use Rattle.std.proofs.lemmas.List.{length-map, map-append, take-map, drop-map}
use Rattle.std.proofs.lemmas.List.Elements.{All-from_recursion}
use Rattle.std.proofs.lemmas.Str.Ascii.{IsAscii-from_all}
use Rattle.definitions.specs.Base32hex.{base32hex, digit}
use Rattle.numbers.specs.Decoding.{is_digit, decoded, filled, Spells, SpellsNothing}
use Rattle.numbers.specs.Refusing.{IsBadLength}
use Rattle.numbers.proofs.Decodes.{decodes}
use Rattle.numbers.proofs.Digits.{block_first}

-- ---- digits of octets

-- what holds of each digit holds of the digits of octets
digits_all : (P : ℕ → Type 0) → ((d : ℕ) → d < 32 → P (digit d)) → (o : List ℕ) → AllByRecursion (λ x. x < 256) o → AllByRecursion P (base32hex o)
digits_all P at [] h = tt
digits_all P at (a ∷ []) h = (at (a / 8) (omega (arith, h.0)), (at (a % 8 * 4) (omega arith), tt))
digits_all P at (a ∷ b ∷ []) h =
    (at (a / 8) (omega (arith, h.0)), (at (a % 8 * 4 + b / 64) (omega (arith, h.1.0)), (at (b / 2 % 32) (omega arith), (at (b % 2 * 16) (omega arith), tt))))
digits_all P at (a ∷ b ∷ c ∷ []) h = (
  at (a / 8) (omega (arith, h.0)),
  (
    at (a % 8 * 4 + b / 64) (omega (arith, h.1.0)),
    (
      at (b / 2 % 32) (omega arith),
      (at (b % 2 * 16 + c / 16) (omega (arith, h.1.1.0)), (at (c % 16 * 2) (omega arith), tt)),
    ),
  ),
)
digits_all P at (a ∷ b ∷ c ∷ d ∷ []) h = (
  at (a / 8) (omega (arith, h.0)),
  (
    at (a % 8 * 4 + b / 64) (omega (arith, h.1.0)),
    (
      at (b / 2 % 32) (omega arith),
      (at (b % 2 * 16 + c / 16) (omega (arith, h.1.1.0)), (at (c % 16 * 2 + d / 128) (omega (arith, h.1.1.1.0)), (at (d / 4 % 32) (omega arith), (at (d % 4 * 8) (omega arith), tt)))),
    ),
  ),
)
digits_all P at (a ∷ b ∷ c ∷ d ∷ e ∷ rest) h = (
  at (a / 8) (omega (arith, h.0)),
  (
    at (a % 8 * 4 + b / 64) (omega (arith, h.1.0)),
    (
      at (b / 2 % 32) (omega arith),
      (
        at (b % 2 * 16 + c / 16) (omega (arith, h.1.1.0)),
        (
          at (c % 16 * 2 + d / 128) (omega (arith, h.1.1.1.0)),
          (
            at (d / 4 % 32) (omega arith),
            (at (d % 4 * 8 + e / 32) (omega (arith, h.1.1.1.1.0)), (at (e % 32) (omega arith), digits_all P at rest h.1.1.1.1.1)),
          ),
        ),
      ),
    ),
  ),
)

digit_is : (d : ℕ) → d < 32 → is_digit (digit d) ≡ true
digit_is d h = agree_below_at (λ n. is_digit (digit n)) (λ n. true) 32 d refl h

digit_ascii : (d : ℕ) → d < 32 → digit d < 128
digit_ascii d h = ltb-true (digit d) 128 (agree_below_at (λ n. ltb (digit n) 128) (λ n. true) 32 d refl h)

-- octets of a slice
small_octets : (xs : List ℕ) → ((i : ℕ) → get_or xs i 0 < 256) → AllByRecursion (λ x. x < 256) xs
small_octets [] h = tt
small_octets (x ∷ xs) h = (h 0, small_octets xs (λ i. h (suc i)))

pub digits_ascii : (xs : List ℕ) → ((i : ℕ) → get_or xs i 0 < 256) → IsAscii (base32hex xs)
digits_ascii xs h =
    IsAscii-from_all (base32hex xs) (All-from_recursion (λ c. c < 128) (base32hex xs) (digits_all (λ c. c < 128) digit_ascii xs (small_octets xs h)))

-- ---- digits that spell nothing

lower_at : (xs : List ℕ) (k : ℕ) → get_or (map to_ascii_lowercase xs) k 0 ≡ to_ascii_lowercase (get_or xs k 0)
lower_at [] k = refl
lower_at (x ∷ xs) zero = refl
lower_at (x ∷ xs) (suc k) = lower_at xs k

-- where one is no digit
pub no_digit : (xs : List ℕ) (k : ℕ) → k < length xs → is_digit (to_ascii_lowercase (get_or xs k 0)) ≡ false → SpellsNothing xs
no_digit xs k within bad o small spelled =
    let same : length (base32hex o) ≡ length xs = ap length spelled ∙ length-map xs to_ascii_lowercase in
    let at : get_or (base32hex o) k 0 ≡ to_ascii_lowercase (get_or xs k 0) = ap (λ t. get_or t k 0) spelled ∙ lower_at xs k in
    let each : All (λ c. is_digit c ≡ true) (base32hex o) = All-from_recursion (λ c. is_digit c ≡ true) (base32hex o) (digits_all (λ c. is_digit c ≡ true) digit_is o small) in
    both_ways (is_digit (get_or (base32hex o) k 0)) (ap is_digit at ∙ bad) (each k 0 (omega (arith, same, within)))

-- of a length that no octets have
pub bad_length : (xs : List ℕ) → length xs < 8 → IsBadLength (length xs) → SpellsNothing xs
bad_length xs short bad o small spelled = go o (ap length spelled ∙ length-map xs to_ascii_lowercase)
  where
    go : (o : List ℕ) → length (base32hex o) ≡ length xs → ⊥
    go [] e = omega (arith, e, short, bad)
    go (a ∷ []) e = omega (arith, e, short, bad)
    go (a ∷ b ∷ []) e = omega (arith, e, short, bad)
    go (a ∷ b ∷ c ∷ []) e = omega (arith, e, short, bad)
    go (a ∷ b ∷ c ∷ d ∷ []) e = omega (arith, e, short, bad)
    go (a ∷ b ∷ c ∷ d ∷ f ∷ rest) e = omega (arith, e, short)

-- ---- eight digits

second : (p q a b : ℕ) → p % 8 ≡ b / 4 → q / 64 ≡ b % 4 → p % 8 * 4 + q / 64 ≡ b
second p q a b e f = omega arith

fourth : (q r d : ℕ) → q % 2 ≡ d / 16 → r / 16 ≡ d % 16 → q % 2 * 16 + r / 16 ≡ d
fourth q r d e f = omega arith

fifth : (r s e : ℕ) → r % 16 ≡ e / 2 → s / 128 ≡ e % 2 → r % 16 * 2 + s / 128 ≡ e
fifth r s e f g = omega arith

seventh : (s t g : ℕ) → s % 4 ≡ g / 8 → t / 32 ≡ g % 8 → s % 4 * 8 + t / 32 ≡ g
seventh s t g e f = omega arith

-- the digits of the octets that eight digits give are these
eight : (a b c d e f g h : ℕ) → b < 32 → c < 32 → d < 32 → e < 32 → f < 32 → g < 32 → h < 32
    → base32hex ((a * 8 + b / 4) ∷ (b % 4 * 64 + c * 2 + d / 16) ∷ (d % 16 * 16 + e / 2) ∷ (e % 2 * 128 + f * 4 + g / 8) ∷ (g % 8 * 32 + h) ∷ [])
    ≡ digit a ∷ digit b ∷ digit c ∷ digit d ∷ digit e ∷ digit f ∷ digit g ∷ digit h ∷ []
eight a b c d e f g h sb sc sd se sf sg sh =
    let p = a * 8 + b / 4 in
    let q = b % 4 * 64 + c * 2 + d / 16 in
    let r = d % 16 * 16 + e / 2 in
    let s = e % 2 * 128 + f * 4 + g / 8 in
    let t = g % 8 * 32 + h in
    let one : p / 8 ≡ a = omega (arith, sb) in
    let two : p % 8 * 4 + q / 64 ≡ b = second p q a b (omega (arith, sb)) (omega (arith, sc, sd)) in
    let three : q / 2 % 32 ≡ c = omega (arith, sc, sd) in
    let four : q % 2 * 16 + r / 16 ≡ d = fourth q r d (omega (arith, sd)) (omega (arith, se)) in
    let five : r % 16 * 2 + s / 128 ≡ e = fifth r s e (omega (arith, se)) (omega (arith, sf, sg)) in
    let six : s / 4 % 32 ≡ f = omega (arith, sf, sg) in
    let seven : s % 4 * 8 + t / 32 ≡ g = seventh s t g (omega (arith, sg)) (omega (arith, sh)) in
    let last : t % 32 ≡ h = omega (arith, sh) in
    λ i. digit (one i) ∷ digit (two i) ∷ digit (three i) ∷ digit (four i) ∷ digit (five i) ∷ digit (six i) ∷ digit (seven i) ∷ digit (last i) ∷ []

-- eight digits as a list
eight_of : (xs : List ℕ) → length xs ≡ 8
    → map to_ascii_lowercase xs
    ≡ to_ascii_lowercase (get_or xs 0 0) ∷ to_ascii_lowercase (get_or xs 1 0) ∷ to_ascii_lowercase (get_or xs 2 0) ∷ to_ascii_lowercase (get_or xs 3 0)
    ∷ to_ascii_lowercase (get_or xs 4 0) ∷ to_ascii_lowercase (get_or xs 5 0) ∷ to_ascii_lowercase (get_or xs 6 0) ∷ to_ascii_lowercase (get_or xs 7 0) ∷ []
eight_of [] h = absurd (omega (arith, h))
eight_of (a ∷ []) h = absurd (omega (arith, h))
eight_of (a ∷ b ∷ []) h = absurd (omega (arith, h))
eight_of (a ∷ b ∷ c ∷ []) h = absurd (omega (arith, h))
eight_of (a ∷ b ∷ c ∷ d ∷ []) h = absurd (omega (arith, h))
eight_of (a ∷ b ∷ c ∷ d ∷ e ∷ []) h = absurd (omega (arith, h))
eight_of (a ∷ b ∷ c ∷ d ∷ e ∷ f ∷ []) h = absurd (omega (arith, h))
eight_of (a ∷ b ∷ c ∷ d ∷ e ∷ f ∷ g ∷ []) h = absurd (omega (arith, h))
eight_of (a ∷ b ∷ c ∷ d ∷ e ∷ f ∷ g ∷ k ∷ []) h = refl
eight_of (a ∷ b ∷ c ∷ d ∷ e ∷ f ∷ g ∷ k ∷ x ∷ xs) h = absurd (omega (arith, h))

pub block_spells : (xs : List ℕ) → length xs ≡ 8 → (a b c d e f g h : ℕ)
    → (a < 32) × (digit a ≡ to_ascii_lowercase (get_or xs 0 0)) → (b < 32) × (digit b ≡ to_ascii_lowercase (get_or xs 1 0))
    → (c < 32) × (digit c ≡ to_ascii_lowercase (get_or xs 2 0)) → (d < 32) × (digit d ≡ to_ascii_lowercase (get_or xs 3 0))
    → (e < 32) × (digit e ≡ to_ascii_lowercase (get_or xs 4 0)) → (f < 32) × (digit f ≡ to_ascii_lowercase (get_or xs 5 0))
    → (g < 32) × (digit g ≡ to_ascii_lowercase (get_or xs 6 0)) → (h < 32) × (digit h ≡ to_ascii_lowercase (get_or xs 7 0))
    → Spells ((a * 8 + b / 4) ∷ (b % 4 * 64 + c * 2 + d / 16) ∷ (d % 16 * 16 + e / 2) ∷ (e % 2 * 128 + f * 4 + g / 8) ∷ (g % 8 * 32 + h) ∷ []) xs
block_spells xs len a b c d e f g h ha hb hc hd he hf hg hh =
    let read : digit a ∷ digit b ∷ digit c ∷ digit d ∷ digit e ∷ digit f ∷ digit g ∷ digit h ∷ [] ≡ map to_ascii_lowercase xs =
    (λ i. ha.1 i ∷ hb.1 i ∷ hc.1 i ∷ hd.1 i ∷ he.1 i ∷ hf.1 i ∷ hg.1 i ∷ hh.1 i ∷ []) ∙ sym (eight_of xs len) in
    eight a b c d e f g h hb.0 hc.0 hd.0 he.0 hf.0 hg.0 hh.0 ∙ read

pub block_small : (a b c d e f g h : ℕ) → a < 32 → b < 32 → c < 32 → d < 32 → e < 32 → f < 32 → g < 32 → h < 32
    → AllByRecursion (λ x. x < 256) ((a * 8 + b / 4) ∷ (b % 4 * 64 + c * 2 + d / 16) ∷ (d % 16 * 16 + e / 2) ∷ (e % 2 * 128 + f * 4 + g / 8) ∷ (g % 8 * 32 + h) ∷ [])
block_small a b c d e f g h sa sb sc sd se sf sg sh =
    (omega (arith, sa, sb), (omega (arith, sc, sd), (omega (arith, se), (omega (arith, sf, sg), (omega (arith, sh), tt)))))

-- ---- block by block

-- a block in front of others
pub spells_more : (block behind five o : List ℕ) → length five ≡ 5 → Spells five block → Spells o behind → Spells (five ++ o) (block ++ behind)
spells_more block behind five o len s t = block_first five o len ∙ (λ i. s i ++ t i) ∙ sym (map-append to_ascii_lowercase block behind)

-- what spells nothing at the front, or behind it
pub nothing_front : (rest block : List ℕ) → 8 ≤ length rest → block ≡ take 8 rest → SpellsNothing block → SpellsNothing rest
nothing_front rest block some e none o small spelled = go o small spelled
  where
    go : (o : List ℕ) → AllByRecursion (λ x. x < 256) o → Spells o rest → ⊥
    go [] h t = let n = ap length t ∙ length-map rest to_ascii_lowercase in omega (arith, n, some)
    go (a ∷ []) h t = let n = ap length t ∙ length-map rest to_ascii_lowercase in omega (arith, n, some)
    go (a ∷ b ∷ []) h t = let n = ap length t ∙ length-map rest to_ascii_lowercase in omega (arith, n, some)
    go (a ∷ b ∷ c ∷ []) h t = let n = ap length t ∙ length-map rest to_ascii_lowercase in omega (arith, n, some)
    go (a ∷ b ∷ c ∷ d ∷ []) h t = let n = ap length t ∙ length-map rest to_ascii_lowercase in omega (arith, n, some)
    go (a ∷ b ∷ c ∷ d ∷ f ∷ more) h t =
        none (a ∷ b ∷ c ∷ d ∷ f ∷ []) (h.0, (h.1.0, (h.1.1.0, (h.1.1.1.0, (h.1.1.1.1.0, tt)))))
        (ap (take 8) t ∙ take-map to_ascii_lowercase 8 rest ∙ ap (map to_ascii_lowercase) (sym e))

pub nothing_behind : (rest behind : List ℕ) → 8 ≤ length rest → behind ≡ drop 8 rest → SpellsNothing behind → SpellsNothing rest
nothing_behind rest behind some e none o small spelled = go o small spelled
  where
    go : (o : List ℕ) → AllByRecursion (λ x. x < 256) o → Spells o rest → ⊥
    go [] h t = let n = ap length t ∙ length-map rest to_ascii_lowercase in omega (arith, n, some)
    go (a ∷ []) h t = let n = ap length t ∙ length-map rest to_ascii_lowercase in omega (arith, n, some)
    go (a ∷ b ∷ []) h t = let n = ap length t ∙ length-map rest to_ascii_lowercase in omega (arith, n, some)
    go (a ∷ b ∷ c ∷ []) h t = let n = ap length t ∙ length-map rest to_ascii_lowercase in omega (arith, n, some)
    go (a ∷ b ∷ c ∷ d ∷ []) h t = let n = ap length t ∙ length-map rest to_ascii_lowercase in omega (arith, n, some)
    go (a ∷ b ∷ c ∷ d ∷ f ∷ more) h t =
        none more h.1.1.1.1.1 (ap (drop 8) t ∙ drop-map to_ascii_lowercase 8 rest ∙ ap (map to_ascii_lowercase) (sym e))

-- ---- fewer than eight digits

-- fewer than five octets, and zeros behind them
padded : List ℕ → List ℕ
padded [] = 0 ∷ 0 ∷ 0 ∷ 0 ∷ 0 ∷ []
padded (a ∷ []) = a ∷ 0 ∷ 0 ∷ 0 ∷ 0 ∷ []
padded (a ∷ b ∷ []) = a ∷ b ∷ 0 ∷ 0 ∷ 0 ∷ []
padded (a ∷ b ∷ c ∷ []) = a ∷ b ∷ c ∷ 0 ∷ 0 ∷ []
padded (a ∷ b ∷ c ∷ d ∷ []) = a ∷ b ∷ c ∷ d ∷ 0 ∷ []
padded (a ∷ b ∷ c ∷ d ∷ e ∷ more) = a ∷ b ∷ c ∷ d ∷ e ∷ more

padded_small : (o : List ℕ) → AllByRecursion (λ x. x < 256) o → AllByRecursion (λ x. x < 256) (padded o)
unfolding padded
padded_small [] h = (omega arith, (omega arith, (omega arith, (omega arith, (omega arith, tt)))))
padded_small (a ∷ []) h = (h.0, (omega arith, (omega arith, (omega arith, (omega arith, tt)))))
padded_small (a ∷ b ∷ []) h = (h.0, (h.1.0, (omega arith, (omega arith, (omega arith, tt)))))
padded_small (a ∷ b ∷ c ∷ []) h = (h.0, (h.1.0, (h.1.1.0, (omega arith, (omega arith, tt)))))
padded_small (a ∷ b ∷ c ∷ d ∷ []) h = (h.0, (h.1.0, (h.1.1.0, (h.1.1.1.0, (omega arith, tt)))))
padded_small (a ∷ b ∷ c ∷ d ∷ e ∷ more) h = h

padded_digits : (o : List ℕ) → length (base32hex o) < 8 → base32hex (padded o) ≡ filled (base32hex o)
unfolding padded
padded_digits [] h = refl
padded_digits (a ∷ []) h = let e : a % 8 * 4 + 0 ≡ a % 8 * 4 = omega arith in ap (λ z. digit (a / 8) ∷ digit z ∷ 48 ∷ 48 ∷ 48 ∷ 48 ∷ 48 ∷ 48 ∷ []) e
padded_digits (a ∷ b ∷ []) h =
    let e : b % 2 * 16 + 0 ≡ b % 2 * 16 = omega arith in
    ap (λ z. digit (a / 8) ∷ digit (a % 8 * 4 + b / 64) ∷ digit (b / 2 % 32) ∷ digit z ∷ 48 ∷ 48 ∷ 48 ∷ 48 ∷ []) e
padded_digits (a ∷ b ∷ c ∷ []) h =
    let e : c % 16 * 2 + 0 ≡ c % 16 * 2 = omega arith in
    ap (λ z. digit (a / 8) ∷ digit (a % 8 * 4 + b / 64) ∷ digit (b / 2 % 32) ∷ digit (b % 2 * 16 + c / 16) ∷ digit z ∷ 48 ∷ 48 ∷ 48 ∷ []) e
padded_digits (a ∷ b ∷ c ∷ d ∷ []) h =
    let e : d % 4 * 8 + 0 ≡ d % 4 * 8 = omega arith in
    ap (λ z. digit (a / 8) ∷ digit (a % 8 * 4 + b / 64) ∷ digit (b / 2 % 32) ∷ digit (b % 2 * 16 + c / 16) ∷ digit (c % 16 * 2 + d / 128) ∷ digit (d / 4 % 32) ∷ digit z ∷ 48 ∷ []) e
padded_digits (a ∷ b ∷ c ∷ d ∷ e ∷ more) h = absurd (omega (arith, h))

filled_lower : (xs : List ℕ) → length xs < 8 → filled (map to_ascii_lowercase xs) ≡ map to_ascii_lowercase (filled xs)
filled_lower [] h = refl
filled_lower (a ∷ []) h = refl
filled_lower (a ∷ b ∷ []) h = refl
filled_lower (a ∷ b ∷ c ∷ []) h = refl
filled_lower (a ∷ b ∷ c ∷ d ∷ []) h = refl
filled_lower (a ∷ b ∷ c ∷ d ∷ e ∷ []) h = refl
filled_lower (a ∷ b ∷ c ∷ d ∷ e ∷ f ∷ []) h = refl
filled_lower (a ∷ b ∷ c ∷ d ∷ e ∷ f ∷ g ∷ []) h = refl
filled_lower (a ∷ b ∷ c ∷ d ∷ e ∷ f ∷ g ∷ k ∷ xs) h = absurd (omega (arith, h))

-- octets of fewer than eight digits, filled up
spelled_filled : (xs o : List ℕ) → length xs < 8 → Spells o xs → Spells (padded o) (filled xs)
spelled_filled xs o short spelled =
    let n : length (base32hex o) ≡ length xs = ap length spelled ∙ length-map xs to_ascii_lowercase in
    padded_digits o (omega (arith, n, short)) ∙ ap filled spelled ∙ filled_lower xs short

pub nothing_filled : (xs : List ℕ) → length xs < 8 → SpellsNothing (filled xs) → SpellsNothing xs
nothing_filled xs short none o small spelled = none (padded o) (padded_small o small) (spelled_filled xs o short spelled)

-- the octets behind are zeros
padded_zeros : (o : List ℕ) (n : ℕ) → length (base32hex o) ≡ n → n < 8 → list_all (λ x. x == 0) (drop (n * 5 / 8) (padded o)) ≡ true
unfolding padded
padded_zeros [] n e h = ap (λ (k : ℕ). list_all (λ x. x == 0) (drop (k * 5 / 8) (0 ∷ 0 ∷ 0 ∷ 0 ∷ 0 ∷ []))) (sym e)
padded_zeros (a ∷ []) n e h = ap (λ (k : ℕ). list_all (λ x. x == 0) (drop (k * 5 / 8) (a ∷ 0 ∷ 0 ∷ 0 ∷ 0 ∷ []))) (sym e)
padded_zeros (a ∷ b ∷ []) n e h = ap (λ (k : ℕ). list_all (λ x. x == 0) (drop (k * 5 / 8) (a ∷ b ∷ 0 ∷ 0 ∷ 0 ∷ []))) (sym e)
padded_zeros (a ∷ b ∷ c ∷ []) n e h = ap (λ (k : ℕ). list_all (λ x. x == 0) (drop (k * 5 / 8) (a ∷ b ∷ c ∷ 0 ∷ 0 ∷ []))) (sym e)
padded_zeros (a ∷ b ∷ c ∷ d ∷ []) n e h = ap (λ (k : ℕ). list_all (λ x. x == 0) (drop (k * 5 / 8) (a ∷ b ∷ c ∷ d ∷ 0 ∷ []))) (sym e)
padded_zeros (a ∷ b ∷ c ∷ d ∷ f ∷ more) n e h = absurd (omega (arith, e, h))

pub nothing_cut : (xs five : List ℕ) → length xs < 8 → AllByRecursion (λ x. x < 256) five → Spells five (filled xs)
    → list_all (λ x. x == 0) (drop (length xs * 5 / 8) five) ≡ false → SpellsNothing xs
nothing_cut xs five short fits whole bad o small spelled =
    let n : length (base32hex o) ≡ length xs = ap length spelled ∙ length-map xs to_ascii_lowercase in
    let same : padded o ≡ five =
    sym (decodes (padded o) (padded_small o small)) ∙ ap decoded (spelled_filled xs o short spelled ∙ sym whole) ∙ decodes five fits in
    let zeros = padded_zeros o (length xs) n short in
    both_ways (list_all (λ x. x == 0) (drop (length xs * 5 / 8) five)) bad (ap (λ (t : List ℕ). list_all (λ x. x == 0) (drop (length xs * 5 / 8) t)) (sym same) ∙ zeros)

first_zero : (x : ℕ) (xs : List ℕ) → list_all (λ y. y == 0) (x ∷ xs) ≡ true → x ≡ 0
first_zero x xs h = eqb-true x 0 (and_parts (x == 0) (list_all (λ y. y == 0) xs) h).0

-- five octets of filled digits, of which those behind are zeros
cut_spells : (xs : List ℕ) (p q r s t : ℕ) → length xs < 8 → (IsBadLength (length xs) → ⊥) → Spells (p ∷ q ∷ r ∷ s ∷ t ∷ []) (filled xs)
    → list_all (λ x. x == 0) (drop (length xs * 5 / 8) (p ∷ q ∷ r ∷ s ∷ t ∷ [])) ≡ true → Spells (take (length xs * 5 / 8) (p ∷ q ∷ r ∷ s ∷ t ∷ [])) xs
cut_spells [] p q r s t h good e z = refl
cut_spells (a ∷ []) p q r s t h good e z = absurd (good (inl refl))
cut_spells (a ∷ b ∷ []) p q r s t h good e z =
    let n : p % 8 * 4 ≡ p % 8 * 4 + q / 64 = omega (arith, first_zero q (r ∷ s ∷ t ∷ []) z) in
    ap (λ z. digit (p / 8) ∷ digit z ∷ []) n ∙ ap (take 2) e
cut_spells (a ∷ b ∷ c ∷ []) p q r s t h good e z = absurd (good (inr (inl refl)))
cut_spells (a ∷ b ∷ c ∷ d ∷ []) p q r s t h good e z =
    let n : q % 2 * 16 ≡ q % 2 * 16 + r / 16 = omega (arith, first_zero r (s ∷ t ∷ []) z) in
    ap (λ z. digit (p / 8) ∷ digit (p % 8 * 4 + q / 64) ∷ digit (q / 2 % 32) ∷ digit z ∷ []) n ∙ ap (take 4) e
cut_spells (a ∷ b ∷ c ∷ d ∷ f ∷ []) p q r s t h good e z =
    let n : r % 16 * 2 ≡ r % 16 * 2 + s / 128 = omega (arith, first_zero s (t ∷ []) z) in
    ap (λ z. digit (p / 8) ∷ digit (p % 8 * 4 + q / 64) ∷ digit (q / 2 % 32) ∷ digit (q % 2 * 16 + r / 16) ∷ digit z ∷ []) n ∙ ap (take 5) e
cut_spells (a ∷ b ∷ c ∷ d ∷ f ∷ g ∷ []) p q r s t h good e z = absurd (good (inr (inr refl)))
cut_spells (a ∷ b ∷ c ∷ d ∷ f ∷ g ∷ k ∷ []) p q r s t h good e z =
    let n : s % 4 * 8 ≡ s % 4 * 8 + t / 32 = omega (arith, first_zero t [] z) in
    ap (λ z. digit (p / 8) ∷ digit (p % 8 * 4 + q / 64) ∷ digit (q / 2 % 32) ∷ digit (q % 2 * 16 + r / 16) ∷ digit (r % 16 * 2 + s / 128) ∷ digit (s / 4 % 32) ∷ digit z ∷ []) n
    ∙ ap (take 7) e
cut_spells (a ∷ b ∷ c ∷ d ∷ f ∷ g ∷ k ∷ l ∷ xs) p q r s t h good e z = absurd (omega (arith, h))

pub cut : (xs five : List ℕ) → length xs < 8 → length five ≡ 5 → (IsBadLength (length xs) → ⊥) → Spells five (filled xs)
    → list_all (λ x. x == 0) (drop (length xs * 5 / 8) five) ≡ true → Spells (take (length xs * 5 / 8) five) xs
cut xs [] h l good e z = absurd (omega (arith, l))
cut xs (p ∷ []) h l good e z = absurd (omega (arith, l))
cut xs (p ∷ q ∷ []) h l good e z = absurd (omega (arith, l))
cut xs (p ∷ q ∷ r ∷ []) h l good e z = absurd (omega (arith, l))
cut xs (p ∷ q ∷ r ∷ s ∷ []) h l good e z = absurd (omega (arith, l))
cut xs (p ∷ q ∷ r ∷ s ∷ t ∷ []) h l good e z = cut_spells xs p q r s t h good e z
cut xs (p ∷ q ∷ r ∷ s ∷ t ∷ u ∷ more) h l good e z = absurd (omega (arith, l))

-- ---- why digits are refused

prefix_lower : (p : ℕ → Bool) (xs : List ℕ) → prefix_len p (map to_ascii_lowercase xs) ≡ prefix_len (λ c. p (to_ascii_lowercase c)) xs
prefix_lower p [] = refl
prefix_lower p (x ∷ xs) = ap (λ (n : ℕ). cond (p (to_ascii_lowercase x)) (1 + n) 0) (prefix_lower p xs)

pub position_lower : (p : ℕ → Bool) (xs : List ℕ) → position p (map to_ascii_lowercase xs) ≡ position (λ c. p (to_ascii_lowercase c)) xs
position_lower p xs = λ i.
    cond (ltb (prefix_lower (λ c. not (p c)) xs i) (length-map xs to_ascii_lowercase i)) (Some (prefix_lower (λ c. not (p c)) xs i)) None
