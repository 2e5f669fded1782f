-- One octet of a window, and one type more.
use Rattle.std.proofs.Common.{◌≡◌, ℕ, zero, suc, ◌+◌, ◌-◌, ◌*◌, ◌/◌, ◌%◌, ◌^◌, ◌<◌, Bool, true, false, ◌||◌, List, ◌∷◌, refl, sym, ap, ◌∙◌, arith, eq-eqb}
use Rattle.std.specs.Prelude.{if◌then◌else◌, ◌==◌, nat_eq}
use Rattle.std.proofs.lemmas.Bool.{ne_eqb, eqb-true, eqb-false}
use Rattle.std.proofs.Math.Nat.{zero-div}
use Rattle.definitions.specs.Bitmap.{octet_of}
use Rattle.definitions.proofs.BitmapLaws.{octet, in_set, octet_of-octet, bit_at, below_eight}
use Rattle.denial_bitmap.specs.Building.{with_bit}

abbrev eight : Bool → Bool → Bool → Bool → Bool → Bool → Bool → Bool → ℕ
eight a b c d e f g h =
    0 + (if a then 128 else 0) + (if b then 64 else 0) + (if c then 32 else 0) + (if d then 16 else 0) + (if e then 8 else 0) + (if f then 4 else 0) + (if g then 2 else 0) + (if h then 1 else 0)

same_bits : (b c : ℕ → Bool) → ((k : ℕ) → k < 8 → b k ≡ c k) → octet b ≡ octet c
same_bits b c h i =
    eight (h 0 (omega arith) i) (h 1 (omega arith) i) (h 2 (omega arith) i) (h 3 (omega arith) i) (h 4 (omega arith) i) (h 5 (omega arith) i) (h 6 (omega arith) i) (h 7 (omega arith) i)

other_type : (ts : List ℕ) (t u : ℕ) → (u ≡ t → ⊥) → in_set (t ∷ ts) u ≡ in_set ts u
other_type ts t u h = ap (λ b. b || in_set ts u) (ne_eqb u t h)

this_type : (ts : List ℕ) (t u : ℕ) → u ≡ t → in_set (t ∷ ts) u ≡ true
this_type ts t u h = ap (λ b. b || in_set ts u) (eq-eqb u t h)

-- an octet without the type stays
pub other_octet : (ts : List ℕ) (t w i : ℕ) → ((k : ℕ) → k < 8 → w * 256 + i * 8 + k ≡ t → ⊥) → octet_of (t ∷ ts) w i ≡ octet_of ts w i
other_octet ts t w i h =
    octet_of-octet (t ∷ ts) w i
    ∙ same_bits (λ k. in_set (t ∷ ts) (w * 256 + i * 8 + k)) (λ k. in_set ts (w * 256 + i * 8 + k)) (λ k l. other_type ts t (w * 256 + i * 8 + k) (h k l))
    ∙ sym (octet_of-octet ts w i)

-- eight bits with one set
abbrev set_at : (ℕ → Bool) → ℕ → ℕ → Bool
set_at b j k = nat_eq k j || b k

abbrev added : Bool → ℕ → ℕ → ℕ
added b n worth = if b then n else n + worth

put0 : (a b c d e f g h : Bool) → eight true b c d e f g h ≡ added a (eight a b c d e f g h) 128
put0 true b c d e f g h = refl
put0 false b c d e f g h = omega arith

put1 : (a b c d e f g h : Bool) → eight a true c d e f g h ≡ added b (eight a b c d e f g h) 64
put1 a true c d e f g h = refl
put1 a false c d e f g h = omega arith

put2 : (a b c d e f g h : Bool) → eight a b true d e f g h ≡ added c (eight a b c d e f g h) 32
put2 a b true d e f g h = refl
put2 a b false d e f g h = omega arith

put3 : (a b c d e f g h : Bool) → eight a b c true e f g h ≡ added d (eight a b c d e f g h) 16
put3 a b c true e f g h = refl
put3 a b c false e f g h = omega arith

put4 : (a b c d e f g h : Bool) → eight a b c d true f g h ≡ added e (eight a b c d e f g h) 8
put4 a b c d true f g h = refl
put4 a b c d false f g h = omega arith

put5 : (a b c d e f g h : Bool) → eight a b c d e true g h ≡ added f (eight a b c d e f g h) 4
put5 a b c d e true g h = refl
put5 a b c d e false g h = omega arith

put6 : (a b c d e f g h : Bool) → eight a b c d e f true h ≡ added g (eight a b c d e f g h) 2
put6 a b c d e f true h = refl
put6 a b c d e f false h = omega arith

put7 : (a b c d e f g h : Bool) → eight a b c d e f g true ≡ added h (eight a b c d e f g h) 1
put7 a b c d e f g true = refl
put7 a b c d e f g false = omega arith

put_bit : (b : ℕ → Bool) (j : ℕ) → j < 8 → octet (set_at b j) ≡ added (b j) (octet b) (2 ^ (7 - j))
put_bit b = below_eight (λ j. octet (set_at b j) ≡ added (b j) (octet b) (2 ^ (7 - j)))
    (put0 (b 0) (b 1) (b 2) (b 3) (b 4) (b 5) (b 6) (b 7))
    (put1 (b 0) (b 1) (b 2) (b 3) (b 4) (b 5) (b 6) (b 7))
    (put2 (b 0) (b 1) (b 2) (b 3) (b 4) (b 5) (b 6) (b 7))
    (put3 (b 0) (b 1) (b 2) (b 3) (b 4) (b 5) (b 6) (b 7))
    (put4 (b 0) (b 1) (b 2) (b 3) (b 4) (b 5) (b 6) (b 7))
    (put5 (b 0) (b 1) (b 2) (b 3) (b 4) (b 5) (b 6) (b 7))
    (put6 (b 0) (b 1) (b 2) (b 3) (b 4) (b 5) (b 6) (b 7))
    (put7 (b 0) (b 1) (b 2) (b 3) (b 4) (b 5) (b 6) (b 7))

with_bit-octet : (b : ℕ → Bool) (j : ℕ) → j < 8 → with_bit (octet b) j ≡ octet (set_at b j)
with_bit-octet b j h = ap (λ x. added x (octet b) (2 ^ (7 - j))) (bit_at b j h) ∙ sym (put_bit b j h)

-- the octet with the type has its bit
pub this_octet : (ts : List ℕ) (t w i j : ℕ) → j < 8 → w * 256 + i * 8 + j ≡ t → octet_of (t ∷ ts) w i ≡ with_bit (octet_of ts w i) j
this_octet ts t w i j h e =
    let old : ℕ → Bool = λ k. in_set ts (w * 256 + i * 8 + k) in
    let new : ℕ → Bool = λ k. in_set (t ∷ ts) (w * 256 + i * 8 + k) in
    octet_of-octet (t ∷ ts) w i ∙ same_bits new (set_at old j) (λ k l. go k) ∙ sym (with_bit-octet old j h)
    ∙ ap (λ o. with_bit o j) (sym (octet_of-octet ts w i))
  where
    go : (k : ℕ) → in_set (t ∷ ts) (w * 256 + i * 8 + k) ≡ set_at (λ k. in_set ts (w * 256 + i * 8 + k)) j k
    go k = test (nat_eq k j) refl
      where
        test : (b : Bool) → nat_eq k j ≡ b → in_set (t ∷ ts) (w * 256 + i * 8 + k) ≡ (b || in_set ts (w * 256 + i * 8 + k))
        test true q = this_type ts t (w * 256 + i * 8 + k) (omega (arith, e, eqb-true k j q))
        test false q = other_type ts t (w * 256 + i * 8 + k) (λ z. eqb-false k j q (omega (arith, e, z)))

-- there is room for a bit that is not set
pub bit_fits : (o k : ℕ) → o < 256 → k < 8 → (o / 2 ^ (7 - k) % 2 ≡ 1 → ⊥) → o + 2 ^ (7 - k) < 256
bit_fits o k small = below_eight (λ j. (o / 2 ^ (7 - j) % 2 ≡ 1 → ⊥) → o + 2 ^ (7 - j) < 256)
    (λ h. omega (arith, small, h)) (λ h. omega (arith, small, h)) (λ h. omega (arith, small, h)) (λ h. omega (arith, small, h))
    (λ h. omega (arith, small, h)) (λ h. omega (arith, small, h)) (λ h. omega (arith, small, h)) (λ h. omega (arith, small, h)) k

-- 128 halved so often
pub halved : (k : ℕ) → k < 8 → 128 / 2 ^ k ≡ 2 ^ (7 - k)
halved = below_eight (λ k. 128 / 2 ^ k ≡ 2 ^ (7 - k)) refl refl refl refl refl refl refl refl

pub bit_is_some : (o k : ℕ) → 0 < with_bit o k
bit_is_some o k = go (o / 2 ^ (7 - k) % 2 == 1) refl
  where
    go : (b : Bool) → (o / 2 ^ (7 - k) % 2 == 1) ≡ b → 0 < (if b then o else o + 2 ^ (7 - k))
    go true q = some o (eqb-true (o / 2 ^ (7 - k) % 2) 1 q)
      where
        some : (n : ℕ) → n / 2 ^ (7 - k) % 2 ≡ 1 → 0 < n
        some zero e = absurd (omega (arith, e, zero-div (2 ^ (7 - k))))
        some (suc n) e = omega arith
    go false q = omega (arith, power_some (7 - k))
      where
        power_some : (n : ℕ) → 0 < 2 ^ n
        power_some zero = omega arith
        power_some (suc n) = omega (arith, power_some n)
