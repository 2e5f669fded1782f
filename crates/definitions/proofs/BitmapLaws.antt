-- The spelling of a set of types has the types of the set.
use Rattle.std.proofs.Common.{◌≡◌, ℕ, zero, suc, ◌+◌, ◌-◌, ◌*◌, ◌/◌, ◌%◌, ◌^◌, ◌<◌, ◌≤◌, Bool, true, false, ◌&&◌, ◌||◌, cond, List, [], ◌∷◌, ◌++◌, length, map, Option, Some, None, refl, sym, ap, ◌∙◌, inl, inr, leb, eq-eqb, arith, length-append}
use Rattle.std.specs.Prelude.{if◌then◌else◌, ◌==◌, nat_eq, slice_index}
use Rattle.std.specs.List.{list_any, flat_map}
use Rattle.std.specs.Option.{is_some}
use Rattle.std.proofs.lemmas.Bool.{ne_eqb, eqb-true, le-leb, cases_lt}
use Rattle.std.proofs.lemmas.List.{take_at, drop_at, length-map, map-append}
use Rattle.std.proofs.Math.Nat.{zero-div}
use Rattle.std.proofs.Math.ListN.{get_or-append}
use Rattle.std.proofs.Math.Seq.{get_or-append_seam}
use Rattle.std.proofs.lemmas.List.Concat.{flat_map-append}
use Rattle.std.proofs.lemmas.List.Folds.{list_any-append}
use Rattle.definitions.specs.Bitmap.{window_size, window_count, below, octet_of, trimmed, window_octets, window, windows, bit_in, in_windows, bitmap_has}
use Rattle.definitions.specs.Windows.{Split, split, first_window}
use Rattle.definitions.specs.Laws.{SpellsSet, OneSpelling}
use Rattle.definitions.proofs.PlainBitmaps.{behind_first, windows-first}

-- ---- one octet

abbrev pub one : Bool → ℕ
one true = 1
one false = 0

worth : (b : Bool) (n : ℕ) → (if b then n else 0) ≡ n * one b
worth true n = omega arith
worth false n = omega arith

pub one_le : (b : Bool) → one b ≤ 1
one_le true = omega arith
one_le false = omega arith

is_one : (b : Bool) (n : ℕ) → n ≡ one b → (n == 1) ≡ b
is_one true n e = ap (λ m. m == 1) e
is_one false n e = ap (λ m. m == 1) e

-- eight bits, the first the highest
abbrev pub octet : (ℕ → Bool) → ℕ
octet b = 0 + (if b 0 then 128 else 0) + (if b 1 then 64 else 0) + (if b 2 then 32 else 0) + (if b 3 then 16 else 0) + (if b 4 then 8 else 0) + (if b 5 then 4 else 0) + (if b 6 then 2 else 0) + (if b 7 then 1 else 0)

abbrev pub sum8 : ℕ → ℕ → ℕ → ℕ → ℕ → ℕ → ℕ → ℕ → ℕ
sum8 a b c d e f g h = 0 + 128 * a + 64 * b + 32 * c + 16 * d + 8 * e + 4 * f + 2 * g + 1 * h

pub octet_sum : (b : ℕ → Bool) → octet b ≡ sum8 (one (b 0)) (one (b 1)) (one (b 2)) (one (b 3)) (one (b 4)) (one (b 5)) (one (b 6)) (one (b 7))
octet_sum b i = 0 + worth (b 0) 128 i + worth (b 1) 64 i + worth (b 2) 32 i + worth (b 3) 16 i + worth (b 4) 8 i + worth (b 5) 4 i + worth (b 6) 2 i + worth (b 7) 1 i

abbrev pub Bits : ℕ → ℕ → ℕ → ℕ → ℕ → ℕ → ℕ → ℕ → Type 0
Bits a b c d e f g h = (a ≤ 1) × (b ≤ 1) × (c ≤ 1) × (d ≤ 1) × (e ≤ 1) × (f ≤ 1) × (g ≤ 1) × (h ≤ 1)

bit0 : (a b c d e f g h : ℕ) → Bits a b c d e f g h → sum8 a b c d e f g h / 128 % 2 ≡ a
bit0 a b c d e f g h k = omega arith

bit1 : (a b c d e f g h : ℕ) → Bits a b c d e f g h → sum8 a b c d e f g h / 64 % 2 ≡ b
bit1 a b c d e f g h k = omega arith

bit2 : (a b c d e f g h : ℕ) → Bits a b c d e f g h → sum8 a b c d e f g h / 32 % 2 ≡ c
bit2 a b c d e f g h k = omega arith

bit3 : (a b c d e f g h : ℕ) → Bits a b c d e f g h → sum8 a b c d e f g h / 16 % 2 ≡ d
bit3 a b c d e f g h k = omega arith

bit4 : (a b c d e f g h : ℕ) → Bits a b c d e f g h → sum8 a b c d e f g h / 8 % 2 ≡ e
bit4 a b c d e f g h k = omega arith

bit5 : (a b c d e f g h : ℕ) → Bits a b c d e f g h → sum8 a b c d e f g h / 4 % 2 ≡ f
bit5 a b c d e f g h k = omega arith

bit6 : (a b c d e f g h : ℕ) → Bits a b c d e f g h → sum8 a b c d e f g h / 2 % 2 ≡ g
bit6 a b c d e f g h k = omega arith

bit7 : (a b c d e f g h : ℕ) → Bits a b c d e f g h → sum8 a b c d e f g h / 1 % 2 ≡ h
bit7 a b c d e f g h k = omega arith

pub below_eight : (P : ℕ → Type 0) → P 0 → P 1 → P 2 → P 3 → P 4 → P 5 → P 6 → P 7 → (j : ℕ) → j < 8 → P j
below_eight P a b c d e f g h zero l = a
below_eight P a b c d e f g h (suc zero) l = b
below_eight P a b c d e f g h (suc (suc zero)) l = c
below_eight P a b c d e f g h (suc (suc (suc zero))) l = d
below_eight P a b c d e f g h (suc (suc (suc (suc zero)))) l = e
below_eight P a b c d e f g h (suc (suc (suc (suc (suc zero))))) l = f
below_eight P a b c d e f g h (suc (suc (suc (suc (suc (suc zero)))))) l = g
below_eight P a b c d e f g h (suc (suc (suc (suc (suc (suc (suc zero))))))) l = h
below_eight P a b c d e f g h (suc (suc (suc (suc (suc (suc (suc (suc j)))))))) l = absurd (omega arith)

-- the bits of an octet are those that it was made of
pub bit_at : (b : ℕ → Bool) (j : ℕ) → j < 8 → (octet b / 2 ^ (7 - j) % 2 == 1) ≡ b j
bit_at b =
    let k : Bits (one (b 0)) (one (b 1)) (one (b 2)) (one (b 3)) (one (b 4)) (one (b 5)) (one (b 6)) (one (b 7)) =
    (one_le (b 0), one_le (b 1), one_le (b 2), one_le (b 3), one_le (b 4), one_le (b 5), one_le (b 6), one_le (b 7)) in
    let P : ℕ → Type 0 = λ j. (octet b / 2 ^ (7 - j) % 2 == 1) ≡ b j in
    below_eight P
    (is_one (b 0) _ (ap (λ s. s / 128 % 2) (octet_sum b) ∙ bit0 _ _ _ _ _ _ _ _ k))
    (is_one (b 1) _ (ap (λ s. s / 64 % 2) (octet_sum b) ∙ bit1 _ _ _ _ _ _ _ _ k))
    (is_one (b 2) _ (ap (λ s. s / 32 % 2) (octet_sum b) ∙ bit2 _ _ _ _ _ _ _ _ k))
    (is_one (b 3) _ (ap (λ s. s / 16 % 2) (octet_sum b) ∙ bit3 _ _ _ _ _ _ _ _ k))
    (is_one (b 4) _ (ap (λ s. s / 8 % 2) (octet_sum b) ∙ bit4 _ _ _ _ _ _ _ _ k))
    (is_one (b 5) _ (ap (λ s. s / 4 % 2) (octet_sum b) ∙ bit5 _ _ _ _ _ _ _ _ k))
    (is_one (b 6) _ (ap (λ s. s / 2 % 2) (octet_sum b) ∙ bit6 _ _ _ _ _ _ _ _ k))
    (is_one (b 7) _ (ap (λ s. s / 1 % 2) (octet_sum b) ∙ bit7 _ _ _ _ _ _ _ _ k))

abbrev pub in_set : List ℕ → ℕ → Bool
in_set ts t = list_any (nat_eq t) ts

pub octet_of-octet : (ts : List ℕ) (w i : ℕ) → octet_of ts w i ≡ octet (λ k. in_set ts (w * 256 + i * 8 + k))
unfolding octet_of
octet_of-octet ts w i = refl

-- ---- the octets of a window

abbrev kept_octet : ℕ → List ℕ → List ℕ
kept_octet b r = if (b == 0) && (length r == 0) then [] else b ∷ r

both_true : (s t : Bool) → (s && t) ≡ true → (s ≡ true) × (t ≡ true)
both_true true t h = (refl, h)
both_true false t h = cc

index_nothing : (b : ℕ) (r : List ℕ) (i : ℕ) → b ≡ 0 → length r ≡ 0 → 0 ≡ slice_index (b ∷ r) i
index_nothing b r zero e n = sym e
index_nothing b [] (suc i) e n = refl
index_nothing b (c ∷ r) (suc i) e n = absurd (omega arith)

index-kept : (b : ℕ) (r : List ℕ) (i : ℕ) → slice_index (kept_octet b r) i ≡ slice_index (b ∷ r) i
index-kept b r i = go ((b == 0) && (length r == 0)) refl
  where
    go : (t : Bool) → ((b == 0) && (length r == 0)) ≡ t → slice_index (if t then [] else b ∷ r) i ≡ slice_index (b ∷ r) i
    go true e = let h : ((b == 0) ≡ true) × ((length r == 0) ≡ true) = both_true (b == 0) (length r == 0) e in index_nothing b r i (eqb-true b 0 h.0) (eqb-true (length r) 0 h.1)
    go false e = refl

pub index-trimmed : (os : List ℕ) (i : ℕ) → slice_index (trimmed os) i ≡ slice_index os i
index-trimmed [] i = refl
index-trimmed (b ∷ os) zero = index-kept b (trimmed os) zero
index-trimmed (b ∷ os) (suc i) = index-kept b (trimmed os) (suc i) ∙ index-trimmed os i

length-kept : (b : ℕ) (r : List ℕ) → length (kept_octet b r) ≤ suc (length r)
length-kept b r = go ((b == 0) && (length r == 0))
  where
    go : (t : Bool) → length (if t then [] else b ∷ r) ≤ suc (length r)
    go true = omega arith
    go false = omega arith

length-trimmed : (os : List ℕ) → length (trimmed os) ≤ length os
length-trimmed [] = omega arith
length-trimmed (b ∷ os) = omega (arith, length-kept b (trimmed os), length-trimmed os)

pub length-window : (ts : List ℕ) (w : ℕ) → length (window_octets ts w) ≤ 32
unfolding window_size
length-window ts w = let n : length (map (octet_of ts w) (below 32)) ≡ 32 = length-map (below 32) (octet_of ts w) in omega (arith, n, length-trimmed (map (octet_of ts w) (below 32)))

pub length-below : (n : ℕ) → length (below n) ≡ n
length-below zero = refl
length-below (suc n) = omega (arith, length-append (below n) (n ∷ []), length-below n)

-- the item at a place of what numbers are mapped to
pub index_map_below : (f : ℕ → ℕ) (n i : ℕ) → i < n → slice_index (map f (below n)) i ≡ f i
index_map_below f zero i h = absurd (omega arith)
index_map_below f (suc n) i h =
    let parts : map f (below (suc n)) ≡ map f (below n) ++ f n ∷ [] = map-append f (below n) (n ∷ []) in
    let len : length (map f (below n)) ≡ n = length-map (below n) f ∙ length-below n in
    elim (cases_lt i n) [
      | inl lt ↦ ap (λ xs. slice_index xs i) parts ∙ get_or-append (map f (below n)) (f n ∷ []) 0 i (omega arith) ∙ index_map_below f n i lt
      | inr le ↦
          let e : i ≡ n = omega arith in
          ap (λ xs. slice_index xs i) parts ∙ ap (λ k. slice_index (map f (below n) ++ f n ∷ []) k) (e ∙ sym len) ∙ get_or-append_seam (map f (below n)) (f n) [] 0 ∙ ap f (sym e)
    ]

-- a window's bit is set where the type is in the set
pub bit-window : (ts : List ℕ) (t : ℕ) → bit_in (window_octets ts (t / 256)) t ≡ in_set ts t
unfolding window_size
bit-window ts t =
    let w : ℕ = t / 256 in
    let i : ℕ = t % 256 / 8 in
    let j : ℕ = t % 8 in
    let b : ℕ → Bool = λ k. in_set ts (w * 256 + i * 8 + k) in
    let at : slice_index (window_octets ts w) i ≡ octet b = index-trimmed (map (octet_of ts w) (below 32)) i ∙ index_map_below (octet_of ts w) 32 i (omega arith) ∙ octet_of-octet ts w i in
    let whole : w * 256 + i * 8 + j ≡ t = omega arith in
    ap (λ o. o / 2 ^ (7 - j) % 2 == 1) at ∙ bit_at b j (omega arith) ∙ ap (in_set ts) whole

-- ---- the windows of a spelling

-- an empty window is left out
abbrev spelled : ℕ → List ℕ → List ℕ
spelled w os = if length os == 0 then [] else w ∷ length os ∷ os

abbrev pub listed : ℕ → List ℕ → List (ℕ × List ℕ)
listed w os = if length os == 0 then [] else (w, os) ∷ []

not_empty : (o : ℕ) (os : List ℕ) → (length (o ∷ os) == 0) ≡ false
not_empty o os = ne_eqb (suc (length os)) 0 (λ e. omega (arith, e))

front_window : (w : ℕ) (os rest : List ℕ) → 1 ≤ length os → length os ≤ 32 → first_window (w ∷ length os ∷ (os ++ rest)) ≡ Some (split w os rest)
front_window w os rest some short =
    let inside : leb (length os) (length (os ++ rest)) ≡ true = le-leb (length os) (length (os ++ rest)) (omega (arith, length-append os rest)) in
    λ i. elim (le-leb 1 (length os) some i && le-leb (length os) 32 short i && inside i) as (λ _. Option Split) [
      | true ↦ Some (split w (take_at os rest (length os) refl i) (drop_at os rest (length os) refl i))
      | false ↦ None
    ]

windows-spelled : (w : ℕ) (os rest : List ℕ) (ws : List (ℕ × List ℕ)) → length os ≤ 32 → windows rest ≡ Some ws → windows (spelled w os ++ rest) ≡ Some (listed w os ++ ws)
windows-spelled w [] rest ws short h = h
windows-spelled w (o ∷ os) rest ws short h =
    ap (λ b. windows ((if b then [] else w ∷ length (o ∷ os) ∷ o ∷ os) ++ rest)) (not_empty o os)
    ∙ windows-first (w ∷ length (o ∷ os) ∷ ((o ∷ os) ++ rest)) (split w (o ∷ os) rest) (front_window w (o ∷ os) rest (omega arith) short)
    ∙ ap (behind_first (split w (o ∷ os) rest)) h
    ∙ ap (λ b. Some ((if b then [] else (w, o ∷ os) ∷ []) ++ ws)) (sym (not_empty o os))

pub windows-all : (f : ℕ → List ℕ) → ((w : ℕ) → length (f w) ≤ 32) → (ns : List ℕ) → windows (flat_map (λ w. spelled w (f w)) ns) ≡ Some (flat_map (λ w. listed w (f w)) ns)
windows-all f short [] = refl
windows-all f short (n ∷ ns) = windows-spelled n (f n) (flat_map (λ w. spelled w (f w)) ns) (flat_map (λ w. listed w (f w)) ns) (short n) (windows-all f short ns)

-- ---- which windows have a type

zero_bit : (k : ℕ) → (0 / 2 ^ k % 2 == 1) ≡ false
zero_bit k = let e : 0 / 2 ^ k ≡ 0 = zero-div (2 ^ k) in ap (λ n. n % 2 == 1) e

nothing_has : (t : ℕ) → bit_in [] t ≡ false
nothing_has t = zero_bit (7 - t % 8)

and_false : (b : Bool) → (b && false) ≡ false
and_false true = refl
and_false false = refl

-- the first window of the type's number, or those behind
in_listed : (n : ℕ) (os : List ℕ) (ws : List (ℕ × List ℕ)) (t : ℕ) → in_windows (listed n os ++ ws) t ≡ cond (nat_eq n (t / 256) && (if length os == 0 then false else true)) (bit_in os t) (in_windows ws t)
in_listed n [] ws t = ap (λ b. cond b (bit_in [] t) (in_windows ws t)) (sym (and_false (nat_eq n (t / 256))))
in_listed n (o ∷ os) ws t =
    ap (λ b. in_windows ((if b then [] else (n, o ∷ os) ∷ []) ++ ws) t) (not_empty o os) ∙ go (nat_eq n (t / 256))
    ∙ ap (λ b. cond (nat_eq n (t / 256) && (if b then false else true)) (bit_in (o ∷ os) t) (in_windows ws t)) (sym (not_empty o os))
  where
    go : (b : Bool) → cond b (bit_in (o ∷ os) t) (in_windows ws t) ≡ cond (b && true) (bit_in (o ∷ os) t) (in_windows ws t)
    go true = refl
    go false = refl

empty_has : (os : List ℕ) (t : ℕ) → length os ≡ 0 → bit_in os t ≡ false
empty_has [] t h = nothing_has t
empty_has (o ∷ os) t h = absurd (omega arith)

same_number : (f : ℕ → List ℕ) (n t : ℕ) (rest : Bool) → n ≡ t / 256 → cond (if length (f n) == 0 then false else true) (bit_in (f n) t) (rest && bit_in (f (t / 256)) t) ≡ bit_in (f (t / 256)) t
same_number f n t rest e = go (length (f n) == 0) refl
  where
    go : (b : Bool) → (length (f n) == 0) ≡ b → cond (if b then false else true) (bit_in (f n) t) (rest && bit_in (f (t / 256)) t) ≡ bit_in (f (t / 256)) t
    go true z =
        let nothing : bit_in (f (t / 256)) t ≡ false = ap (λ k. bit_in (f k) t) (sym e) ∙ empty_has (f n) t (eqb-true (length (f n)) 0 z) in
        ap (λ b. rest && b) nothing ∙ and_false rest ∙ sym nothing
    go false z = ap (λ k. bit_in (f k) t) e

in_windows-all : (f : ℕ → List ℕ) (ns : List ℕ) (t : ℕ) → in_windows (flat_map (λ w. listed w (f w)) ns) t ≡ (list_any (λ n. nat_eq n (t / 256)) ns && bit_in (f (t / 256)) t)
in_windows-all f [] t = refl
in_windows-all f (n ∷ ns) t =
    in_listed n (f n) (flat_map (λ w. listed w (f w)) ns) t
    ∙ ap (λ b. cond (nat_eq n (t / 256) && (if length (f n) == 0 then false else true)) (bit_in (f n) t) b) (in_windows-all f ns t)
    ∙ go (nat_eq n (t / 256)) refl
  where
    go : (b : Bool) → nat_eq n (t / 256) ≡ b → cond (b && (if length (f n) == 0 then false else true)) (bit_in (f n) t) (list_any (λ m. nat_eq m (t / 256)) ns && bit_in (f (t / 256)) t) ≡ ((b || list_any (λ m. nat_eq m (t / 256)) ns) && bit_in (f (t / 256)) t)
    go true e = same_number f n t (list_any (λ m. nat_eq m (t / 256)) ns) (eqb-true n (t / 256) e)
    go false e = refl

right_true : (s : Bool) → (s || true) ≡ true
right_true true = refl
right_true false = refl

any_below : (n k : ℕ) → k < n → list_any (λ m. nat_eq m k) (below n) ≡ true
any_below zero k h = absurd (omega arith)
any_below (suc n) k h =
    list_any-append (λ m. nat_eq m k) (below n) (n ∷ [])
    ∙ elim (cases_lt k n) [
      | inl lt ↦ ap (λ b. b || list_any (λ m. nat_eq m k) (n ∷ [])) (any_below n k lt)
      | inr le ↦
          let e : nat_eq n k ≡ true = eq-eqb n k (omega arith) in
          ap (λ b. list_any (λ m. nat_eq m k) (below n) || (b || false)) e ∙ right_true (list_any (λ m. nat_eq m k) (below n))
    ]

abbrev found : Option (List (ℕ × List ℕ)) → ℕ → Bool
found o t = elim o [ None ↦ false | Some ws ↦ in_windows ws t ]

members_below : (ts : List ℕ) (n t : ℕ) → t / 256 < n → found (windows (flat_map (window ts) (below n))) t ≡ in_set ts t
members_below ts n t h =
    ap (λ o. found o t) (windows-all (window_octets ts) (length-window ts) (below n)) ∙ in_windows-all (window_octets ts) (below n) t
    ∙ ap (λ b. b && bit_in (window_octets ts (t / 256)) t) (any_below n (t / 256) h) ∙ bit-window ts t

spelled_below : (ts : List ℕ) (n : ℕ) → is_some (windows (flat_map (window ts) (below n))) ≡ true
spelled_below ts n = ap is_some (windows-all (window_octets ts) (length-window ts) (below n))

pub spells_set : (ts : List ℕ) → SpellsSet ts
unfolding window_count
spells_set ts = record { spelled = spelled_below ts 256; members = λ t h. members_below ts 256 t (omega arith) }

-- ---- equal sets

map_below : {A : Type 0} (f g : ℕ → A) (n : ℕ) → ((i : ℕ) → i < n → f i ≡ g i) → map f (below n) ≡ map g (below n)
map_below f g zero h = refl
map_below f g (suc n) h =
    map-append f (below n) (n ∷ []) ∙ (λ i. map_below f g n (λ k l. h k (omega (arith, l))) i ++ h n (omega arith) i ∷ []) ∙ sym (map-append g (below n) (n ∷ []))

flat_map_below : {A : Type 0} (f g : ℕ → List A) (n : ℕ) → ((i : ℕ) → i < n → f i ≡ g i) → flat_map f (below n) ≡ flat_map g (below n)
flat_map_below f g zero h = refl
flat_map_below f g (suc n) h =
    flat_map-append f (below n) (n ∷ []) ∙ (λ i. flat_map_below f g n (λ k l. h k (omega (arith, l))) i ++ (h n (omega arith) i ++ [])) ∙ sym (flat_map-append g (below n) (n ∷ []))

abbrev Alike : List ℕ → List ℕ → Type 0
Alike ts us = (t : ℕ) → t < 2 ^ 16 → in_set ts t ≡ in_set us t

octet-alike : (ts us : List ℕ) (w i : ℕ) → Alike ts us → w < 256 → i < 32 → octet_of ts w i ≡ octet_of us w i
unfolding octet_of
octet-alike ts us w i h lw li =
    let at : (k : ℕ) → k < 8 → in_set ts (w * 256 + i * 8 + k) ≡ in_set us (w * 256 + i * 8 + k) = λ k l. h (w * 256 + i * 8 + k) (omega (arith, l)) in
    let a0 = at 0 (omega arith) in
    let a1 = at 1 (omega arith) in
    let a2 = at 2 (omega arith) in
    let a3 = at 3 (omega arith) in
    let a4 = at 4 (omega arith) in
    let a5 = at 5 (omega arith) in
    let a6 = at 6 (omega arith) in
    let a7 = at 7 (omega arith) in
    λ t. 0 + (if a0 t then 128 else 0) + (if a1 t then 64 else 0) + (if a2 t then 32 else 0) + (if a3 t then 16 else 0) + (if a4 t then 8 else 0) + (if a5 t then 4 else 0) + (if a6 t then 2 else 0) + (if a7 t then 1 else 0)

window-alike : (ts us : List ℕ) (w : ℕ) → Alike ts us → w < 256 → window ts w ≡ window us w
unfolding window_size
window-alike ts us w h lw = ap (λ os. spelled w (trimmed os)) (map_below (octet_of ts w) (octet_of us w) 32 (λ i l. octet-alike ts us w i h lw l))

bitmap_upto : (ts us : List ℕ) (n : ℕ) → n ≤ 256 → Alike ts us → flat_map (window ts) (below n) ≡ flat_map (window us) (below n)
bitmap_upto ts us n top h = flat_map_below (window ts) (window us) n (λ w l. window-alike ts us w h (omega (arith, l)))

pub one_spelling : OneSpelling
unfolding window_count
one_spelling ts us = (
  (λ e t l. sym ((spells_set ts).members t l) ∙ ap (λ bs. bitmap_has bs t) e ∙ (spells_set us).members t l),
  (λ h. bitmap_upto ts us 256 (omega arith) h),
)
