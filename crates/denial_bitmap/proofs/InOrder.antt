-- A built bitmap gives its types in order.
use Rattle.std.proofs.Common.{◌≡◌, ℕ, zero, suc, ◌+◌, ◌-◌, ◌*◌, ◌/◌, ◌%◌, ◌^◌, ◌<◌, ◌≤◌, Bool, true, false, List, [], ◌∷◌, ◌++◌, length, map, filter, Option, Some, None, refl, sym, ap, ◌∙◌, arith, ne_eqb}
use Rattle.std.specs.Prelude.{if◌then◌else◌, ◌==◌, slice_index}
use Rattle.std.specs.List.{flat_map}
use Rattle.std.proofs.lemmas.List.{append-nil}
use Rattle.std.proofs.lemmas.List.Concat.{flat_map-append}
use Rattle.std.proofs.Math.Nat.{zero-div}
use Rattle.definitions.specs.Bitmap.{below, bit_in, window_octets, window_count}
use Rattle.definitions.proofs.BitmapLaws.{in_set, bit-window, length-window, listed, windows-all}
use Rattle.denial_bitmap.specs.Padding.{from}
use Rattle.denial_bitmap.specs.Types.{bits_from, types_from}
use Rattle.denial_bitmap.specs.Laws.{type_count, GivesTypesInOrder}
use Rattle.denial_bitmap.proofs.Windows.{below_from}

from-append : (a m n : ℕ) → from a (m + n) ≡ from a m ++ from (a + m) n
from-append a zero n = (λ i. from (left i) (right i))
  where
    left : a ≡ a + 0
    left = omega arith

    right : 0 + n ≡ n
    right = omega arith
from-append a (suc m) n =
    ap (from a) {x = suc m + n} {y = suc (m + n)} (omega arith) ∙ ap (λ xs. a ∷ xs) (from-append (suc a) m n ∙ ap (λ b. from (suc a) m ++ from b n) {x = suc a + m} {y = a + suc m} (omega arith))

filter-append : (p : ℕ → Bool) (xs ys : List ℕ) → filter p (xs ++ ys) ≡ filter p xs ++ filter p ys
filter-append p [] ys = refl
filter-append p (x ∷ xs) ys = go (p x) (filter-append p xs ys)
  where
    go : (b : Bool) → filter p (xs ++ ys) ≡ filter p xs ++ filter p ys → (if b then x ∷ filter p (xs ++ ys) else filter p (xs ++ ys)) ≡ (if b then x ∷ filter p xs else filter p xs) ++ filter p ys
    go true e = ap (λ zs. x ∷ zs) e
    go false e = e

none_of : (p : ℕ → Bool) (a n : ℕ) → ((k : ℕ) → a ≤ k → k < a + n → p k ≡ false) → filter p (from a n) ≡ []
none_of p a zero h = refl
none_of p a (suc n) h =
    ap (λ b. if b then a ∷ filter p (from (suc a) n) else filter p (from (suc a) n)) (h a (omega arith) (omega arith))
    ∙ none_of p (suc a) n (λ k l m. h k (omega (arith, l)) (omega (arith, m)))

-- numbers moved up, then tested
moved_up : (p q : ℕ → Bool) (d a n : ℕ) → ((k : ℕ) → a ≤ k → k < a + n → p k ≡ q (d + k)) → map (λ k. d + k) (filter p (from a n)) ≡ filter q (from (d + a) n)
moved_up p q d a zero h = refl
moved_up p q d a (suc n) h =
    let rest = moved_up p q d (suc a) n (λ k l m. h k (omega (arith, l)) (omega (arith, m))) ∙ ap (λ b. filter q (from b n)) {x = d + suc a} {y = suc (d + a)} (omega arith) in
    ap (λ b. map (λ k. d + k) (if b then a ∷ filter p (from (suc a) n) else filter p (from (suc a) n))) (h a (omega arith) (omega arith)) ∙ go (q (d + a)) rest
  where
    go : (b : Bool) → map (λ k. d + k) (filter p (from (suc a) n)) ≡ filter q (from (suc (d + a)) n) → map (λ k. d + k) (if b then a ∷ filter p (from (suc a) n) else filter p (from (suc a) n)) ≡ (if b then (d + a) ∷ filter q (from (suc (d + a)) n) else filter q (from (suc (d + a)) n))
    go true e = ap (λ xs. (d + a) ∷ xs) e
    go false e = e

beyond : (os : List ℕ) (i : ℕ) → length os ≤ i → slice_index os i ≡ 0
beyond [] i h = refl
beyond (o ∷ os) zero h = absurd (omega (arith, h))
beyond (o ∷ os) (suc i) h = beyond os i (omega (arith, h))

bit_beyond : (os : List ℕ) (k : ℕ) → k < 256 → 8 * length os ≤ k → bit_in os k ≡ false
bit_beyond os k small h = ap (λ o. o / 2 ^ (7 - k % 8) % 2 == 1) (beyond os (k % 256 / 8) (omega (arith, small, h))) ∙ ap (λ o. o % 2 == 1) (zero-div (2 ^ (7 - k % 8)))

-- the bit of a type is that of its low eight bits
low_bit : (os : List ℕ) (w k : ℕ) → k < 256 → bit_in os k ≡ bit_in os (w * 256 + k)
low_bit os w k h =
    let i : k % 256 / 8 ≡ (w * 256 + k) % 256 / 8 = omega (arith, h) in
    let j : k % 8 ≡ (w * 256 + k) % 8 = omega (arith, h) in
    λ t. slice_index os (i t) / 2 ^ (7 - j t) % 2 == 1

-- the types of one window
window_types : (ts : List ℕ) (w : ℕ) → types_from w (window_octets ts w) 0 ≡ filter (in_set ts) (from (w * 256) 256)
window_types ts w =
    let os = window_octets ts w in
    let short : length os ≤ 32 = length-window ts w in
    let apart : filter (bit_in os) (from 0 256) ≡ bits_from os 0 ++ [] =
    ap (λ n. filter (bit_in os) (from 0 n)) {x = 256} {y = (8 * length os - 0) + (256 - 8 * length os)} (omega (arith, short))
    ∙ ap (filter (bit_in os)) (from-append 0 (8 * length os - 0) (256 - 8 * length os))
    ∙ filter-append (bit_in os) (from 0 (8 * length os - 0)) (from (0 + (8 * length os - 0)) (256 - 8 * length os))
    ∙ ap (λ xs. bits_from os 0 ++ xs) (none_of (bit_in os) (0 + (8 * length os - 0)) (256 - 8 * length os) (λ k l m. bit_beyond os k (omega (arith, m, short)) (omega (arith, l)))) in
    let same : (k : ℕ) → 0 ≤ k → k < 0 + 256 → bit_in os k ≡ in_set ts (w * 256 + k) =
    λ k l m. low_bit os w k (omega (arith, m)) ∙ ap (λ v. bit_in (window_octets ts v) (w * 256 + k)) {x = w} {y = (w * 256 + k) / 256} (omega (arith, m)) ∙ bit-window ts (w * 256 + k) in
    ap (map (λ k. w * 256 + k)) (sym (append-nil (bits_from os 0)) ∙ sym apart) ∙ moved_up (bit_in os) (in_set ts) (w * 256) 0 256 same
    ∙ ap (λ b. filter (in_set ts) (from b 256)) {x = w * 256 + 0} {y = w * 256} (omega arith)

abbrev types : ℕ × List ℕ → List ℕ
types w = types_from w.0 w.1 0

abbrev types_of : Option (List (ℕ × List ℕ)) → List ℕ
types_of o = elim o [ None ↦ [] | Some ws ↦ flat_map types ws ]

listed_types : (w : ℕ) (os : List ℕ) → flat_map types (listed w os) ≡ types_from w os 0
listed_types w [] = refl
listed_types w (o ∷ os) = ap (λ b. flat_map types (if b then [] else (w, o ∷ os) ∷ [])) (ne_eqb (suc (length os)) 0 (λ e. omega (arith, e))) ∙ append-nil (types_from w (o ∷ os) 0)

all_types : (ts ns : List ℕ) → flat_map types (flat_map (λ w. listed w (window_octets ts w)) ns) ≡ flat_map (λ w. filter (in_set ts) (from (w * 256) 256)) ns
all_types ts [] = refl
all_types ts (n ∷ ns) =
    flat_map-append types (listed n (window_octets ts n)) (flat_map (λ w. listed w (window_octets ts w)) ns)
    ∙ (λ i. (listed_types n (window_octets ts n) ∙ window_types ts n) i ++ all_types ts ns i)

in_order : (ts : List ℕ) (n : ℕ) → flat_map (λ w. filter (in_set ts) (from (w * 256) 256)) (below n) ≡ filter (in_set ts) (from 0 (n * 256))
in_order ts zero = refl
in_order ts (suc n) =
    flat_map-append (λ w. filter (in_set ts) (from (w * 256) 256)) (below n) (n ∷ [])
    ∙ (λ i. in_order ts n i ++ append-nil (filter (in_set ts) (from (n * 256) 256)) i)
    ∙ ap (λ a. filter (in_set ts) (from 0 (n * 256)) ++ filter (in_set ts) (from a 256)) {x = n * 256} {y = 0 + n * 256} (omega arith)
    ∙ sym (filter-append (in_set ts) (from 0 (n * 256)) (from (0 + n * 256) 256))
    ∙ ap (filter (in_set ts)) (sym (from-append 0 (n * 256) 256))
    ∙ ap (λ m. filter (in_set ts) (from 0 m)) {x = n * 256 + 256} {y = suc n * 256} (omega arith)

numbers : (n : ℕ) → from 0 n ≡ below n
numbers n = sym (ap below {x = n} {y = n + 0} (omega arith) ∙ below_from 0 n)

pub gives_types_in_order : GivesTypesInOrder
unfolding window_count type_count
gives_types_in_order ts =
    ap types_of (windows-all (window_octets ts) (length-window ts) (below 256)) ∙ all_types ts (below 256) ∙ in_order ts 256
    ∙ ap (filter (in_set ts)) (numbers 65536)
