-- One window of a bitmap, and those around it.
use Rattle.std.proofs.Common.{◌≡◌, ℕ, zero, suc, ◌+◌, ◌-◌, ◌/◌, ◌%◌, ◌<◌, ◌≤◌, Bool, true, false, ◌&&◌, List, [], ◌∷◌, ◌++◌, length, map, take, drop, refl, sym, ap, ◌∙◌, arith, append_assoc, length-append, eq-eqb, inl, inr}
use Rattle.std.specs.Prelude.{if◌then◌else◌, ◌==◌, slice_index, set}
use Rattle.std.specs.List.{flat_map}
use Rattle.std.proofs.lemmas.Bool.{ne_eqb, eqb-true, cases_lt}
use Rattle.std.proofs.lemmas.List.{length-map, map-append, append-nil, length-set, set-append_left, set-append_right, get_or-append-add, take-append-drop, take-append-le, drop-append-le}
use Rattle.std.proofs.lemmas.List.Concat.{flat_map-append}
use Rattle.std.proofs.Math.Seq.{drop-append_seam, take-append_seam, set-append_seam}
use Rattle.std.proofs.Math.ListN.{get_or-append}
use Rattle.definitions.specs.Bitmap.{window_size, window_count, below, octet_of, trimmed, window_octets, window, bitmap}
use Rattle.definitions.specs.Windows.{numbered}
use Rattle.definitions.proofs.BitmapLaws.{index-trimmed, index_map_below, length-below}
use Rattle.denial_bitmap.specs.Building.{zeros, inserted, window_len, with_bit, windows_before}
use Rattle.denial_bitmap.specs.Padding.{padded, from, windows_after, roomy}
use Rattle.denial_bitmap.proofs.Bits.{other_octet, this_octet, bit_is_some}

-- ---- the numbers below 256

from_more : (a n : ℕ) → from a n ++ (a + n) ∷ [] ≡ a ∷ from (suc a) n
from_more a zero = ap (λ k. k ∷ []) (omega arith)
from_more a (suc n) = ap (λ xs. a ∷ xs) (ap (λ k. from (suc a) n ++ k ∷ []) (omega arith) ∙ from_more (suc a) n)

pub below_from : (a n : ℕ) → below (n + a) ≡ below a ++ from a n
below_from a zero = ap below {x = 0 + a} {y = a} (omega arith) ∙ sym (append-nil (below a))
below_from a (suc n) =
    ap below {x = suc n + a} {y = suc (n + a)} (omega arith) ∙ ap (λ xs. xs ++ (n + a) ∷ []) (below_from a n) ∙ append_assoc (below a) (from a n) ((n + a) ∷ [])
    ∙ ap (λ k. below a ++ (from a n ++ k ∷ [])) (omega arith) ∙ ap (λ xs. below a ++ xs) (from_more a n)

-- a window of these octets, between those of lower and higher numbers
abbrev pub around : List ℕ → ℕ → List ℕ → List ℕ → List ℕ
around front number octets back = front ++ (numbered number octets ++ back)

-- a bitmap is its windows around one
pub bitmap_around : (ts : List ℕ) (w : ℕ) → w < 256 → bitmap ts ≡ around (windows_before ts w) w (window_octets ts w) (windows_after ts w)
unfolding window_count
bitmap_around ts w h =
    ap (λ n. flat_map (window ts) (below n)) {x = 256} {y = suc (255 - w) + w} (omega (arith, h)) ∙ ap (flat_map (window ts)) (below_from w (suc (255 - w)))
    ∙ flat_map-append (window ts) (below w) (from w (suc (255 - w)))

-- ---- a window at the front

not_empty : (o : ℕ) (os : List ℕ) → (length (o ∷ os) == 0) ≡ false
not_empty o os = ne_eqb (suc (length os)) 0 (λ e. omega (arith, e))

pub numbered_some : (w : ℕ) (os : List ℕ) → 0 < length os → numbered w os ≡ w ∷ length os ∷ os
numbered_some w [] h = absurd (omega (arith, h))
numbered_some w (o ∷ os) h = ap (λ b. if b then [] else w ∷ length (o ∷ os) ∷ o ∷ os) (not_empty o os)

-- the windows of higher numbers don't begin with this one
pub window_len-above : (ts : List ℕ) (w a n : ℕ) → w < a → window_len w (flat_map (window ts) (from a n)) ≡ 0
window_len-above ts w a zero h = refl
window_len-above ts w a (suc n) h = go (window_octets ts a) (window_len-above ts w (suc a) n (omega arith))
  where
    go : (os : List ℕ) → window_len w (flat_map (window ts) (from (suc a) n)) ≡ 0 → window_len w (numbered a os ++ flat_map (window ts) (from (suc a) n)) ≡ 0
    go [] later = later
    go (o ∷ os) later =
        ap (λ xs. window_len w (xs ++ flat_map (window ts) (from (suc a) n))) (numbered_some a (o ∷ os) (omega arith))
        ∙ ap (λ b. if b then length (o ∷ os) else 0) (ne_eqb a w (λ e. omega (arith, e, h)))

window_len-front : (w : ℕ) (os back : List ℕ) → window_len w back ≡ 0 → window_len w (numbered w os ++ back) ≡ length os
window_len-front w [] back h = h
window_len-front w (o ∷ os) back h =
    ap (λ xs. window_len w (xs ++ back)) (numbered_some w (o ∷ os) (omega arith)) ∙ ap (λ b. if b then length (o ∷ os) else 0) (eq-eqb w w refl)

-- how many octets the window has where it stands
pub window_len-around : (ts : List ℕ) (w : ℕ) → w < 256 → window_len w (drop (length (windows_before ts w)) (bitmap ts)) ≡ length (window_octets ts w)
window_len-around ts w h =
    ap (λ xs. window_len w (drop (length (windows_before ts w)) xs)) (bitmap_around ts w h)
    ∙ ap (window_len w) (drop-append_seam (windows_before ts w) (numbered w (window_octets ts w) ++ windows_after ts w))
    ∙ window_len-front w (window_octets ts w) (windows_after ts w) (window_len-above ts w (suc w) (255 - w) (omega arith))

-- it begins within the octets
pub begins_inside : (ts : List ℕ) (w : ℕ) → w < 256 → length (windows_before ts w) ≤ length (bitmap ts)
begins_inside ts w h =
    omega (arith, ap length (bitmap_around ts w h), length-append (windows_before ts w) (numbered w (window_octets ts w) ++ windows_after ts w))

length-numbered : (w : ℕ) (os : List ℕ) → 0 < length os → length (numbered w os) ≡ 2 + length os
length-numbered w os h = omega (arith, ap length (numbered_some w os h))

pub length-none : (w : ℕ) (os : List ℕ) → length os ≡ 0 → length (numbered w os) ≡ 0
length-none w [] h = refl
length-none w (o ∷ os) h = absurd (omega (arith, h))

before_more : (ts : List ℕ) (w : ℕ) → length (windows_before ts (suc w)) ≡ length (windows_before ts w) + length (numbered w (window_octets ts w))
before_more ts w =
    ap length (flat_map-append (window ts) (below w) (w ∷ []) ∙ ap (λ xs. windows_before ts w ++ xs) (append-nil (window ts w)))
    ∙ length-append (windows_before ts w) (window ts w)

-- the next window begins behind it
pub next_begins : (ts : List ℕ) (w : ℕ) → 0 < length (window_octets ts w) → length (windows_before ts (suc w)) ≡ length (windows_before ts w) + (2 + length (window_octets ts w))
next_begins ts w h = before_more ts w ∙ ap (λ n. length (windows_before ts w) + n) (length-numbered w (window_octets ts w) h)

pub next_begins_here : (ts : List ℕ) (w : ℕ) → length (window_octets ts w) ≡ 0 → length (windows_before ts (suc w)) ≡ length (windows_before ts w)
next_begins_here ts w h = omega (arith, before_more ts w, length-none w (window_octets ts w) h)

-- ---- one type more

same_window : (ts : List ℕ) (t w : ℕ) → (w ≡ t / 256 → ⊥) → window (t ∷ ts) w ≡ window ts w
unfolding window_size
same_window ts t w h =
    ap (λ os. numbered w (trimmed os))
    (same_octets 32 (λ i l. other_octet ts t w i (λ k m e. h (omega (arith, e, l, m)))))
  where
    same_octets : (n : ℕ) → ((i : ℕ) → i < n → octet_of (t ∷ ts) w i ≡ octet_of ts w i) → map (octet_of (t ∷ ts) w) (below n) ≡ map (octet_of ts w) (below n)
    same_octets zero f = refl
    same_octets (suc n) f =
        map-append (octet_of (t ∷ ts) w) (below n) (n ∷ [])
        ∙ (λ i. same_octets n (λ j l. f j (omega (arith, l))) i ++ f n (omega arith) i ∷ [])
        ∙ sym (map-append (octet_of ts w) (below n) (n ∷ []))

pub same_before : (ts : List ℕ) (t w : ℕ) → w ≤ t / 256 → windows_before (t ∷ ts) w ≡ windows_before ts w
same_before ts t zero h = refl
same_before ts t (suc w) h =
    flat_map-append (window (t ∷ ts)) (below w) (w ∷ [])
    ∙ (λ i. same_before ts t w (omega arith) i ++ (same_window ts t w (λ e. omega (arith, e, h)) i ++ []))
    ∙ sym (flat_map-append (window ts) (below w) (w ∷ []))

same_from : (ts : List ℕ) (t a n : ℕ) → t / 256 < a → flat_map (window (t ∷ ts)) (from a n) ≡ flat_map (window ts) (from a n)
same_from ts t a zero h = refl
same_from ts t a (suc n) h = λ i. same_window ts t a (λ e. omega (arith, e, h)) i ++ same_from ts t (suc a) n (omega arith) i

pub same_after : (ts : List ℕ) (t : ℕ) → windows_after (t ∷ ts) (t / 256) ≡ windows_after ts (t / 256)
same_after ts t = same_from ts t (suc (t / 256)) (255 - t / 256) (omega arith)

-- ---- the window of the type

pub length-zeros : (n : ℕ) → length (zeros n) ≡ n
length-zeros zero = refl
length-zeros (suc n) = ap suc (length-zeros n)

pub length-padded : (os : List ℕ) (n : ℕ) → length (padded os n) ≡ length os + (n - length os)
length-padded os n = length-append os (zeros (n - length os)) ∙ ap (λ k. length os + k) (length-zeros (n - length os))

padded_nothing : (n : ℕ) → padded [] n ≡ zeros n
padded_nothing n = ap zeros {x = n - 0} {y = n} (omega arith)

padded_more : (x : ℕ) (os : List ℕ) (n : ℕ) → padded (x ∷ os) (suc n) ≡ x ∷ padded os n
padded_more x os n = ap (λ k. x ∷ (os ++ zeros k)) {x = suc n - suc (length os)} {y = n - length os} (omega arith)

abbrev kept : ℕ → List ℕ → List ℕ
kept b r = if (b == 0) && (length r == 0) then [] else b ∷ r

kept_some : (x : ℕ) (r : List ℕ) → 0 < length r → kept x r ≡ x ∷ r
kept_some x [] h = absurd (omega (arith, h))
kept_some x (y ∷ r) h = go (x == 0)
  where
    go : (b : Bool) → (if b && (length (y ∷ r) == 0) then [] else x ∷ y ∷ r) ≡ x ∷ y ∷ r
    go true = ap (λ b. if b then [] else x ∷ y ∷ r) (not_empty y r)
    go false = refl

kept_not_zero : (x : ℕ) (r : List ℕ) → 0 < x → kept x r ≡ x ∷ r
kept_not_zero x r h = ap (λ b. if b && (length r == 0) then [] else x ∷ r) (ne_eqb x 0 (λ e. omega (arith, e, h)))

-- an octet that is not zero is put into a window
pub trimmed_set : (xs : List ℕ) (i v : ℕ) → i < length xs → 0 < v → trimmed (set xs i v) ≡ set (padded (trimmed xs) (suc i)) i v
trimmed_set [] i v h some = absurd (omega (arith, h))
trimmed_set (x ∷ xs) zero v h some = kept_not_zero v (trimmed xs) some ∙ go (trimmed xs) (x == 0)
  where
    go : (r : List ℕ) (b : Bool) → v ∷ r ≡ set (padded (if b && (length r == 0) then [] else x ∷ r) 1) 0 v
    go [] true = ap (λ p. set p 0 v) (sym (padded_nothing 1))
    go [] false = ap (λ p. set p 0 v) {x = x ∷ []} (sym (padded_more x [] 0))
    go (y ∷ r) b =
        ap (λ t. v ∷ t) (sym (padded_enough (y ∷ r)))
        ∙ ap (λ p. set p 0 v) (sym (padded_more x (y ∷ r) 0)) ∙ ap (λ t. set (padded (if t then [] else x ∷ y ∷ r) 1) 0 v) (sym (both_false b (not_empty y r)))
      where
        padded_enough : (os : List ℕ) → padded os 0 ≡ os
        padded_enough os = ap (λ k. os ++ zeros k) {x = 0 - length os} {y = 0} (omega arith) ∙ append-nil os

        both_false : (b : Bool) {c : Bool} → c ≡ false → (b && c) ≡ false
        both_false true e = e
        both_false false e = refl
trimmed_set (x ∷ xs) (suc i) v h some =
    let inner : trimmed (set xs i v) ≡ set (padded (trimmed xs) (suc i)) i v = trimmed_set xs i v (omega (arith, h)) some in
    let long : 0 < length (set (padded (trimmed xs) (suc i)) i v) = omega (arith, length-set (padded (trimmed xs) (suc i)) i v, length-padded (trimmed xs) (suc i)) in
    ap (kept x) inner ∙ kept_some x (set (padded (trimmed xs) (suc i)) i v) long ∙ go (trimmed xs) (x == 0) refl
  where
    go : (r : List ℕ) (b : Bool) → (x == 0) ≡ b → x ∷ set (padded r (suc i)) i v ≡ set (padded (if b && (length r == 0) then [] else x ∷ r) (suc (suc i))) (suc i) v
    go [] true e =
        (λ j. eqb-true x 0 e j ∷ set (padded_nothing (suc i) j) i v) ∙ ap (λ p. set p (suc i) v) (sym (padded_nothing (suc (suc i))))
    go [] false e = ap (λ p. set p (suc i) v) (sym (padded_more x [] (suc i)))
    go (y ∷ r) true e = ap (λ p. set p (suc i) v) (sym (padded_more x (y ∷ r) (suc i))) ∙ ap (λ t. set (padded (if t then [] else x ∷ y ∷ r) (suc (suc i))) (suc i) v) (sym (not_empty y r))
    go (y ∷ r) false e = ap (λ p. set p (suc i) v) (sym (padded_more x (y ∷ r) (suc i)))

set_more : (xs : List ℕ) (y i v : ℕ) → i < length xs → set (xs ++ y ∷ []) i v ≡ set xs i v ++ y ∷ []
set_more xs y i v h = set-append_left xs (y ∷ []) i v h

-- the octets of the type's window before their zeros are dropped
put_octets : (f g : ℕ → ℕ) (n i v : ℕ) → i < n → v ≡ g i → ((j : ℕ) → (j ≡ i → ⊥) → g j ≡ f j) → map g (below n) ≡ set (map f (below n)) i v
put_octets f g zero i v h e same = absurd (omega (arith, h))
put_octets f g (suc n) i v h e same =
    let len : length (map f (below n)) ≡ n = length-map (below n) f ∙ length-below n in
    map-append g (below n) (n ∷ []) ∙ elim (cases_lt i n) [
      | inl lt ↦
          (λ k. put_octets f g n i v lt e same k ++ same n (λ q. omega (arith, q, lt)) k ∷ [])
          ∙ sym (set_more (map f (below n)) (f n) i v (omega (arith, lt, len))) ∙ ap (λ xs. set xs i v) (sym (map-append f (below n) (n ∷ [])))
      | inr le ↦
          let q : i ≡ n = omega (arith, h, le) in
          (λ k. below_same n (λ j l. same j (λ z. omega (arith, z, q, l))) k ++ (ap g (sym q) ∙ sym e) k ∷ [])
          ∙ sym (set-append_seam (map f (below n)) (f n) [] v)
          ∙ (λ k. set (sym (map-append f (below n) (n ∷ [])) k) ((len ∙ sym q) k) v)
    ]
  where
    below_same : (m : ℕ) → ((j : ℕ) → j < m → g j ≡ f j) → map g (below m) ≡ map f (below m)
    below_same zero s = refl
    below_same (suc m) s = map-append g (below m) (m ∷ []) ∙ (λ k. below_same m (λ j l. s j (omega (arith, l))) k ++ s m (omega arith) k ∷ []) ∙ sym (map-append f (below m) (m ∷ []))

-- the window of the type, with its bit
pub window_with : (ts : List ℕ) (t : ℕ) →
    window_octets (t ∷ ts) (t / 256) ≡ set (padded (window_octets ts (t / 256)) (t % 256 / 8 + 1)) (t % 256 / 8) (with_bit (octet_of ts (t / 256) (t % 256 / 8)) (t % 8))
unfolding window_size
window_with ts t =
    let w : ℕ = t / 256 in
    let i : ℕ = t % 256 / 8 in
    let v : ℕ = with_bit (octet_of ts w i) (t % 8) in
    let put = put_octets (octet_of ts w) (octet_of (t ∷ ts) w) 32 i v (omega arith)
    (sym (this_octet ts t w i (t % 8) (omega arith) (omega arith)))
    (λ j h. other_octet ts t w j (λ k l e. h (omega (arith, l, e)))) in
    ap trimmed put
    ∙ trimmed_set (map (octet_of ts w) (below 32)) i v (omega (arith, length-map (below 32) (octet_of ts w), length-below 32)) (bit_is_some (octet_of ts w i) (t % 8))
    ∙ ap (λ n. set (padded (window_octets ts w) n) i v) {x = suc i} {y = i + 1} (omega arith)

trimmed_zero : (xs : List ℕ) → trimmed (xs ++ 0 ∷ []) ≡ trimmed xs
trimmed_zero [] = refl
trimmed_zero (x ∷ xs) = ap (kept x) (trimmed_zero xs)

octet_of_none : (w i : ℕ) → octet_of [] w i ≡ 0
unfolding octet_of
octet_of_none w i = refl

no_octets : (w n : ℕ) → trimmed (map (octet_of [] w) (below n)) ≡ []
no_octets w zero = refl
no_octets w (suc n) =
    ap trimmed (map-append (octet_of [] w) (below n) (n ∷ []) ∙ ap (λ o. map (octet_of [] w) (below n) ++ o ∷ []) (octet_of_none w n))
    ∙ trimmed_zero (map (octet_of [] w) (below n)) ∙ no_octets w n

no_windows : (n : ℕ) → flat_map (window []) (below n) ≡ []
unfolding window_size
no_windows zero = refl
no_windows (suc n) = flat_map-append (window []) (below n) (n ∷ []) ∙ (λ i. no_windows n i ++ (numbered n (no_octets n 32 i) ++ []))

-- nothing added is no octets
pub no_types : bitmap [] ≡ []
unfolding window_count
no_types = no_windows 256

-- ---- room in a window

-- zeros for a window that is not there, its number and its length then written
new_window : (front back : List ℕ) (w n : ℕ) →
    set (set (front ++ (zeros (2 + n) ++ back)) (length front) w) (length front + 1) n ≡ front ++ ((w ∷ n ∷ zeros n) ++ back)
new_window front back w n =
    ap (λ xs. set (set (front ++ (xs ++ back)) (length front) w) (length front + 1) n) {x = zeros (2 + n)} {y = 0 ∷ 0 ∷ zeros n} (ap zeros {x = 2 + n} {y = suc (suc n)} (omega arith))
    ∙ ap (λ xs. set xs (length front + 1) n) (set-append_seam front 0 (0 ∷ (zeros n ++ back)) w)
    ∙ set-append_right front (w ∷ 0 ∷ (zeros n ++ back)) (length front) (length front + 1) n refl (omega arith)
    ∙ ap (λ k. front ++ set (w ∷ 0 ∷ (zeros n ++ back)) k n) {x = length front + 1 - length front} {y = 1} (omega arith)

-- zeros behind a window, its length then written
longer_window : (front os back : List ℕ) (w n k : ℕ) →
    set (inserted (front ++ ((w ∷ length os ∷ os) ++ back)) (length front + 2 + length os) (zeros k)) (length front + 1) n ≡ front ++ ((w ∷ n ∷ (os ++ zeros k)) ++ back)
longer_window front os back w n k =
    let whole = front ++ (w ∷ length os ∷ os) in
    let place : length front + 2 + length os ≡ length whole = omega (arith, length-append front (w ∷ length os ∷ os)) in
    let apart : front ++ ((w ∷ length os ∷ os) ++ back) ≡ whole ++ back = sym (append_assoc front (w ∷ length os ∷ os) back) in
    ap (λ xs. set xs (length front + 1) n)
    ((λ i. inserted (apart i) (place i) (zeros k))
    ∙ (λ i. take-append_seam whole back i ++ (zeros k ++ drop-append_seam whole back i))
    ∙ append_assoc front (w ∷ length os ∷ os) (zeros k ++ back)
    ∙ ap (λ xs. front ++ (w ∷ length os ∷ xs)) (sym (append_assoc os (zeros k) back)))
    ∙ set-append_right front (w ∷ length os ∷ ((os ++ zeros k) ++ back)) (length front) (length front + 1) n refl (omega arith)
    ∙ ap (λ j. front ++ set (w ∷ length os ∷ ((os ++ zeros k) ++ back)) j n) {x = length front + 1 - length front} {y = 1} (omega arith)

length-nothing : (os : List ℕ) → length os ≡ 0 → os ≡ []
length-nothing [] h = refl
length-nothing (o ∷ os) h = absurd (omega (arith, h))

around_none : (ts : List ℕ) (w : ℕ) → w < 256 → length (window_octets ts w) ≡ 0 → bitmap ts ≡ windows_before ts w ++ windows_after ts w
around_none ts w h none = bitmap_around ts w h ∙ ap (λ os. windows_before ts w ++ (numbered w os ++ windows_after ts w)) (length-nothing (window_octets ts w) none)

around_some : (ts : List ℕ) (w : ℕ) → w < 256 → 0 < length (window_octets ts w) → bitmap ts ≡ windows_before ts w ++ ((w ∷ length (window_octets ts w) ∷ window_octets ts w) ++ windows_after ts w)
around_some ts w h some = bitmap_around ts w h ∙ ap (λ xs. windows_before ts w ++ (xs ++ windows_after ts w)) (numbered_some w (window_octets ts w) some)

-- room where the window is not there
pub room_new : (ts : List ℕ) (w n place : ℕ) → w < 256 → place ≡ length (windows_before ts w) → length (window_octets ts w) ≡ 0 →
    set (set (inserted (bitmap ts) place (zeros (2 + n))) place w) (place + 1) n ≡ roomy ts w n
room_new ts w n place h at none =
    let front = windows_before ts w in
    let back = windows_after ts w in
    let fill : padded (window_octets ts w) n ≡ zeros n = ap (λ os. padded os n) (length-nothing (window_octets ts w) none) ∙ padded_nothing n in
    (λ i. set (set (inserted (around_none ts w h none i) (at i) (zeros (2 + n))) (at i) w) (at i + 1) n)
    ∙ (λ i. set (set (take-append_seam front back i ++ (zeros (2 + n) ++ drop-append_seam front back i)) (length front) w) (length front + 1) n)
    ∙ new_window front back w n
    ∙ ap (λ k. front ++ ((w ∷ k ∷ zeros n) ++ back)) (sym (length-zeros n))
    ∙ ap (λ os. front ++ ((w ∷ length os ∷ os) ++ back)) (sym fill)

-- room where it is too short
pub room_more : (ts : List ℕ) (w n place : ℕ) → w < 256 → place ≡ length (windows_before ts w) → 0 < length (window_octets ts w) → length (window_octets ts w) ≤ n →
    set (inserted (bitmap ts) (place + 2 + length (window_octets ts w)) (zeros (n - length (window_octets ts w)))) (place + 1) n ≡ roomy ts w n
room_more ts w n place h at some few =
    let front = windows_before ts w in
    let back = windows_after ts w in
    let os = window_octets ts w in
    let long : n ≡ length (padded os n) = omega (arith, length-padded os n, few) in
    (λ i. set (inserted (around_some ts w h some i) (at i + 2 + length os) (zeros (n - length os))) (at i + 1) n)
    ∙ longer_window front os back w n (n - length os)
    ∙ ap (λ k. front ++ ((w ∷ k ∷ padded os n) ++ back)) long

padded_enough : (os : List ℕ) (n : ℕ) → n ≤ length os → padded os n ≡ os
padded_enough os n h = ap (λ k. os ++ zeros k) {x = n - length os} {y = 0} (omega (arith, h)) ∙ append-nil os

-- where it is long enough
pub room_enough : (ts : List ℕ) (w n : ℕ) → w < 256 → 0 < n → n ≤ length (window_octets ts w) → bitmap ts ≡ roomy ts w n
room_enough ts w n h some enough =
    around_some ts w h (omega (arith, some, enough))
    ∙ ap (λ os. windows_before ts w ++ ((w ∷ length os ∷ os) ++ windows_after ts w)) (sym (padded_enough (window_octets ts w) n enough))

-- ---- the bit is written

index_padded : (os : List ℕ) (n i : ℕ) → slice_index (padded os n) i ≡ slice_index os i
index_padded [] n i = ap (λ xs. slice_index xs i) (padded_nothing n) ∙ zeros_index n i
  where
    zeros_index : (n i : ℕ) → slice_index (zeros n) i ≡ slice_index [] i
    zeros_index zero i = refl
    zeros_index (suc n) zero = refl
    zeros_index (suc n) (suc i) = zeros_index n i
index_padded (o ∷ os) n zero = refl
index_padded (o ∷ os) n (suc i) = ap (λ k. slice_index (os ++ zeros k) i) {x = n - suc (length os)} {y = (n - 1) - length os} (omega arith) ∙ index_padded os (n - 1) i

-- the octet of a bitmap with room
octet_at : (ts : List ℕ) (w n i : ℕ) → i < n → i < 32 → slice_index (roomy ts w n) (length (windows_before ts w) + 2 + i) ≡ octet_of ts w i
unfolding window_size
octet_at ts w n i h small =
    let os = window_octets ts w in
    let front = windows_before ts w in
    let back = windows_after ts w in
    let p = padded os n in
    ap (slice_index (roomy ts w n)) {x = length front + 2 + i} {y = length front + (2 + i)} (omega arith)
    ∙ get_or-append-add front ((w ∷ length p ∷ p) ++ back) (2 + i) 0
    ∙ ap (slice_index (w ∷ length p ∷ (p ++ back))) {x = 2 + i} {y = suc (suc i)} (omega arith)
    ∙ get_or-append p back 0 i (omega (arith, h, length-padded os n))
    ∙ index_padded os n i ∙ index-trimmed (map (octet_of ts w) (below 32)) i ∙ index_map_below (octet_of ts w) 32 i small

set_inside : (front os back : List ℕ) (w i v : ℕ) → i < length os →
    set (front ++ ((w ∷ length os ∷ os) ++ back)) (length front + 2 + i) v ≡ front ++ ((w ∷ length (set os i v) ∷ set os i v) ++ back)
set_inside front os back w i v h =
    set-append_right front ((w ∷ length os ∷ os) ++ back) (length front) (length front + 2 + i) v refl (omega arith)
    ∙ ap (λ k. front ++ set (w ∷ length os ∷ (os ++ back)) k v) {x = length front + 2 + i - length front} {y = suc (suc i)} (omega arith)
    ∙ ap (λ xs. front ++ (w ∷ length os ∷ xs)) (set-append_left os back i v h)
    ∙ ap (λ k. front ++ (w ∷ k ∷ (set os i v ++ back))) (sym (length-set os i v))

-- the bitmap of one type more
pub bit_written : (ts : List ℕ) (t place : ℕ) → t < 65536 → place ≡ length (windows_before ts (t / 256)) + 2 + t % 256 / 8 →
    set (roomy ts (t / 256) (t % 256 / 8 + 1)) place (with_bit (slice_index (roomy ts (t / 256) (t % 256 / 8 + 1)) place) (t % 8)) ≡ bitmap (t ∷ ts)
bit_written ts t place small at =
    let w : ℕ = t / 256 in
    let i : ℕ = t % 256 / 8 in
    let os = window_octets ts w in
    let p = padded os (i + 1) in
    let v : ℕ = with_bit (octet_of ts w i) (t % 8) in
    let long : i < length p = omega (arith, length-padded os (i + 1)) in
    let this : set p i v ≡ window_octets (t ∷ ts) w = sym (window_with ts t) in
    let some : 0 < length (window_octets (t ∷ ts) w) = omega (arith, sym (ap length this) ∙ length-set p i v, long) in
    (λ k. set (roomy ts w (i + 1)) (at k) (with_bit (slice_index (roomy ts w (i + 1)) (at k)) (t % 8)))
    ∙ ap (λ o. set (roomy ts w (i + 1)) (length (windows_before ts w) + 2 + i) (with_bit o (t % 8))) (octet_at ts w (i + 1) i (omega arith) (omega arith))
    ∙ set_inside (windows_before ts w) p (windows_after ts w) w i v long
    ∙ (λ k. sym (same_before ts t w (omega arith)) k ++ ((w ∷ length (this k) ∷ this k) ++ sym (same_after ts t) k))
    ∙ sym (around_some (t ∷ ts) w (omega (arith, small)) some)

-- ---- places

pub length-inserted : (xs zs : List ℕ) (place : ℕ) → place ≤ length xs → length (inserted xs place zs) ≡ length xs + length zs
length-inserted xs zs place h =
    omega (arith, length-append (take place xs) (zs ++ drop place xs), length-append zs (drop place xs), length-append (take place xs) (drop place xs), ap length (take-append-drop place xs))

pub zeros_taken : (n m : ℕ) → n ≤ m → take n (zeros m) ≡ zeros n
zeros_taken zero m h = refl
zeros_taken (suc n) zero h = absurd (omega (arith, h))
zeros_taken (suc n) (suc m) h = ap (λ xs. 0 ∷ xs) (zeros_taken n m (omega (arith, h)))

-- a window lies within the octets
pub window_inside : (ts : List ℕ) (w : ℕ) → w < 256 → 0 < length (window_octets ts w) → length (windows_before ts w) + (2 + length (window_octets ts w)) ≤ length (bitmap ts)
window_inside ts w h some =
    let os = window_octets ts w in
    omega (arith, ap length (around_some ts w h some), length-append (windows_before ts w) ((w ∷ length os ∷ os) ++ windows_after ts w), length-append (w ∷ length os ∷ os) (windows_after ts w))

-- its octets do, where there is room
pub room_inside : (ts : List ℕ) (w n : ℕ) → length (windows_before ts w) + 2 + n ≤ length (roomy ts w n)
room_inside ts w n =
    let p = padded (window_octets ts w) n in
    omega (arith, length-append (windows_before ts w) ((w ∷ length p ∷ p) ++ windows_after ts w), length-append (w ∷ length p ∷ p) (windows_after ts w), length-padded (window_octets ts w) n)

-- zeros behind octets, turned to a place
pub turned : (old zs : List ℕ) (place : ℕ) → place ≤ length old →
    take place (old ++ zs) ++ (drop (length (drop place (old ++ zs)) - length zs) (drop place (old ++ zs)) ++ take (length (drop place (old ++ zs)) - length zs) (drop place (old ++ zs))) ≡ inserted old place zs
turned old zs place h =
    let tail : drop place (old ++ zs) ≡ drop place old ++ zs = drop-append-le place old zs h in
    let n : length (drop place old ++ zs) - length zs ≡ length (drop place old) = omega (arith, length-append (drop place old) zs) in
    (λ i. take-append-le place old zs h i ++ (drop (length (tail i) - length zs) (tail i) ++ take (length (tail i) - length zs) (tail i)))
    ∙ (λ i. take place old ++ (drop (n i) (drop place old ++ zs) ++ take (n i) (drop place old ++ zs)))
    ∙ (λ i. take place old ++ (drop-append_seam (drop place old) zs i ++ take-append_seam (drop place old) zs i))
