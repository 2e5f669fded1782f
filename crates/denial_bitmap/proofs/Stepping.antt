-- The types of a bitmap, one after another.
use Rattle.std.proofs.Common.{◌≡◌, ℕ, suc, ◌+◌, ◌-◌, ◌*◌, ◌<◌, ◌≤◌, Bool, true, false, List, [], ◌∷◌, ◌++◌, length, filter, Option, Some, None, refl, sym, ap, ◌∙◌, arith}
use Rattle.std.specs.Prelude.{if◌then◌else◌}
use Rattle.std.specs.List.{flat_map}
use Rattle.std.specs.Option.{is_some}
use Rattle.std.proofs.lemmas.Bool.{eqb-true}
use Rattle.definitions.specs.Bitmap.{bit_in, windows, is_bitmap}
use Rattle.definitions.specs.Windows.{Split, first_window}
use Rattle.definitions.proofs.PlainBitmaps.{windows-first, behind_first, is_bitmap-none}
use Rattle.denial_bitmap.specs.Padding.{from}
use Rattle.denial_bitmap.specs.Types.{bits_from, types_from, types_in}

filter_yes : (p : ℕ → Bool) (x : ℕ) (xs : List ℕ) → p x ≡ true → filter p (x ∷ xs) ≡ x ∷ filter p xs
filter_yes p x xs h = ap (λ b. if b then x ∷ filter p xs else filter p xs) h

filter_no : (p : ℕ → Bool) (x : ℕ) (xs : List ℕ) → p x ≡ false → filter p (x ∷ xs) ≡ filter p xs
filter_no p x xs h = ap (λ b. if b then x ∷ filter p xs else filter p xs) h

begun : (os : List ℕ) (k : ℕ) → k < 8 * length os → bits_from os k ≡ filter (bit_in os) (k ∷ from (suc k) (8 * length os - (k + 1)))
begun os k h = ap (λ n. filter (bit_in os) (from k n)) {x = 8 * length os - k} {y = suc (8 * length os - (k + 1))} (omega (arith, h))

next_bits : (os : List ℕ) (k : ℕ) → filter (bit_in os) (from (suc k) (8 * length os - (k + 1))) ≡ bits_from os (k + 1)
next_bits os k = ap (λ j. filter (bit_in os) (from j (8 * length os - (k + 1)))) {x = suc k} {y = k + 1} (omega arith)

pub bit_set : (os : List ℕ) (k : ℕ) → k < 8 * length os → bit_in os k ≡ true → bits_from os k ≡ k ∷ bits_from os (k + 1)
bit_set os k h b = begun os k h ∙ filter_yes (bit_in os) k (from (suc k) (8 * length os - (k + 1))) b ∙ ap (λ xs. k ∷ xs) (next_bits os k)

pub bit_clear : (os : List ℕ) (k : ℕ) → k < 8 * length os → bit_in os k ≡ false → bits_from os k ≡ bits_from os (k + 1)
bit_clear os k h b = begun os k h ∙ filter_no (bit_in os) k (from (suc k) (8 * length os - (k + 1))) b ∙ next_bits os k

pub bits_end : (os : List ℕ) (k : ℕ) → 8 * length os ≤ k → bits_from os k ≡ []
bits_end os k h = ap (λ n. filter (bit_in os) (from k n)) {x = 8 * length os - k} {y = 0} (omega (arith, h))

abbrev types_of : Option (List (ℕ × List ℕ)) → List ℕ
types_of o = elim o [ None ↦ [] | Some ws ↦ flat_map (λ w. types_from w.0 w.1 0) ws ]

types_behind : (s : Split) (o : Option (List (ℕ × List ℕ))) → is_some o ≡ true → types_of (behind_first s o) ≡ types_from s.number s.octets 0 ++ types_of o
types_behind s None h = cc
types_behind s (Some ws) h = refl

-- the window at the front, and the others
pub types-first : (bs : List ℕ) (s : Split) → first_window bs ≡ Some s → is_bitmap s.rest ≡ true → types_in bs ≡ types_from s.number s.octets 0 ++ types_in s.rest
types-first bs s h some = ap types_of (windows-first bs s h) ∙ types_behind s (windows s.rest) some

-- no window
pub types-none : (bs : List ℕ) → first_window bs ≡ None → is_bitmap bs ≡ true → types_in bs ≡ []
types-none [] h b = refl
types-none (x ∷ bs) h b = absurd (omega (arith, eqb-true (length (x ∷ bs)) 0 (sym (is_bitmap-none (x ∷ bs) h) ∙ b)))
