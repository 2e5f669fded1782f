-- Of fewer items no more groups begin.
use Rattle.std.proofs.Common.{◌≡◌, ℕ, ◌+◌, ◌≤◌, Bool, true, false, cond, if◌then◌else◌, List, [], ◌∷◌, length, filter, refl, ap, Option, Some, None, arith}
use Rattle.std.specs.Cmp.{IsEquivalence}
use Rattle.denial_sorted.specs.Removing.{without_first}
use Rattle.denial_rrsets.specs.Starts.{follows, starts_behind, starts_in}

abbrev step : Bool → ℕ
step true = 0
step false = 1

step_one : (t : Bool) → step t ≤ 1
step_one true = omega arith
step_one false = omega arith

module _ {A : Type 0} (alike : A → A → Bool) (o : IsEquivalence alike) where
  abbrev count : Option A → List A → ℕ
  count before [] = 0
  count before (x ∷ xs) = step (follows alike before x) + count (Some x) xs

  counted : (before : Option A) (n : ℕ) (xs : List A) → length (starts_behind alike before n xs) ≡ count before xs
  counted before n [] = refl
  counted before n (x ∷ xs) = go (follows alike before x) (counted (Some x) (n + 1) xs)
    where
      go : (t : Bool) → length (starts_behind alike (Some x) (n + 1) xs) ≡ count (Some x) xs → length (if t then starts_behind alike (Some x) (n + 1) xs else n ∷ starts_behind alike (Some x) (n + 1) xs) ≡ step t + count (Some x) xs
      go true h = omega arith
      go false h = omega arith

  -- 0 where what follows one follows the other
  abbrev apart : Option A → Option A → ℕ
  apart None None = 0
  apart None (Some y) = 1
  apart (Some x) None = 1
  apart (Some x) (Some y) = step (alike x y)

  apart_is : (q : Option A) (y : A) → apart q (Some y) ≡ step (follows alike q y)
  apart_is None y = refl
  apart_is (Some x) y = refl

  nearer : (q r : Option A) (y : A) → step (follows alike q y) ≤ step (follows alike r y) + apart q r
  nearer None None y = omega arith
  nearer None (Some x) y = omega arith
  nearer (Some z) None y = let a = step_one (alike z y) in omega arith
  nearer (Some z) (Some x) y = go (alike z x) refl
    where
      go : (t : Bool) → alike z x ≡ t → step (alike z y) ≤ step (alike x y) + step t
      go true e = let same = ap step (o.congr z x y e) in omega arith
      go false e = let a = step_one (alike z y) in omega arith

  own : (y : A) → apart (Some y) (Some y) ≡ 0
  own y = ap step (o.refl y)

  near_count : (q r : Option A) (xs : List A) → count q xs ≤ count r xs + apart q r
  near_count q r [] = omega arith
  near_count q r (y ∷ ys) = let a = nearer q r y in omega arith

  fewer : (p : A → Bool) (q r : Option A) (xs : List A) → count q (filter p xs) ≤ count r xs + apart q r
  fewer p q r [] = omega arith
  fewer p q r (y ∷ ys) = go (p y) (fewer p (Some y) (Some y) ys) (fewer p q (Some y) ys) (nearer q r y) (own y) (apart_is q y)
    where
      go : (t : Bool) → count (Some y) (filter p ys) ≤ count (Some y) ys + apart (Some y) (Some y) → count q (filter p ys) ≤ count (Some y) ys + apart q (Some y) → step (follows alike q y) ≤ step (follows alike r y) + apart q r → apart (Some y) (Some y) ≡ 0 → apart q (Some y) ≡ step (follows alike q y) → count q (cond t (y ∷ filter p ys) (filter p ys)) ≤ step (follows alike r y) + count (Some y) ys + apart q r
      go true a b c d e = omega arith
      go false a b c d e = omega arith

  fewer_without : (p : A → Bool) (q r : Option A) (xs : List A) → count q (without_first p xs) ≤ count r xs + apart q r
  fewer_without p q r [] = omega arith
  fewer_without p q r (y ∷ ys) = go (p y) (fewer_without p (Some y) (Some y) ys) (near_count q (Some y) ys) (nearer q r y) (own y) (apart_is q y)
    where
      go : (t : Bool) → count (Some y) (without_first p ys) ≤ count (Some y) ys + apart (Some y) (Some y) → count q ys ≤ count (Some y) ys + apart q (Some y) → step (follows alike q y) ≤ step (follows alike r y) + apart q r → apart (Some y) (Some y) ≡ 0 → apart q (Some y) ≡ step (follows alike q y) → count q (if t then ys else y ∷ without_first p ys) ≤ step (follows alike r y) + count (Some y) ys + apart q r
      go true a b c d e = omega arith
      go false a b c d e = omega arith

  pub fewer_kept : (p : A → Bool) (xs : List A) → length (starts_in alike (filter p xs)) ≤ length (starts_in alike xs)
  fewer_kept p xs = let a = counted None 0 (filter p xs) in let b = counted None 0 xs in let c = fewer p None None xs in omega arith

  pub fewer_left : (p : A → Bool) (xs : List A) → length (starts_in alike (without_first p xs)) ≤ length (starts_in alike xs)
  fewer_left p xs = let a = counted None 0 (without_first p xs) in let b = counted None 0 xs in let c = fewer_without p None None xs in omega arith
