-- Lists without some of their items.
use Rattle.std.proofs.Common.{inl, inr, subst, ◌≡◌, ℕ, zero, get_or, suc, ◌+◌, ◌<◌, Bool, true, false, cond, not, filter, ◌||◌, if◌then◌else◌, List, [], ◌∷◌, length, refl, sym, ap, ◌∙◌, Some, arith}
use Rattle.std.specs.declared.cmp.Ordering.{Ordering}
use Rattle.std.specs.declared.cmp.Ordering.TheVariants.{Less}
use Rattle.std.specs.List.{AllByRecursion, list_any, remove}
use Rattle.std.specs.List.Sorted.{IsStrictlySortedBy}
use Rattle.std.proofs.lemmas.Bool.{cases_lt}
use Rattle.denial_sorted.proofs.Putting.{any_at}
use Rattle.denial_sorted.specs.Removing.{without_first, IsFirstOf}

module _ {A : Type 0} (p : A → Bool) where
  all_without : (P : A → Type 0) (xs : List A) → AllByRecursion P xs → AllByRecursion P (without_first p xs)
  all_without P [] h = tt
  all_without P (x ∷ xs) h = elim (p x) as (λ t. AllByRecursion P (if t then xs else x ∷ without_first p xs)) [ true ↦ h.1 | false ↦ (h.0, all_without P xs h.1) ]

  pub without_rises : (cmp : A → A → Ordering) (xs : List A) → IsStrictlySortedBy cmp xs → IsStrictlySortedBy cmp (without_first p xs)
  unfolding IsStrictlySortedBy
  without_rises cmp [] h = tt
  without_rises cmp (x ∷ xs) h = elim (p x) as (λ t. IsStrictlySortedBy cmp (if t then xs else x ∷ without_first p xs)) [ true ↦ h.1 | false ↦ (all_without (λ y. cmp x y ≡ Less) xs h.0, without_rises cmp xs h.1) ]

  pub without_none : (xs : List A) → list_any p xs ≡ false → xs ≡ without_first p xs
  without_none [] h = refl
  without_none (x ∷ xs) h = go (p x) (λ e. without_none xs e) h
    where
      go : (t : Bool) → (list_any p xs ≡ false → xs ≡ without_first p xs) → (t || list_any p xs) ≡ false → x ∷ xs ≡ (if t then xs else x ∷ without_first p xs)
      go true f e = absurd cc
      go false f e = ap (λ ys. x ∷ ys) (f e)

  -- the first that passes is behind those that don't
  pub first_at : (xs : List A) (i : ℕ) → i < length xs → ((k : ℕ) (d : A) → k < i → p (get_or xs k d) ≡ false) → ((d : A) → p (get_or xs i d) ≡ true) → IsFirstOf p xs (Some i)
  first_at xs i l before at = (l, any_at p xs i l at, removed xs i l before at)
    where
      removed : (xs : List A) (i : ℕ) → i < length xs → ((k : ℕ) (d : A) → k < i → p (get_or xs k d) ≡ false) → ((d : A) → p (get_or xs i d) ≡ true) → remove xs i ≡ without_first p xs
      removed [] i l before at = absurd (omega arith)
      removed (x ∷ xs) zero l before at = ap (λ t. if t then xs else x ∷ without_first p xs) (sym (at x))
      removed (x ∷ xs) (suc i) l before at =
          ap (λ ys. x ∷ ys) (removed xs i (omega arith) (λ k d b. before (suc k) d (omega arith)) at)
          ∙ ap (λ t. if t then xs else x ∷ without_first p xs) (sym (before 0 x (omega arith)))

  -- one more that doesn't pass
  pub more_fail : (xs : List A) (i : ℕ) → ((k : ℕ) (d : A) → k < i → p (get_or xs k d) ≡ false) → ((d : A) → p (get_or xs i d) ≡ false) → (k : ℕ) (d : A) → k < i + 1 → p (get_or xs k d) ≡ false
  more_fail xs i before at k d l = elim (cases_lt k i) [
    | inl b ↦ before k d b
    | inr b ↦ let e : i ≡ k = omega arith in let P : ℕ → Type 0 = λ n. p (get_or xs n d) ≡ false in subst P e (at d)
  ]

  pub removed_at : (ys xs : List A) (i : ℕ) → ys ≡ xs → IsFirstOf p ys (Some i) → remove xs i ≡ without_first p xs
  removed_at ys xs i e h = ap (λ zs. remove zs i) (sym e) ∙ h.2 ∙ ap (without_first p) e

  -- where none passes, all are kept
  pub kept_all : (xs : List A) → list_any p xs ≡ false → xs ≡ filter (λ x. not (p x)) xs
  kept_all [] h = refl
  kept_all (x ∷ xs) h = go (p x) (λ e. kept_all xs e) h
    where
      go : (t : Bool) → (list_any p xs ≡ false → xs ≡ filter (λ x. not (p x)) xs) → (t || list_any p xs) ≡ false → x ∷ xs ≡ cond (not t) (x ∷ filter (λ x. not (p x)) xs) (filter (λ x. not (p x)) xs)
      go true f e = absurd cc
      go false f e = ap (λ ys. x ∷ ys) (f e)
