-- Lists in order have the items that were put in.
use Rattle.std.proofs.Common.{◌≡◌, ℕ, ◌<◌, Bool, true, false, List, [], ◌∷◌, Some, cond, length, arith, refl, sym, ap, subst, ◌∙◌, inl, inr, ⊎_elim, Ordering}
use Rattle.std.specs.declared.cmp.Ordering.TheVariants.{Less, Equal, Greater}
use Rattle.std.specs.List.{AllByRecursion, filter, find}
use Rattle.std.specs.Cmp.Lexicographic.{slice_cmp}
use Rattle.std.specs.FinMap.{nat_cmp-IsAntisymmetric, slice_cmp-IsAntisymmetric}
use Rattle.std.specs.Ordering.{nat_cmp}
use Rattle.std.specs.Prelude.{⊤}
use Rattle.std.proofs.lemmas.Bool.{cases_Bool, cond-true, cond-false, true≢false}
use Rattle.std.proofs.lemmas.Cmp.{nat_list_cmp_total}
use Rattle.definitions.proofs.Members.{In, sort_same}
use Rattle.definitions.specs.Sorting.{put_by, put_all_by, sort_by}
use Rattle.definitions.specs.Zone.{sorted_data}
use Rattle.messages.proofs.Lists.{Has, all_at, all_more, all_put, all_sorted}

-- ---- items

pub each_has : {A : Type 0} (xs : List A) → AllByRecursion (λ x. Has xs x) xs
each_has [] = tt
each_has (x ∷ xs) = (inl refl, all_more (λ y. Has xs y) (λ y. Has (x ∷ xs) y) xs (λ y h. inr h) (each_has xs))

pub all_has : {A : Type 0} (P : A → Type 0) (xs : List A) → ((x : A) → Has xs x → P x) → AllByRecursion P xs
all_has P xs f = all_more (λ x. Has xs x) P xs f (each_has xs)

-- an item in order was put in
pub sorted_from : {A : Type 0} (cmp : A → A → Ordering) (xs : List A) (x : A) → Has (sort_by cmp xs) x → Has xs x
sorted_from cmp xs x h = all_at (λ y. Has xs y) (sort_by cmp xs) x (all_sorted (λ y. Has xs y) cmp xs (each_has xs)) h

has_put : {A : Type 0} (cmp : A → A → Ordering) (a : A) (xs : List A) (x : A) → Has xs x → Has (put_by cmp a xs) x
has_put cmp a [] x h = absurd h
has_put cmp a (b ∷ bs) x h =
    elim (cmp a b) as (λ o. Has (elim o [ Less ↦ a ∷ b ∷ bs | Equal ↦ b ∷ bs | Greater ↦ b ∷ put_by cmp a bs ]) x) [
      | Less ↦ inr h
      | Equal ↦ h
      | Greater ↦ ⊎_elim (λ e. inl e) (λ k. inr (has_put cmp a bs x k)) h
    ]

has_put_all : {A : Type 0} (cmp : A → A → Ordering) (into xs : List A) (x : A) → Has into x → Has (put_all_by cmp into xs) x
has_put_all cmp into [] x h = h
has_put_all cmp into (y ∷ xs) x h = has_put_all cmp (put_by cmp y into) xs x (has_put cmp y into x h)

-- where items that are equal in order are one item, each stays
module _ {A : Type 0} (cmp : A → A → Ordering) (P : A → Type 0) (exact : (a b : A) → P a → P b → cmp a b ≡ Equal → a ≡ b) where
  put_itself : (a : A) (xs : List A) → P a → AllByRecursion P xs → Has (put_by cmp a xs) a
  put_itself a [] p h = inl refl
  put_itself a (b ∷ bs) p h =
      elim (cmp a b) as (λ o. cmp a b ≡ o → Has (elim o [ Less ↦ a ∷ b ∷ bs | Equal ↦ b ∷ bs | Greater ↦ b ∷ put_by cmp a bs ]) a) [
        | Less ↦ λ e. inl refl
        | Equal ↦ λ e. inl (exact a b p h.0 e)
        | Greater ↦ λ e. inr (put_itself a bs p h.1)
      ] refl

  put_all_has : (into xs : List A) (x : A) → AllByRecursion P into → AllByRecursion P xs → Has xs x → Has (put_all_by cmp into xs) x
  put_all_has into [] x p q h = absurd h
  put_all_has into (y ∷ xs) x p q h = ⊎_elim
      (λ (e : x ≡ y). has_put_all cmp (put_by cmp y into) xs x (subst (λ z. Has (put_by cmp y into) z) (sym e) (put_itself y into q.0 p)))
      (λ (later : Has xs x). put_all_has (put_by cmp y into) xs x (all_put P cmp y into q.0 p) q.1 later)
      h

  pub sorted_has : (xs : List A) (x : A) → AllByRecursion P xs → Has xs x → Has (sort_by cmp xs) x
  sorted_has xs x p h = put_all_has [] xs x tt p h

-- ---- data in order

data_exact : (a b : List ℕ) → ⊤ → ⊤ → slice_cmp nat_cmp a b ≡ Equal → a ≡ b
data_exact a b s t e = slice_cmp-IsAntisymmetric nat_cmp-IsAntisymmetric a b e

pub data_has : (ds : List (List ℕ)) (d : List ℕ) → Has ds d → Has (sorted_data ds) d
data_has ds d h = sorted_has (slice_cmp nat_cmp) (λ _. ⊤) data_exact ds d (all_has (λ _. ⊤) ds (λ x _. tt)) h

pub in_has : {A : Type 0} (xs : List A) (x : A) → In x xs → Has xs x
in_has [] x h = absurd h
in_has (y ∷ ys) x h = ⊎_elim (λ e. inl e) (λ k. inr (in_has ys x k)) h

pub has_in : {A : Type 0} (xs : List A) (x : A) → Has xs x → In x xs
has_in [] x h = absurd h
has_in (y ∷ ys) x h = ⊎_elim (λ e. inl e) (λ k. inr (has_in ys x k)) h

pub some_length : (xs : List (List ℕ)) (x : List ℕ) → Has xs x → 0 < length xs
some_length [] x h = absurd h
some_length (y ∷ xs) x h = omega arith

-- data in order stay as they are
pub sorted_twice : (ds : List (List ℕ)) → sorted_data (sorted_data ds) ≡ sorted_data ds
sorted_twice ds =
    sort_same (slice_cmp nat_cmp) nat_list_cmp_total (slice_cmp-IsAntisymmetric nat_cmp-IsAntisymmetric) (sorted_data ds) ds
    (λ d i. has_in ds d (sorted_from (slice_cmp nat_cmp) ds d (in_has (sorted_data ds) d i)))
    (λ d i. has_in (sorted_data ds) d (data_has ds d (in_has ds d i)))

-- ---- what is kept

pub filter_has : {A : Type 0} (p : A → Bool) (xs : List A) (x : A) → Has xs x → p x ≡ true → Has (filter p xs) x
filter_has p [] x h e = absurd h
filter_has p (y ∷ ys) x h e = ⊎_elim
    (λ (q : x ≡ y). subst (λ zs. Has zs x) (sym (cond-true (p y) (y ∷ filter p ys) (filter p ys) (ap p (sym q) ∙ e))) (inl q))
    (λ (later : Has ys x).
    elim (p y) as (λ b. Has (cond b (y ∷ filter p ys) (filter p ys)) x) [
      | true ↦ inr (filter_has p ys x later e)
      | false ↦ filter_has p ys x later e
    ])
    h

filter_first : {A : Type 0} (b : Bool) (y : A) (ys zs : List A) (x : A) → (Has zs x → Has ys x) → Has (cond b (y ∷ zs) zs) x → Has (y ∷ ys) x
filter_first true y ys zs x f h = ⊎_elim (λ e. inl e) (λ k. inr (f k)) h
filter_first false y ys zs x f h = inr (f h)

pub filter_from : {A : Type 0} (p : A → Bool) (xs : List A) (x : A) → Has (filter p xs) x → Has xs x
filter_from p [] x h = absurd h
filter_from p (y ∷ ys) x h = filter_first (p y) y ys (filter p ys) x (λ k. filter_from p ys x k) h

-- the only item that passes is found
pub find_only : {A : Type 0} (p : A → Bool) (xs : List A) (x : A) → Has xs x → p x ≡ true → ((y : A) → Has xs y → p y ≡ true → y ≡ x) → find p xs ≡ Some x
find_only p [] x h e only = absurd h
find_only p (y ∷ ys) x h e only = ⊎_elim
    (λ (passes : p y ≡ true). cond-true (p y) (Some y) (find p ys) passes ∙ ap Some (only y (inl refl) passes))
    (λ (fails : p y ≡ false). cond-false (p y) (Some y) (find p ys) fails ∙ find_only p ys x (elsewhere fails) e (λ z k. only z (inr k)))
    (cases_Bool (p y))
  where
    elsewhere : p y ≡ false → Has ys x
    elsewhere fails = ⊎_elim (λ q. absurd (true≢false (sym e ∙ ap p q ∙ fails))) (λ k. k) h
