-- Items of lists that are put together.
use Rattle.std.proofs.Common.{◌≡◌, ℕ, zero, suc, ◌<◌, List, [], ◌∷◌, ◌++◌, length, get_or, sym, inl, inr, ⊎_elim, arith}
use Rattle.std.specs.List.{Contains}
use Rattle.messages.proofs.Lists.{Has}

has_at : {A : Type 0} (xs : List A) (x : A) (k : ℕ) → k < length xs → get_or xs k x ≡ x → Has xs x
has_at [] x k h e = absurd (omega arith)
has_at (y ∷ ys) x zero h e = inl (sym e)
has_at (y ∷ ys) x (suc k) h e = inr (has_at ys x k (omega arith) e)

pub has_contained : {A : Type 0} (xs : List A) (x : A) → Contains xs x → Has xs x
has_contained xs x c = has_at xs x c.0 c.1 c.2

pub contained_has : {A : Type 0} (xs : List A) (x : A) → Has xs x → Contains xs x
contained_has [] x h = absurd h
contained_has (y ∷ ys) x h = elim h [
  | inl e ↦ (0, omega arith, sym e)
  | inr later ↦ let c : Contains ys x = contained_has ys x later in (suc c.0, omega (arith, c.1), c.2)
]

pub has_left : {A : Type 0} (xs ys : List A) (a : A) → Has xs a → Has (xs ++ ys) a
has_left [] ys a h = absurd h
has_left (x ∷ xs) ys a h = ⊎_elim (λ e. inl e) (λ k. inr (has_left xs ys a k)) h

pub has_right : {A : Type 0} (xs ys : List A) (a : A) → Has ys a → Has (xs ++ ys) a
has_right [] ys a h = h
has_right (x ∷ xs) ys a h = inr (has_right xs ys a h)
