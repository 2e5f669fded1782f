-- How many of a list pass a test, and how many lists of lists have.
use Rattle.std.proofs.Common.{◌≡◌, ℕ, suc, ◌+◌, ◌*◌, ◌<◌, ◌≤◌, length, Bool, true, false, cond, List, [], ◌∷◌, refl, sym, ap, subst, ◌∙◌, inl, inr, arith, length-append, suc-mul, zero-mul}
use Rattle.std.specs.Prelude.{filter, sum_by}
use Rattle.std.specs.List.{flat_map}
use Rattle.std.proofs.lemmas.Bool.{false≢true}
use Rattle.std.proofs.lemmas.List.Sums.{sum_by-cons}
use Rattle.definitions.proofs.Members.{In}
use Rattle.walk_laws.proofs.Found.{in_back, in_front}

-- ---- those that pass a test

pub passing : {X : Type 0} → (X → Bool) → List X → ℕ
passing p xs = length (filter p xs)

passing_none : {X : Type 0} (p : X → Bool) → passing p [] ≡ 0
unfolding passing
passing_none p = refl

one_more : {X : Type 0} (p : X → Bool) (x : X) (xs : List X) → p x ≡ true → passing p (x ∷ xs) ≡ suc (passing p xs)
unfolding passing
one_more p x xs e = ap (λ b. length (cond b (x ∷ filter p xs) (filter p xs))) e

as_many : {X : Type 0} (p : X → Bool) (x : X) (xs : List X) → p x ≡ false → passing p (x ∷ xs) ≡ passing p xs
unfolding passing
as_many p x xs e = ap (λ b. length (cond b (x ∷ filter p xs) (filter p xs))) e

pub few_pass : {X : Type 0} (p : X → Bool) (xs : List X) → passing p xs ≤ length xs
few_pass p [] = omega (arith, passing_none p)
few_pass p (x ∷ xs) = go (p x) refl (few_pass p xs)
  where
    go : (b : Bool) → p x ≡ b → passing p xs ≤ length xs → passing p (x ∷ xs) ≤ length (x ∷ xs)
    go true e rest = omega (arith, rest, one_more p x xs e)
    go false e rest = omega (arith, rest, as_many p x xs e)

-- fewer pass a test that implies another
pub fewer_pass : {X : Type 0} (p r : X → Bool) (xs : List X) → ((x : X) → r x ≡ true → p x ≡ true) → passing r xs ≤ passing p xs
fewer_pass p r [] implies = omega (arith, passing_none p, passing_none r)
fewer_pass p r (x ∷ xs) implies = go (p x) (r x) refl refl (fewer_pass p r xs implies)
  where
    go : (a b : Bool) → p x ≡ a → r x ≡ b → passing r xs ≤ passing p xs → passing r (x ∷ xs) ≤ passing p (x ∷ xs)
    go true true e f rest = omega (arith, rest, one_more p x xs e, one_more r x xs f)
    go true false e f rest = omega (arith, rest, one_more p x xs e, as_many r x xs f)
    go false true e f rest = absurd (false≢true (sym e ∙ implies x f))
    go false false e f rest = omega (arith, rest, as_many p x xs e, as_many r x xs f)

-- one less at least, where one passes the one and not the other
pub less_pass : {X : Type 0} (p r : X → Bool) (xs : List X) (x : X) → ((y : X) → r y ≡ true → p y ≡ true) → In x xs → p x ≡ true → r x ≡ false → passing r xs < passing p xs
less_pass p r [] x implies there is other = absurd there
less_pass p r (y ∷ xs) x implies (inl same) is other =
    omega (arith, fewer_pass p r xs implies, one_more p y xs (ap p (sym same) ∙ is), as_many r y xs (ap r (sym same) ∙ other))
less_pass p r (y ∷ xs) x implies (inr later) is other = go (p y) (r y) refl refl (less_pass p r xs x implies later is other)
  where
    go : (a b : Bool) → p y ≡ a → r y ≡ b → passing r xs < passing p xs → passing r (y ∷ xs) < passing p (y ∷ xs)
    go true true e f rest = omega (arith, rest, one_more p y xs e, one_more r y xs f)
    go true false e f rest = omega (arith, rest, one_more p y xs e, as_many r y xs f)
    go false true e f rest = absurd (false≢true (sym e ∙ implies y f))
    go false false e f rest = omega (arith, rest, as_many p y xs e, as_many r y xs f)

-- ---- lists of lists

pub in_flat : {X Y : Type 0} (f : X → List Y) (xs : List X) (x : X) (y : Y) → In x xs → In y (f x) → In y (flat_map f xs)
in_flat f [] x y there of = absurd there
in_flat f (z ∷ xs) x y (inl same) of = in_front (f z) (flat_map f xs) y (subst (λ w. In y (f w)) same of)
in_flat f (z ∷ xs) x y (inr later) of = in_back (f z) (flat_map f xs) y (in_flat f xs x y later of)

flat_cons : {X Y : Type 0} (f : X → List Y) (x : X) (xs : List X) → length (flat_map f (x ∷ xs)) ≡ length (f x) + length (flat_map f xs)
flat_cons f x xs = length-append (f x) (flat_map f xs)

-- as many as of each
pub flat_length : {X Y : Type 0} (f : X → List Y) (n : ℕ) (xs : List X) → ((x : X) → length (f x) ≡ n) → length (flat_map f xs) ≡ length xs * n
flat_length f n [] each = sym (zero-mul n)
flat_length f n (x ∷ xs) each = omega (arith, flat_cons f x xs, each x, flat_length f n xs each, suc-mul (length xs) n)

-- no more than of each
pub flat_few : {X Y : Type 0} (f : X → List Y) (most : X → ℕ) (xs : List X) → ((x : X) → length (f x) ≤ most x) → length (flat_map f xs) ≤ sum_by most xs
flat_few f most [] each = omega arith
flat_few f most (x ∷ xs) each = omega (arith, flat_cons f x xs, each x, flat_few f most xs each, sum_by-cons most x xs)
