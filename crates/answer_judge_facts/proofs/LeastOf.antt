-- The least of some numbers.
use Rattle.std.proofs.Common.{◌≡◌, ℕ, ◌≤◌, List, [], ◌∷◌, ◌++◌, ◌⊎◌, inl, inr, ⊎_elim, refl, sym, ap, subst, ◌∙◌, arith}
use Rattle.std.specs.Prelude.{min}
use Rattle.std.proofs.Math.Nat.{min-le_left, min-le_right}
use Rattle.messages.proofs.Lists.{Has}
use Rattle.answer_judge_facts.specs.Validity.{least}

at_most : (a b c : ℕ) → a ≤ b → b ≤ c → a ≤ c
at_most a b c h k = omega (arith, h, k)

-- no more than the first and than any
pub least_first : (n : ℕ) (xs : List ℕ) → least n xs ≤ n
least_first n [] = omega arith
least_first n (x ∷ xs) = at_most (least (min n x) xs) (min n x) n (least_first (min n x) xs) (min-le_left n x)

pub least_under : (n : ℕ) (xs : List ℕ) (x : ℕ) → Has xs x → least n xs ≤ x
least_under n [] x h = absurd h
least_under n (y ∷ xs) x h = ⊎_elim
    (λ e. subst (λ z. least (min n y) xs ≤ z) (sym e) (at_most (least (min n y) xs) (min n y) y (least_first (min n y) xs) (min-le_right n y)))
    (λ i. least_under (min n y) xs x i)
    h

-- what is no more than each is no more than the least
below_both : (d a b : ℕ) → d ≤ a → d ≤ b → d ≤ min a b
below_both d a b h k = grind arith

pub least_above : (d n : ℕ) (xs : List ℕ) → d ≤ n → ((x : ℕ) → Has xs x → d ≤ x) → d ≤ least n xs
least_above d n [] h all = h
least_above d n (x ∷ xs) h all = least_above d (min n x) xs (below_both d n x h (all x (inl refl))) (λ y i. all y (inr i))

-- neither order nor repetition means anything
pub least_alike : (n : ℕ) (xs ys : List ℕ) → ((x : ℕ) → Has xs x → Has ys x) → ((x : ℕ) → Has ys x → Has xs x) → least n xs ≡ least n ys
least_alike n xs ys to from =
    let low = least_above (least n xs) n ys (least_first n xs) (λ x h. least_under n xs x (from x h)) in
    let high = least_above (least n ys) n xs (least_first n ys) (λ x h. least_under n ys x (to x h)) in
    omega (arith, low, high)

-- of one list and then of another
pub least_joined : (n : ℕ) (xs ys : List ℕ) → least n (xs ++ ys) ≡ least (least n xs) ys
least_joined n [] ys = refl
least_joined n (x ∷ xs) ys = least_joined (min n x) xs ys

pub least_twice : (n : ℕ) (xs ys : List ℕ) → min (least n xs) (least n ys) ≡ least n (xs ++ ys)
least_twice n xs ys =
    let whole = least_joined n xs ys in
    let first = least_first (least n xs) ys in
    let low = least_above (least (least n xs) ys) n ys (at_most (least (least n xs) ys) (least n xs) n first (least_first n xs)) (λ x h. least_under (least n xs) ys x h) in
    let high = least_above (min (least n xs) (least n ys)) (least n xs) ys (min-le_left (least n xs) (least n ys)) (λ x h. at_most (min (least n xs) (least n ys)) (least n ys) x (min-le_right (least n xs) (least n ys)) (least_under n ys x h)) in
    let under = below_both (least (least n xs) ys) (least n xs) (least n ys) first low in
    omega (arith, whole, high, under)

-- ---- items of joined lists

pub has_front : {A : Type 0} (xs ys : List A) (x : A) → Has xs x → Has (xs ++ ys) x
has_front [] ys x h = absurd h
has_front (y ∷ xs) ys x h = ⊎_elim (λ e. inl e) (λ i. inr (has_front xs ys x i)) h

pub has_behind : {A : Type 0} (xs ys : List A) (x : A) → Has ys x → Has (xs ++ ys) x
has_behind [] ys x h = h
has_behind (y ∷ xs) ys x h = inr (has_behind xs ys x h)

pub has_either : {A : Type 0} (xs ys : List A) (x : A) → Has (xs ++ ys) x → Has xs x ⊎ Has ys x
has_either [] ys x h = inr h
has_either (y ∷ xs) ys x h = ⊎_elim (λ e. inl (inl e)) (λ i. ⊎_elim (λ j. inl (inr j)) (λ j. inr j) (has_either xs ys x i)) h
