-- The first line of some octets.
use Rattle.std.proofs.Common.{◌≡◌, ℕ, suc, ◌+◌, ◌<◌, ◌≤◌, ◌==◌, true, false, not, cond, List, [], ◌∷◌, length, take, take_all, length-drop, drop, ◌-◌, Some, None, refl, ap, subst, arith, nat_lt}
use Rattle.std.specs.List.{position, prefix_len}
use Rattle.std.proofs.lemmas.Bool.Decides.{nat_tests}
use Rattle.session_grammar.specs.Lines.{lines_of, lead}

-- how many octets stand before the first line feed
abbrev front : List ℕ → ℕ
front xs = prefix_len (λ c. not (c == 10)) xs

longer : (c : ℕ) (cs : List ℕ) (k : ℕ) → lines_of cs ≡ take k cs ∷ lines_of (drop (k + 1) cs)
    → lead c (lines_of cs) ≡ take (1 + k) (c ∷ cs) ∷ lines_of (drop (1 + k + 1) (c ∷ cs))
longer c cs k e =
    let p : 1 + k ≡ suc k = omega arith in
    let q : 1 + k + 1 ≡ suc (k + 1) = omega arith in
    rw (q, p) (ap (lead c) e)

cut : (xs : List ℕ) → front xs < length xs → lines_of xs ≡ take (front xs) xs ∷ lines_of (drop (front xs + 1) xs)
cut [] h = absurd (omega arith)
cut (c ∷ cs) h =
    elim (c == 10) as (λ b. cond (not b) (1 + front cs) 0 < length (c ∷ cs)
    → cond b ([] ∷ lines_of cs) (lead c (lines_of cs)) ≡ take (cond (not b) (1 + front cs) 0) (c ∷ cs) ∷ lines_of (drop (cond (not b) (1 + front cs) 0 + 1) (c ∷ cs)))
    [ true ↦ λ _. refl | false ↦ λ l. longer c cs (front cs) (cut cs (omega arith)) ] h

last_lead : (c : ℕ) (cs : List ℕ) → (0 < length cs → lines_of cs ≡ cs ∷ []) → lead c (lines_of cs) ≡ (c ∷ cs) ∷ []
last_lead c [] f = refl
last_lead c (d ∷ ds) f = ap (lead c) (f (omega arith))

last : (xs : List ℕ) → length xs ≤ front xs → 0 < length xs → lines_of xs ≡ xs ∷ []
last [] h l = absurd (omega arith)
last (c ∷ cs) h l =
    elim (c == 10) as (λ b. length (c ∷ cs) ≤ cond (not b) (1 + front cs) 0 → cond b ([] ∷ lines_of cs) (lead c (lines_of cs)) ≡ (c ∷ cs) ∷ [])
    [ true ↦ λ m. absurd (omega arith) | false ↦ λ m. last_lead c cs (λ p. last cs (omega arith) p) ] h

is_none : (n m : ℕ) → cond (nat_lt n m) (Some n) None ≡ None → m ≤ n
is_none n m e = grind (arith, nat_tests)

is_some : (n m k : ℕ) → cond (nat_lt n m) (Some n) None ≡ Some k → (n < m) × (n ≡ k)
is_some n m k e = grind (arith, nat_tests)

pub lines_of-none : (xs : List ℕ) → position (λ c. c == 10) xs ≡ None → 0 < length xs → lines_of xs ≡ xs ∷ []
lines_of-none xs e h = last xs (is_none (front xs) (length xs) e) h

whole_rest : (xs : List ℕ) (n : ℕ) → take (length xs - n) (drop n xs) ≡ drop n xs
whole_rest xs n = take_all (length xs - n) (drop n xs) (omega (arith, length-drop {A = ℕ}))

lines_of-cut : (xs : List ℕ) (k : ℕ) → position (λ c. c == 10) xs ≡ Some k → lines_of xs ≡ take k xs ∷ lines_of (drop (k + 1) xs)
lines_of-cut xs k e =
    let f : (front xs < length xs) × (front xs ≡ k) = is_some (front xs) (length xs) k e in
    subst (λ n. lines_of xs ≡ take n xs ∷ lines_of (drop (n + 1) xs)) f.1 (cut xs f.0)

pub lines_of-some : (xs : List ℕ) (k : ℕ) → position (λ c. c == 10) xs ≡ Some k → lines_of xs ≡ take k xs ∷ lines_of (take (length xs - (k + 1)) (drop (k + 1) xs))
lines_of-some xs k e = rw (whole_rest xs (k + 1)) (lines_of-cut xs k e)
