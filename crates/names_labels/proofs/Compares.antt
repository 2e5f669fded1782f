-- Two names, compared label by label.
use Rattle.std.proofs.Common.{[], ◌≡◌, ℕ, zero, suc, ◌+◌, ◌<◌, ◌≤◌, Bool, true, false, ◌&&◌, ◌||◌, ◌∷◌, length, drop, refl, sym, ap, ◌∙◌, add-one, arith}
use Rattle.std.specs.Prelude.{Some, slice_get}
use Rattle.std.specs.Str.{bytes_eq, str_to_ascii_lowercase}
use Rattle.std.proofs.lemmas.Cmp.{nat_list_eq_equiv}
use Rattle.names_wire.specs.Name.{Name, Label, same, at_or_above}
use Rattle.names_labels.specs.Compare.{begins_with}
use Rattle.std.specs.Prelude.{◌↔◌, IsTrue}
use Rattle.std.proofs.Common.{length-drop}

-- comparing from a place on is comparing there, and from the next place on
pub begins_from : (m n : Name) (i j : ℕ) (a b : Label) → Some a ≡ slice_get m i → Some b ≡ slice_get n j → begins_with (drop i m) (drop j n) ≡ (bytes_eq (str_to_ascii_lowercase a) (str_to_ascii_lowercase b) && begins_with (drop (suc i) m) (drop (suc j) n))
begins_from [] n i j a b h k = cc
begins_from (x ∷ m) [] i j a b h k = cc
begins_from (x ∷ m) (y ∷ n) zero zero a b h k =
    let e : x ≡ a = cc in
    let f : y ≡ b = cc in
    λ t. bytes_eq (str_to_ascii_lowercase (e t)) (str_to_ascii_lowercase (f t)) && begins_with m n
begins_from (x ∷ m) (y ∷ n) (suc i) zero a b h k = begins_from m (y ∷ n) i zero a b h k
begins_from (x ∷ m) (y ∷ n) zero (suc j) a b h k = begins_from (x ∷ m) n zero j a b h k
begins_from (x ∷ m) (y ∷ n) (suc i) (suc j) a b h k = begins_from m n i j a b h k

pub begins_differs : (m n : Name) (i j : ℕ) (a b : Label) → Some a ≡ slice_get m i → Some b ≡ slice_get n j → bytes_eq (str_to_ascii_lowercase a) (str_to_ascii_lowercase b) ≡ false → begins_with (drop i m) (drop j n) ≡ false
begins_differs m n i j a b h k d = begins_from m n i j a b h k ∙ ap (λ t. t && begins_with (drop (suc i) m) (drop (suc j) n)) d

pub begins_agrees : (m n : Name) (i j : ℕ) (a b : Label) → Some a ≡ slice_get m i → Some b ≡ slice_get n j → bytes_eq (str_to_ascii_lowercase a) (str_to_ascii_lowercase b) ≡ true → begins_with (drop i m) (drop j n) ≡ begins_with (drop (i + 1) m) (drop (j + 1) n)
begins_agrees m n i j a b h k d =
    begins_from m n i j a b h k ∙ ap (λ t. t && begins_with (drop (suc i) m) (drop (suc j) n)) d
    ∙ (λ t. begins_with (drop (sym (add-one i) t) m) (drop (sym (add-one j) t) n))

-- a shorter list begins with no longer one
pub begins_short : (m n : Name) (i j : ℕ) → length m ≤ i → j < length n → begins_with (drop i m) (drop j n) ≡ false
begins_short m [] i j h k = absurd (omega arith)
begins_short [] (y ∷ n) i zero h k = elim i as (λ t. begins_with (drop t []) (y ∷ n) ≡ false) [ zero ↦ refl | suc i ↦ refl ]
begins_short [] (y ∷ n) i (suc j) h k = elim i as (λ t. begins_with (drop t []) (drop j n) ≡ false) [ zero ↦ begins_short [] n 0 j (omega arith) (omega arith) | suc i ↦ begins_short [] n 0 j (omega arith) (omega arith) ]
begins_short (x ∷ m) n zero j h k = absurd (omega arith)
begins_short (x ∷ m) (y ∷ n) (suc i) zero h k = begins_short m (y ∷ n) i zero (omega arith) (omega arith)
begins_short (x ∷ m) (y ∷ n) (suc i) (suc j) h k = begins_short m (y ∷ n) i (suc j) (omega arith) k

pub begins_none : (m n : Name) (i j : ℕ) → length n ≤ j → begins_with (drop i m) (drop j n) ≡ true
begins_none m [] i j h = elim j as (λ t. begins_with (drop i m) (drop t []) ≡ true) [ zero ↦ refl | suc j ↦ refl ]
begins_none m (y ∷ n) i zero h = absurd (omega arith)
begins_none m (y ∷ n) i (suc j) h = begins_none m n i j (omega arith)

-- as many labels are the same where one list begins with the other
pub same-begins : (m n : Name) → length m ≡ length n → same m n ≡ begins_with m n
same-begins [] [] h = refl
same-begins [] (y ∷ n) h = absurd (omega arith)
same-begins (x ∷ m) [] h = absurd (omega arith)
same-begins (x ∷ m) (y ∷ n) h = ap (λ t. bytes_eq (str_to_ascii_lowercase x) (str_to_ascii_lowercase y) && t) (same-begins m n (omega arith))

pub same_length : (m n : Name) → same m n ≡ true → length m ≡ length n
same_length [] [] h = refl
same_length [] (y ∷ n) h = cc
same_length (x ∷ m) [] h = cc
same_length (x ∷ m) (y ∷ n) h = ap suc (same_length m n (both (bytes_eq (str_to_ascii_lowercase x) (str_to_ascii_lowercase y)) (same m n) h))
  where
    both : (s t : Bool) → (s && t) ≡ true → t ≡ true
    both true t h = h
    both false t h = cc

pub other_length : (m n : Name) → (length m ≡ length n → ⊥) → same m n ≡ false
other_length m n h = go (same m n) refl
  where
    go : (t : Bool) → same m n ≡ t → t ≡ false
    go false e = refl
    go true e = absurd (h (same_length m n e))

drop_nil : {X : Type 0} (k : ℕ) → drop {A = X} k [] ≡ []
drop_nil zero = refl
drop_nil (suc k) = refl

or_false : (t : Bool) → (t || false) ≡ t
or_false true = refl
or_false false = refl

bytes_eq-sym : (a b : Label) → bytes_eq a b ≡ bytes_eq b a
bytes_eq-sym a b = nat_list_eq_equiv.symm a b

begins-same : (m n : Name) → length m ≡ length n → begins_with m n ≡ same n m
begins-same [] [] h = refl
begins-same [] (y ∷ n) h = absurd (omega arith)
begins-same (x ∷ m) [] h = absurd (omega arith)
begins-same (x ∷ m) (y ∷ n) h =
    (λ t. bytes_eq-sym (str_to_ascii_lowercase x) (str_to_ascii_lowercase y) t && begins-same m n (omega arith) t)

above_short : (base n : Name) → length n < length base → at_or_above base n ≡ false
above_short base [] h = other_length base [] (λ e. omega (arith, e, h))
above_short base (x ∷ n) h =
    (λ t. other_length base (x ∷ n) (λ e. omega (arith, e, h)) t || above_short base n (omega arith) t)

-- a name ends with another where it does so at the place that leaves as many labels
pub ends-begins : (base n : Name) (k : ℕ) → k + length base ≡ length n → at_or_above base n ≡ begins_with (drop k n) base
ends-begins base [] k h = sym (begins-same [] base (omega (arith, h))) ∙ ap (λ t. begins_with t base) (sym (drop_nil k))
ends-begins base (x ∷ n) zero h =
    (λ t. sym (begins-same (x ∷ n) base (omega (arith, h))) t || above_short base n (omega (arith, h)) t) ∙ or_false (begins_with (x ∷ n) base)
ends-begins base (x ∷ n) (suc k) h =
    (λ t. other_length base (x ∷ n) (λ e. omega (arith, e, h)) t || ends-begins base n k (omega (arith, h)) t)

pub ends_short : (base n : Name) → length n < length base → false ≡ at_or_above base n
ends_short base n h = sym (above_short base n h)

told : (t u : Bool) → IsTrue t ↔ (u ≡ true) → t ≡ u
told true u is = sym (is.0 refl)
told false true is = is.1 refl
told false false is = refl

-- rows tell it: one ends with the other where what is left behind the other labels is the same
pub ends-same : (t : Bool) (base n rest : Name) (k : ℕ) → k + length base ≡ length n → rest ≡ drop k n → IsTrue t ↔ (same rest base ≡ true) → t ≡ at_or_above base n
ends-same t base n rest k h e is =
    let left : length (drop k n) ≡ length base = omega (arith, length-drop k n, h) in
    told t (same rest base) is ∙ ap (λ r. same r base) e ∙ same-begins (drop k n) base left ∙ sym (ends-begins base n k h)
