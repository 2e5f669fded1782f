-- Texts of bitmaps tell their types.
use Rattle.std.proofs.Common.{◌≡◌, ℕ, zero, suc, ◌+◌, ◌<◌, ◌≤◌, ◌^◌, ◌⊎◌, inl, inr, Bool, true, false, List, [], ◌∷◌, ◌++◌, map, filter, refl, sym, ap, ◌∙◌, arith, eq-eqb, ne_eqb}
use Rattle.std.specs.Prelude.{if◌then◌else◌, nat_eq, ◌&&◌, ◌||◌, not, codes}
use Rattle.std.specs.Fmt.{decimal}
use Rattle.std.specs.List.{AllByRecursion, list_any}
use Rattle.std.proofs.lemmas.Bool.{and_parts, eqb-true}
use Rattle.std.proofs.lemmas.Fmt.{decimal-digits_of, decimal_digit, decimal_injective}
use Rattle.std.specs.Int.Digits.{digits_of}
use Rattle.std.proofs.lemmas.List.Elements.{filter-append}
use Rattle.std.proofs.lemmas.List.Folds.{list_any-append}
use Rattle.definitions.specs.Bitmap.{below}
use Rattle.numbers.specs.Types.{type_text}
use Rattle.denial_bitmap.specs.Laws.{type_count, TextsTellTypes}
use Rattle.denial_bitmap.specs.Texts.{types_text}
use Rattle.denial_bitmap.proofs.InOrder.{gives_types_in_order}

-- ---- the text of a type is of no other

abbrev named : List (ℕ × List ℕ)
named =
    (1, codes "A") ∷ (2, codes "NS") ∷ (5, codes "CNAME") ∷ (6, codes "SOA") ∷ (15, codes "MX") ∷ (16, codes "TXT") ∷ (39, codes "DNAME") ∷ (41, codes "OPT")
    ∷ (43, codes "DS") ∷ (46, codes "RRSIG") ∷ (47, codes "NSEC") ∷ (48, codes "DNSKEY") ∷ (50, codes "NSEC3") ∷ (51, codes "NSEC3PARAM") ∷ []

abbrev text_in : List (ℕ × List ℕ) → ℕ → List ℕ → List ℕ
text_in [] n other = other
text_in (p ∷ ps) n other = if nat_eq n p.0 then p.1 else text_in ps n other

abbrev same_text : List ℕ → List ℕ → Bool
same_text [] [] = true
same_text [] (d ∷ ds) = false
same_text (c ∷ cs) [] = false
same_text (c ∷ cs) (d ∷ ds) = nat_eq c d && same_text cs ds

abbrev number_in : List (ℕ × List ℕ) → List ℕ → ℕ
number_in [] text = 0
number_in (p ∷ ps) text = if same_text text p.1 then p.0 else number_in ps text

abbrev other_text : ℕ → List ℕ
other_text n = codes "TYPE" ++ decimal n

type_text-in : (n : ℕ) → type_text n ≡ text_in named n (other_text n)
type_text-in n = refl

-- of each entry, whatever holds of all of them, or the text of another type
in_table : (P : ℕ → List ℕ → Type 0) (ps : List (ℕ × List ℕ)) (n : ℕ) (other : List ℕ) → AllByRecursion (λ p. P p.0 p.1) ps → P n (text_in ps n other) ⊎ (text_in ps n other ≡ other)
in_table P [] n other h = inr refl
in_table P (p ∷ ps) n other h = go (in_table P ps n other h.1) (nat_eq n p.0) refl
  where
    go : P n (text_in ps n other) ⊎ (text_in ps n other ≡ other) → (b : Bool) → nat_eq n p.0 ≡ b → P n (if b then p.1 else text_in ps n other) ⊎ ((if b then p.1 else text_in ps n other) ≡ other)
    go rest true e = inl (rw (eqb-true n p.0 e) h.0)
    go rest false e = rest

numbers_back : AllByRecursion (λ p. number_in named p.1 ≡ p.0) named
numbers_back = (refl, (refl, (refl, (refl, (refl, (refl, (refl, (refl, (refl, (refl, (refl, (refl, (refl, (refl, tt))))))))))))))

number_of_text : (n : ℕ) → (number_in named (type_text n) ≡ n) ⊎ (type_text n ≡ other_text n)
number_of_text n = in_table (λ m text. number_in named text ≡ m) named n (other_text n) numbers_back

other_number : (n : ℕ) → number_in named (other_text n) ≡ 0
other_number n = refl

others : (m n : ℕ) → m < 2 ^ 64 → n < 2 ^ 64 → other_text m ≡ other_text n → m ≡ n
others m n a b e = let d : decimal m ≡ decimal n = cc in decimal_injective m n a b d

-- one of them is named by no number
unnamed : (m n : ℕ) → n < 2 ^ 64 → number_in named (type_text m) ≡ m → type_text n ≡ other_text n → type_text m ≡ type_text n → m ≡ n
unnamed m n b known other e =
    let zero_number : m ≡ 0 = sym known ∙ ap (number_in named) (e ∙ other) ∙ other_number n in
    zero_number ∙ others 0 n (omega arith) b (ap type_text (sym zero_number) ∙ e ∙ other)

text_told : (m n : ℕ) → m < 2 ^ 64 → n < 2 ^ 64 → type_text m ≡ type_text n → m ≡ n
text_told m n a b e = go (number_of_text m) (number_of_text n)
  where
    go : (number_in named (type_text m) ≡ m) ⊎ (type_text m ≡ other_text m) → (number_in named (type_text n) ≡ n) ⊎ (type_text n ≡ other_text n) → m ≡ n
    go (inl p) (inl q) = sym p ∙ ap (number_in named) e ∙ q
    go (inl p) (inr q) = unnamed m n b p q e
    go (inr p) (inl q) = sym (unnamed n m a q p (sym e))
    go (inr p) (inr q) = others m n a b (sym p ∙ e ∙ q)

-- ---- it has no blank, and is not empty

abbrev unbroken : List ℕ → Bool
unbroken [] = true
unbroken (c ∷ cs) = not (nat_eq c 32) && unbroken cs

abbrev begins : List ℕ → Bool
begins [] = false
begins (c ∷ cs) = true

digits_unbroken : (ds : List ℕ) → unbroken (map (λ d. 48 + d) ds) ≡ true
digits_unbroken [] = refl
digits_unbroken (d ∷ ds) = ap (λ b. not b && unbroken (map (λ d. 48 + d) ds)) (ne_eqb (48 + d) 32 (λ e. omega (arith, e))) ∙ digits_unbroken ds

decimal_unbroken : (n : ℕ) → n < 2 ^ 64 → unbroken (decimal n) ≡ true
decimal_unbroken zero h = ap unbroken (decimal_digit 0 (omega arith))
decimal_unbroken (suc n) h = ap unbroken (decimal-digits_of (suc n) (omega arith) h) ∙ digits_unbroken (digits_of 10 (suc n))

names_unbroken : AllByRecursion (λ p. (unbroken p.1 ≡ true) × (begins p.1 ≡ true)) named
names_unbroken =
    ((refl, refl), ((refl, refl), ((refl, refl), ((refl, refl), ((refl, refl), ((refl, refl), ((refl, refl), ((refl, refl), ((refl, refl), ((refl, refl), ((refl, refl), ((refl, refl), ((refl, refl), ((refl, refl), tt))))))))))))))

text_unbroken : (n : ℕ) → n < 2 ^ 64 → (unbroken (type_text n) ≡ true) × (begins (type_text n) ≡ true)
text_unbroken n h = go (in_table (λ m text. (unbroken text ≡ true) × (begins text ≡ true)) named n (other_text n) names_unbroken)
  where
    go : ((unbroken (type_text n) ≡ true) × (begins (type_text n) ≡ true)) ⊎ (type_text n ≡ other_text n) → (unbroken (type_text n) ≡ true) × (begins (type_text n) ≡ true)
    go (inl p) = p
    go (inr e) = (ap unbroken e ∙ decimal_unbroken n h, ap begins e)

blank_first : (c : ℕ) (cs : List ℕ) → unbroken (c ∷ cs) ≡ true → c ≡ 32 → ⊥
blank_first c cs h e = let x : unbroken (32 ∷ cs) ≡ true = rw e at h in cc

behind_first : (c : ℕ) (cs : List ℕ) → unbroken (c ∷ cs) ≡ true → unbroken cs ≡ true
behind_first c cs h = (and_parts (not (nat_eq c 32)) (unbroken cs) h).1

-- what stands before the first blank, and behind it
parts_told : (a b r s : List ℕ) → unbroken a ≡ true → unbroken b ≡ true → a ++ 32 ∷ r ≡ b ++ 32 ∷ s → (a ≡ b) × (r ≡ s)
parts_told [] [] r s f g e = (refl, cc)
parts_told [] (d ∷ b) r s f g e = let x : d ≡ 32 = cc in absurd (blank_first d b g x)
parts_told (c ∷ a) [] r s f g e = let x : c ≡ 32 = cc in absurd (blank_first c a f x)
parts_told (c ∷ a) (d ∷ b) r s f g e =
    let first : c ≡ d = cc in
    let rest : a ++ 32 ∷ r ≡ b ++ 32 ∷ s = cc in
    let told = parts_told a b r s (behind_first c a f) (behind_first d b g) rest in
    ((λ i. first i ∷ told.0 i), told.1)

no_blank : (a b s : List ℕ) → unbroken a ≡ true → a ≡ b ++ 32 ∷ s → ⊥
no_blank [] [] s f e = cc
no_blank [] (d ∷ b) s f e = cc
no_blank (c ∷ a) [] s f e = let x : c ≡ 32 = cc in blank_first c a f x
no_blank (c ∷ a) (d ∷ b) s f e = let rest : a ≡ b ++ 32 ∷ s = cc in no_blank a b s (behind_first c a f) rest

not_nothing : (a : List ℕ) → begins a ≡ true → [] ≡ a → ⊥
not_nothing [] h e = cc
not_nothing (c ∷ a) h e = cc

nothing_before : (a s : List ℕ) → [] ≡ a ++ 32 ∷ s → ⊥
nothing_before [] s e = cc
nothing_before (c ∷ a) s e = cc

texts_told : (xs ys : List ℕ) → AllByRecursion (λ t. t < 2 ^ 64) xs → AllByRecursion (λ t. t < 2 ^ 64) ys → types_text xs ≡ types_text ys → xs ≡ ys
texts_told [] [] a b e = refl
texts_told [] (y ∷ []) a b e = absurd (not_nothing (type_text y) (text_unbroken y b.0).1 e)
texts_told [] (y ∷ z ∷ ys) a b e = absurd (nothing_before (type_text y) (types_text (z ∷ ys)) e)
texts_told (x ∷ []) [] a b e = absurd (not_nothing (type_text x) (text_unbroken x a.0).1 (sym e))
texts_told (x ∷ w ∷ xs) [] a b e = absurd (nothing_before (type_text x) (types_text (w ∷ xs)) (sym e))
texts_told (x ∷ []) (y ∷ []) a b e = ap (λ t. t ∷ []) (text_told x y a.0 b.0 e)
texts_told (x ∷ []) (y ∷ z ∷ ys) a b e = absurd (no_blank (type_text x) (type_text y) (types_text (z ∷ ys)) (text_unbroken x a.0).0 e)
texts_told (x ∷ w ∷ xs) (y ∷ []) a b e = absurd (no_blank (type_text y) (type_text x) (types_text (w ∷ xs)) (text_unbroken y b.0).0 (sym e))
texts_told (x ∷ w ∷ xs) (y ∷ z ∷ ys) a b e =
    let told = parts_told (type_text x) (type_text y) (types_text (w ∷ xs)) (types_text (z ∷ ys)) (text_unbroken x a.0).0 (text_unbroken y b.0).0 e in
    let first : x ≡ y = text_told x y a.0 b.0 told.0 in
    let rest : w ∷ xs ≡ z ∷ ys = texts_told (w ∷ xs) (z ∷ ys) a.1 b.1 told.1 in
    λ i. first i ∷ rest i

-- ---- the types of a built bitmap

all_both : (P : ℕ → Type 0) (xs ys : List ℕ) → AllByRecursion P xs → AllByRecursion P ys → AllByRecursion P (xs ++ ys)
all_both P [] ys a b = b
all_both P (x ∷ xs) ys a b = (a.0, all_both P xs ys a.1 b)

one_below : (p : ℕ → Bool) (t m : ℕ) → t < m → AllByRecursion (λ t. t < m) (filter p (t ∷ []))
one_below p t m h = go (p t)
  where
    go : (b : Bool) → AllByRecursion (λ t. t < m) (if b then t ∷ [] else [])
    go true = (h, tt)
    go false = tt

all_below : (p : ℕ → Bool) (n m : ℕ) → n ≤ m → AllByRecursion (λ t. t < m) (filter p (below n))
all_below p zero m h = tt
all_below p (suc n) m h = rw (filter-append p (below n) (n ∷ [])) (all_both (λ t. t < m) (filter p (below n)) (filter p (n ∷ [])) (all_below p n m (omega arith)) (one_below p n m (omega arith)))

one_member : (p : ℕ → Bool) (t n : ℕ) → list_any (nat_eq t) (filter p (n ∷ [])) ≡ (nat_eq t n && p n)
one_member p t n = go (p n)
  where
    go : (b : Bool) → list_any (nat_eq t) (if b then n ∷ [] else []) ≡ (nat_eq t n && b)
    go true = cases (nat_eq t n)
      where
        cases : (e : Bool) → (e || false) ≡ (e && true)
        cases true = refl
        cases false = refl
    go false = cases (nat_eq t n)
      where
        cases : (e : Bool) → false ≡ (e && false)
        cases true = refl
        cases false = refl

more_members : (p : ℕ → Bool) (t n : ℕ) → list_any (nat_eq t) (filter p (below (suc n))) ≡ (list_any (nat_eq t) (filter p (below n)) || (nat_eq t n && p n))
more_members p t n =
    ap (list_any (nat_eq t)) (filter-append p (below n) (n ∷ [])) ∙ list_any-append (nat_eq t) (filter p (below n)) (filter p (n ∷ []))
    ∙ ap (λ b. list_any (nat_eq t) (filter p (below n)) || b) (one_member p t n)

no_member : (p : ℕ → Bool) (n t : ℕ) → n ≤ t → list_any (nat_eq t) (filter p (below n)) ≡ false
no_member p zero t h = refl
no_member p (suc n) t h =
    more_members p t n ∙ ap (λ b. b || (nat_eq t n && p n)) (no_member p n t (omega arith)) ∙ ap (λ b. b && p n) (ne_eqb t n (λ e. omega (arith, e)))

member : (p : ℕ → Bool) (n t : ℕ) → t < n → list_any (nat_eq t) (filter p (below n)) ≡ p t
member p zero t h = absurd (omega arith)
member p (suc n) t h = go (member p n t) (nat_eq t n) refl
  where
    none : (b : Bool) → (b || false) ≡ b
    none true = refl
    none false = refl

    go : (t < n → list_any (nat_eq t) (filter p (below n)) ≡ p t) → (b : Bool) → nat_eq t n ≡ b → list_any (nat_eq t) (filter p (below (suc n))) ≡ p t
    go before true e =
        let same : t ≡ n = eqb-true t n e in
        more_members p t n ∙ ap (λ b. b || (nat_eq t n && p n)) (no_member p n t (omega (arith, same))) ∙ ap (λ b. b && p n) e ∙ ap p (sym same)
    go before false e =
        let other : t < n = omega (arith, h, differs e) in
        more_members p t n ∙ ap (λ b. list_any (nat_eq t) (filter p (below n)) || (b && p n)) e ∙ none (list_any (nat_eq t) (filter p (below n))) ∙ before other
      where
        differs : nat_eq t n ≡ false → t ≡ n → ⊥
        differs f s = let x : nat_eq n n ≡ false = rw s at f in let y : nat_eq n n ≡ true = eq-eqb n n refl in cc

abbrev among : List ℕ → ℕ → Bool
among ts t = list_any (nat_eq t) ts

few_numbers : type_count ≤ 2 ^ 64
unfolding type_count
few_numbers = omega arith

pub texts_tell_types : TextsTellTypes
texts_tell_types ts us e t h =
    let first : types_text (filter (among ts) (below type_count)) ≡ types_text (filter (among us) (below type_count)) = ap types_text (sym (gives_types_in_order ts)) ∙ e ∙ ap types_text (gives_types_in_order us) in
    let same = texts_told (filter (among ts) (below type_count)) (filter (among us) (below type_count)) (all_below (among ts) type_count (2 ^ 64) few_numbers) (all_below (among us) type_count (2 ^ 64) few_numbers) first in
    sym (member (among ts) type_count t h) ∙ ap (list_any (nat_eq t)) same ∙ member (among us) type_count t h
