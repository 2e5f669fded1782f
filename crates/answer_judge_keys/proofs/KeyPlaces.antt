-- Keys by tag and algorithm: the first of both is found by a search, and of unlike keys of one tag two are neighbors.
use Rattle.std.proofs.Common.{◌≡◌, ℕ, zero, suc, ◌<◌, ◌≤◌, ◌+◌, Bool, true, false, not, ◌&&◌, ◌||◌, cond, List, [], ◌∷◌, length, get_or, ⊎_elim, inl, inr, ◌⊎◌, eqb, refl, sym, ap, subst, ◌∙◌, arith, Ordering, Some, None}
use Rattle.std.specs.declared.cmp.Ordering.TheVariants.{Less, Equal}
use Rattle.std.specs.Cmp.{IsTotalOrder, nat_cmp_total, on_total}
use Rattle.std.specs.Fn.{Called, ComparesAs}
use Rattle.std.specs.List.{AllByRecursion, find, slice_get}
use Rattle.std.specs.List.Sorted.{IsPartitionPoint, IsPartitionedBy, IsSortedBy, IsSortedByClosure, IsStableBy, IsStableByClosure, ties}
use Rattle.std.specs.Ordering.{is_lt, nat_cmp, ordering_then}
use Rattle.std.specs.Prelude.{nat_lt}
use Rattle.std.proofs.lemmas.Bool.{and_parts, cases_lt, eq-eqb, eqb-true, false_from_ne_true, false≢true, or_cases, or_parts, not-true}
use Rattle.std.proofs.lemmas.Cmp.{then_total}
use Rattle.std.proofs.lemmas.Fn.{always_returns_same}
use Rattle.std.proofs.lemmas.List.Sorted.{ranks_by, sorted_far}
use denote.Param.Members.{Mut}
use denote.Ref.{Bor}
use Rattle.definitions.proofs.Members.{In}
use Rattle.answer_judge_keys.proofs.Searching.{find_at, if_passes, same_find}

-- whether two items side by side are unlike
abbrev pub neighbors : {X : Type 0} → (X → X → Bool) → X → List X → Bool
neighbors unlike x [] = false
neighbors unlike x (y ∷ ys) = unlike x y || neighbors unlike y ys

-- unlike neighbors are two of the list
pub two_unlike : {X : Type 0} (unlike : X → X → Bool) (x : X) (xs : List X) → neighbors unlike x xs ≡ true → (a : X) × (b : X) × In a (x ∷ xs) × In b (x ∷ xs) × (unlike a b ≡ true)
two_unlike unlike x [] h = absurd (false≢true h)
two_unlike unlike x (k ∷ ks) h = ⊎_elim
    (λ (e : unlike x k ≡ true). (x, k, inl refl, inr (inl refl), e))
    (λ (e : neighbors unlike k ks ≡ true). let r = two_unlike unlike k ks e in (r.0, r.1, inr r.2, inr r.3, r.4))
    (or_cases (unlike x k) (neighbors unlike k ks) h)

-- a place is a pair of numbers, as a tag and an algorithm
abbrev pub pair_cmp : {X : Type 0} → (X → ℕ) → (X → ℕ) → X → X → Ordering
pair_cmp t g a b = ordering_then (nat_cmp (t a) (t b)) (nat_cmp (g a) (g b))

module _ {X : Type 0} (t g : X → ℕ) where
  abbrev lt : X → X → Bool
  lt a b = is_lt (pair_cmp t g a b)

  pub pair_total : IsTotalOrder (pair_cmp t g)
  pair_total = then_total (on_total t nat_cmp_total) (on_total g nat_cmp_total)

  -- less, or as great
  abbrev Below : X → X → Type 0
  Below a b = (t a < t b) ⊎ ((t a ≡ t b) × (g a < g b))

  nat_less : (m n : ℕ) → m < n → nat_cmp m n ≡ Less
  nat_less m n h = grind arith

  nat_equal : (m n : ℕ) → m ≡ n → nat_cmp m n ≡ Equal
  nat_equal m n h = grind arith

  less_first : (a b : X) → t a < t b → lt a b ≡ true
  less_first a b h = ap (λ o. is_lt (ordering_then o (nat_cmp (g a) (g b)))) (nat_less (t a) (t b) h)

  less_second : (a b : X) → t a ≡ t b → g a < g b → lt a b ≡ true
  less_second a b e h = (λ i. is_lt (ordering_then (nat_equal (t a) (t b) e i) (nat_less (g a) (g b) h i)))

  -- what is not less is as great or greater
  not_below_first : (a b : X) → lt b a ≡ false → t a ≤ t b
  not_below_first a b h = ⊎_elim (λ (l : t b < t a). absurd (false≢true (sym h ∙ less_first b a l))) (λ (l : t a ≤ t b). l) (cases_lt (t b) (t a))

  not_below_second : (a b : X) → lt b a ≡ false → t a ≡ t b → g a ≤ g b
  not_below_second a b h e = ⊎_elim (λ (l : g b < g a). absurd (false≢true (sym h ∙ less_second b a (sym e) l))) (λ (l : g a ≤ g b). l) (cases_lt (g b) (g a))

  equal_itself : (a b : X) → t a ≡ t b → g a ≡ g b → pair_cmp t g a b ≡ Equal
  equal_itself a b e f = (λ i. ordering_then (nat_equal (t a) (t b) e i) (nat_equal (g a) (g b) f i))

  ties_pair : (a b : X) → ties lt a b ≡ true → (t a ≡ t b) × (g a ≡ g b)
  ties_pair a b h =
      let p = and_parts (not (lt a b)) (not (lt b a)) h in
      let no : lt a b ≡ false = not-true (lt a b) p.0 in
      let back : lt b a ≡ false = not-true (lt b a) p.1 in
      let x = not_below_first b a no in
      let y = not_below_first a b back in
      let e : t a ≡ t b = omega (arith, x, y) in
      let u = not_below_second b a no (sym e) in
      let v = not_below_second a b back e in
      (e, omega (arith, u, v))

  pair_ties : (a b : X) → t a ≡ t b → g a ≡ g b → ties lt a b ≡ true
  pair_ties a b e f = (λ i. not (is_lt (equal_itself a b e f i)) && not (is_lt (equal_itself b a (sym e) (sym f) i)))

  -- ---- one of two numbers

  module _ (m n : ℕ) where
    abbrev fits : X → Bool
    fits x = eqb (t x) m && eqb (g x) n

    abbrev before : X → Bool
    before x = nat_lt (t x) m || (eqb (t x) m && nat_lt (g x) n)

    fits_parts : (x : X) → fits x ≡ true → (t x ≡ m) × (g x ≡ n)
    fits_parts x h = let p = and_parts (eqb (t x) m) (eqb (g x) n) h in (eqb-true (t x) m p.0, eqb-true (g x) n p.1)

    fits_from : (x : X) → t x ≡ m → g x ≡ n → fits x ≡ true
    fits_from x e f = (λ i. eq-eqb (t x) m e i && eq-eqb (g x) n f i)

    tied : (x y : X) → fits x ≡ true → ties lt x y ≡ fits y
    tied x y h = both (ties lt x y) (fits y)
        (λ k. let p = ties_pair x y k in fits_from y (sym p.0 ∙ (fits_parts x h).0) (sym p.1 ∙ (fits_parts x h).1))
        (λ k. pair_ties x y ((fits_parts x h).0 ∙ sym (fits_parts y k).0) ((fits_parts x h).1 ∙ sym (fits_parts y k).1))
      where
        both : (a b : Bool) → (a ≡ true → b ≡ true) → (b ≡ true → a ≡ true) → a ≡ b
        both true b f k = sym (f refl)
        both false true f k = k refl
        both false false f k = refl

    -- a stable sort leaves the first
    pub first_kept : (xs ys : List X) → IsStableBy lt xs ys → find fits ys ≡ find fits xs
    first_kept xs ys stable = same_find lt fits tied xs ys stable

    before_parts : (x : X) → before x ≡ true → (t x < m) ⊎ ((t x ≡ m) × (g x < n))
    before_parts x h = grind arith

    before_from : (x : X) → (t x < m) ⊎ ((t x ≡ m) × (g x < n)) → before x ≡ true
    before_from x h = grind arith

    -- what is less than one before is before
    passed : (x y : X) → lt y x ≡ false → before y ≡ true → before x ≡ true
    passed x y h k =
        let e = not_below_first x y h in
        before_from x (⊎_elim
        (λ (l : t y < m). inl (omega (arith, e, l)))
        (λ l. ⊎_elim (λ (s : t x < m). inl s) (λ (s : m ≤ t x). let same : t x ≡ t y = omega (arith, e, s, l.0) in let u = not_below_second x y h same in inr (same ∙ l.0, omega (arith, u, l.1))) (cases_lt (t x) m))
        (before_parts y k))

    pub is_partitioned : (xs : List X) → IsSortedBy lt xs → IsPartitionedBy before xs
    is_partitioned xs s i j d a b h = passed (get_or xs i d) (get_or xs j d) (sorted_far lt (ranks_by pair_total (λ x. x)) xs s i j d a b) h

    before_unfit : (x : X) → before x ≡ true → fits x ≡ false
    before_unfit x h = false_from_ne_true (fits x) (λ k.
        let p = fits_parts x k in
        let no : ⊥ = ⊎_elim (λ (l : t x < m). absurd (omega (arith, l, p.0))) (λ l. absurd (omega (arith, l.1, p.1))) (before_parts x h) in
        absurd no)

    -- between what is not before and what fits stands what fits
    squeezed : (x y : X) → before x ≡ false → lt y x ≡ false → fits y ≡ true → fits x ≡ true
    squeezed x y h k f =
        let p = fits_parts y f in
        let e = not_below_first x y k in
        let same : t x ≡ m = ⊎_elim (λ (l : t x < m). absurd (false≢true (sym h ∙ before_from x (inl l)))) (λ (l : m ≤ t x). omega (arith, e, l, p.0)) (cases_lt (t x) m) in
        let u = not_below_second x y k (same ∙ sym p.0) in
        let other : g x ≡ n = ⊎_elim (λ (l : g x < n). absurd (false≢true (sym h ∙ before_from x (inr (same, l))))) (λ (l : n ≤ g x). omega (arith, u, l, p.1)) (cases_lt (g x) n) in
        fits_from x same other

    searched : (xs : List X) (i : ℕ) → IsSortedBy lt xs → IsPartitionPoint (λ x. before x ≡ true) (λ x. before x ≡ false) xs i → find fits xs ≡ if_passes fits (slice_get xs i)
    searched xs i s p =
        find_at fits xs i (λ k d a b. before_unfit (get_or xs k d) (p.0 k d (omega arith) a))
        (λ k d a b h. squeezed (get_or xs i d) (get_or xs k d) (p.1 i d (omega arith) (omega arith)) (sorted_far lt (ranks_by pair_total (λ x. x)) xs s i k d (omega arith) b) h)

    slice_at : (xs : List X) (i : ℕ) (x : X) → i < length xs → x ≡ get_or xs i x → slice_get xs i ≡ Some x
    slice_at [] i x h e = absurd (omega arith)
    slice_at (y ∷ ys) zero x h e = ap Some (sym e)
    slice_at (y ∷ ys) (suc i) x h e = slice_at ys i x (omega arith) e

    slice_past : (xs : List X) (i : ℕ) → length xs ≤ i → slice_get xs i ≡ None
    slice_past [] i h = refl
    slice_past (y ∷ ys) zero h = absurd (omega arith)
    slice_past (y ∷ ys) (suc i) h = slice_past ys i (omega arith)

    -- what stands at the place of the search, or nothing
    pub searched_some : (xs : List X) (i : ℕ) (x : X) → IsSortedBy lt xs → IsPartitionPoint (λ x. before x ≡ true) (λ x. before x ≡ false) xs i → i < length xs → x ≡ get_or xs i x → fits x ≡ true → find fits xs ≡ Some x
    searched_some xs i x s p h e t = searched xs i s p ∙ ap (if_passes fits) (slice_at xs i x h e) ∙ ap (λ b. cond b (Some x) None) t

    pub searched_other : (xs : List X) (i : ℕ) (x : X) → IsSortedBy lt xs → IsPartitionPoint (λ x. before x ≡ true) (λ x. before x ≡ false) xs i → i < length xs → x ≡ get_or xs i x → fits x ≡ false → find fits xs ≡ None
    searched_other xs i x s p h e t = searched xs i s p ∙ ap (if_passes fits) (slice_at xs i x h e) ∙ ap (λ b. cond b (Some x) None) t

    pub searched_end : (xs : List X) (i : ℕ) → IsSortedBy lt xs → IsPartitionPoint (λ x. before x ≡ true) (λ x. before x ≡ false) xs i → length xs ≤ i → find fits xs ≡ None
    searched_end xs i s p h = searched xs i s p ∙ ap (if_passes fits) (slice_past xs i h)

  -- ---- neighbors

  far : (x : X) (xs : List X) → IsSortedBy lt (x ∷ xs) → (k : ℕ) (d : X) → k < length xs → lt (get_or xs k d) x ≡ false
  far x xs s k d h = sorted_far lt (ranks_by pair_total (λ y. y)) (x ∷ xs) s 0 (suc k) d (omega arith) (omega arith)

  later : (x : X) (xs : List X) → IsSortedBy lt (x ∷ xs) → IsSortedBy lt xs
  later x xs s k d low h =
      let e : suc k + 1 ≡ suc (k + 1) = omega arith in
      subst (λ n. lt (get_or (x ∷ xs) n d) (get_or (x ∷ xs) (suc k) d) ≡ false) e (s (suc k) d (omega arith) (omega arith))

  all_far : (x : X) (ys : List X) → ((k : ℕ) (d : X) → k < length ys → lt (get_or ys k d) x ≡ false) → AllByRecursion (λ y. t x ≤ t y) ys
  all_far x [] h = tt
  all_far x (y ∷ ys) h = (not_below_first x y (h 0 y (omega arith)), all_far x ys (λ k d l. h (suc k) d (omega arith)))

  -- the head is no greater than the others, which are in order
  pub head_least : (x : X) (xs : List X) → IsSortedBy lt (x ∷ xs) → AllByRecursion (λ y. t x ≤ t y) xs × IsSortedBy lt xs
  head_least x xs s = (all_far x xs (far x xs s), later x xs s)

  -- ---- neighbors that are unlike

  module _ (unlike : X → X → Bool) (exact : (a b : X) → t a ≡ t b → unlike a b ≡ false → a ≡ b) where
    -- without unlike neighbors what has the head's number is the head
    one_number : (x : X) (xs : List X) → IsSortedBy lt (x ∷ xs) → neighbors unlike x xs ≡ false → (y : X) → In y xs → t y ≡ t x → y ≡ x
    one_number x [] s n y i e = absurd i
    one_number x (k ∷ ks) s n y i e =
        let p = head_least x (k ∷ ks) s in
        let q = head_least k ks p.1 in
        let o = or_parts (unlike x k) (neighbors unlike k ks) n in
        elim i [
          | inl same ↦ same ∙ sym (exact x k (sym e ∙ ap t same) o.0)
          | inr behind ↦
              let most : t k ≤ t y = all_in (λ z. t k ≤ t z) ks y q.0 behind in
              let tags : t x ≡ t k = omega (arith, p.0.0, most, e) in
              one_number k ks p.1 o.1 y behind (e ∙ tags) ∙ sym (exact x k tags o.0)
        ]
      where
        all_in : (P : X → Type 0) (ys : List X) (y : X) → AllByRecursion P ys → In y ys → P y
        all_in P [] y h i = absurd i
        all_in P (z ∷ ys) y h i = elim i [ inl same ↦ subst P (sym same) h.0 | inr behind ↦ all_in P ys y h.1 behind ]

    -- and any two of one number are one
    pub all_one : (x : X) (xs : List X) → IsSortedBy lt (x ∷ xs) → neighbors unlike x xs ≡ false → (a b : X) → In a (x ∷ xs) → In b (x ∷ xs) → t a ≡ t b → a ≡ b
    all_one x [] s n a b i j e = elim i [
      | inl same ↦ elim j [ inl other ↦ same ∙ sym other | inr none ↦ absurd none ]
      | inr none ↦ absurd none
    ]
    all_one x (k ∷ ks) s n a b i j e =
        let p = head_least x (k ∷ ks) s in
        let o = or_parts (unlike x k) (neighbors unlike k ks) n in
        elim i [
          | inl same ↦ elim j [
            | inl other ↦ same ∙ sym other
            | inr behind ↦ same ∙ sym (one_number x (k ∷ ks) s n b behind (sym e ∙ ap t same))
          ]
          | inr ahead ↦ elim j [
            | inl other ↦ one_number x (k ∷ ks) s n a ahead (e ∙ ap t other) ∙ sym other
            | inr behind ↦ all_one k ks p.1 o.1 a b ahead behind e
          ]
        ]

-- a sort by a closure
module _ {X : Type 0} (t g : X → ℕ) {F : Type 0} {call : Mut F (Bor X × (Bor X × Unit {0})) Ordering} {f : F} (gives : (a : Bor X × (Bor X × Unit {0})) (r : Ordering) (f' : F) → Called call f a r f' → (r ≡ pair_cmp t g a.0.now a.1.0.now) × (f' ≡ f)) where
  compares : ComparesAs call (λ a b. is_lt (pair_cmp t g a b)) f
  compares = always_returns_same call _ f (λ a r f' k. let p = gives a r f' k in (ap is_lt p.0, p.1))

  pub sorted_so : (xs : List X) → IsSortedByClosure call f xs → IsSortedBy (λ a b. is_lt (pair_cmp t g a b)) xs
  sorted_so xs s = s (λ a b. is_lt (pair_cmp t g a b)) (ranks_by (pair_total t g) (λ x. x)) compares

  pub stable_so : (xs ys : List X) → IsStableByClosure call f xs ys → IsStableBy (λ a b. is_lt (pair_cmp t g a b)) xs ys
  stable_so xs ys s = s (λ a b. is_lt (pair_cmp t g a b)) (ranks_by (pair_total t g) (λ x. x)) compares
