-- Neighbours of a name among items in canonical order: an ancestor has an item at or below it where a neighbour is.
use Rattle.std.proofs.Common.{◌≡◌, ℕ, zero, suc, ◌-◌, ◌<◌, ◌≤◌, Bool, true, false, ◌||◌, List, [], ◌∷◌, Option, Some, None, inl, inr, refl, sym, ap, subst, ◌∙◌, length, get_or, arith}
use Rattle.std.specs.Borrow.{Bor}
use Rattle.std.specs.List.{Contains, list_any}
use Rattle.std.specs.List.Sorted.{IsPartitionPoint, IsPartitionedBy}
use Rattle.std.specs.Ordering.{is_le, is_lt, ordering_reverse}
use Rattle.std.specs.declared.cmp.Ordering.{Ordering}
use Rattle.std.specs.declared.cmp.Ordering.TheVariants.{Less, Equal, Greater}
use Rattle.std.proofs.Math.Nat.{eq-or-lt_of_le}
use Rattle.std.proofs.lemmas.Bool.{cases_order, false≢true, or_left, or_right}
use Rattle.std.proofs.lemmas.Cmp.{tied_itself}
use Rattle.std.proofs.lemmas.List.{get_or_default}
use Rattle.definitions.specs.Covering.{before}
use Rattle.definitions.specs.Name.{Name, at_or_above, name_cmp, same, strictly_above}
use Rattle.definitions.proofs.Members.{In, any_in, any_of, both_ways, contained, either, in_contained}
use Rattle.definitions.proofs.NameLaws.{equal_is_same, interval, name_cmp_total}
use Rattle.denial_laws.proofs.ChainBits.{all_at}
use Rattle.denial_laws.proofs.NameFacts.{before_less, before_unlike, before_up_to, less_not_greater, names_same, not_after, not_before, same_above, same_names, strictly_at, strictly_before, strictly_from, up_to_before}
use Rattle.answer_zone_records.specs.Near.{AreRising, IsNameAt, is_below, is_strictly_below}

-- a name is not behind itself
not_behind_itself : (n : Name) → name_cmp n n ≡ Greater → ⊥
not_behind_itself n g = let x : Equal ≡ Greater = sym (tied_itself name_cmp_total n) ∙ g in cc

-- what isn't before a name is not before it
not_before_is : (a b : Name) → before a b ≡ false → name_cmp b a ≡ Greater → ⊥
not_before_is a b n g =
    let l : name_cmp a b ≡ Less = less_of (name_cmp b a) g in
    false≢true (sym n ∙ ap is_lt l)
  where
    less_of : (o : Ordering) → name_cmp b a ≡ Greater → name_cmp a b ≡ Less
    less_of o e = name_cmp_total.antisymm a b ∙ ap ordering_reverse e

same_back : (a b : Name) → same a b ≡ true → same b a ≡ true
same_back a b s = names_same b a (sym (same_names a b s))

le_of : (o : Ordering) → (o ≡ Greater → ⊥) → is_le o ≡ true
le_of Less n = refl
le_of Equal n = refl
le_of Greater n = absurd (n refl)

greater_of : (o : Ordering) → is_le o ≡ false → o ≡ Greater
greater_of Less h = absurd (false≢true (sym h))
greater_of Equal h = absurd (false≢true (sym h))
greater_of Greater h = refl

not_greater : (o : Ordering) → is_le o ≡ true → o ≡ Greater → ⊥
not_greater o h g = false≢true (sym (ap is_le g) ∙ h)

-- what is not behind a name that is not behind another is not behind this one
le_on : (a b q : Name) → (name_cmp a b ≡ Greater → ⊥) → is_le (name_cmp b q) ≡ true → is_le (name_cmp a q) ≡ true
le_on a b q n h = le_of (name_cmp a q) (λ g. not_greater (name_cmp b q) h (not_after q b (before_up_to q a b (not_before a q g) n)))

at_itself : (q : Name) → at_or_above q q ≡ true
at_itself q = same_above q q (names_same q q refl)

module _ {A : Type 0} (f : A → Name) where
  rising_at : (xs : List A) → AreRising f xs → (i j : ℕ) (x y : A) → i < j → j < length xs → x ≡ get_or xs i x → y ≡ get_or xs j y → name_cmp (f x) (f y) ≡ Greater → ⊥
  rising_at [] r i j x y ij jl ex ey = absurd (omega arith)
  rising_at (z ∷ xs) r i zero x y ij jl ex ey = absurd (omega arith)
  rising_at (z ∷ xs) r zero (suc j) x y ij jl ex ey =
      let later : In y xs = in_contained xs y j (omega arith) (sym ey) in
      subst (λ w. name_cmp (f w) (f y) ≡ Greater → ⊥) (sym ex) (all_at (λ y. name_cmp (f z) (f y) ≡ Greater → ⊥) xs y r.0 later)
  rising_at (z ∷ xs) r (suc i) (suc j) x y ij jl ex ey = rising_at xs r.1 i j x y (omega arith) (omega arith) ex ey

  -- at or before
  rising_to : (xs : List A) → AreRising f xs → (i j : ℕ) (x y : A) → i ≤ j → j < length xs → x ≡ get_or xs i x → y ≡ get_or xs j y → name_cmp (f x) (f y) ≡ Greater → ⊥
  rising_to xs r i j x y ij jl ex ey = elim (eq-or-lt_of_le ij) [
    | inl s ↦
        let is : x ≡ y = ex ∙ ap (λ k. get_or xs k x) s ∙ get_or_default xs j x y jl ∙ sym ey in
        subst (λ w. name_cmp (f x) (f w) ≡ Greater → ⊥) is (not_behind_itself (f x))
    | inr l ↦ rising_at xs r i j x y l jl ex ey
  ]

  -- what comes before a name stands in front
  partitioned : (xs : List A) (q : Name) → AreRising f xs → (i j : ℕ) (x y : A) → i ≤ j → j < length xs → x ≡ get_or xs i x → y ≡ get_or xs j y → before (f y) q ≡ true → before (f x) q ≡ true
  partitioned xs q r i j x y ij jl ex ey b = ap is_lt (up_to_before (f x) (f y) q (rising_to xs r i j x y ij jl ex ey) (before_less (f y) q b))

  pub is_partitioned : (xs : List A) (q : Name) → AreRising f xs → IsPartitionedBy (λ x. before (f x) q) xs
  is_partitioned xs q r i j d ij jl b =
      let il : i < length xs = omega arith in
      partitioned xs q r i j (get_or xs i d) (get_or xs j d) ij jl (get_or_default xs i d (get_or xs i d) il) (get_or_default xs j d (get_or xs j d) jl) b

  module _ (xs : List A) (q : Name) (k : ℕ) (r : AreRising f xs) (few : k ≤ length xs) (cut : IsPartitionPoint (λ x. before (f x) q ≡ true) (λ x. before (f x) q ≡ false) xs k) where
    -- an item at or below an ancestor stands before the name: so does the last one before the name
    last_before : (a : Name) → at_or_above a q ≡ true → (j : ℕ) (x : A) → j < k → x ≡ get_or xs j x → at_or_above a (f x) ≡ true → (y : A) → y ≡ get_or xs (k - 1) y → at_or_above a (f y) ≡ true
    last_before a ha j x jk ex b y ey =
        let l : before (f y) q ≡ true = subst (λ w. before (f w) q ≡ true) (sym ey) (cut.0 (k - 1) y (omega arith) (omega arith)) in
        interval a (f x) (f y) q b ha (rising_to xs r j (k - 1) x y (omega arith) (omega arith) ex ey) (less_not_greater (f y) q (before_less (f y) q l))

    -- the same of the first one from it on
    first_from : (a : Name) → at_or_above a q ≡ true → (j : ℕ) (x : A) → k ≤ j → j < length xs → x ≡ get_or xs j x → at_or_above a (f x) ≡ true → (y : A) → y ≡ get_or xs k y → at_or_above a (f y) ≡ true
    first_from a ha j x kj jl ex b y ey =
        let l : before (f y) q ≡ false = subst (λ w. before (f w) q ≡ false) (sym ey) (cut.1 k y (omega arith) (omega arith)) in
        interval a q (f y) (f x) ha b (not_before_is (f y) q l) (rising_to xs r k j y x kj jl ey ex)

    -- the name of the item before a place, and of the one there
    abbrev pub Before : Option (Bor Name) → Type 0
    Before None = k ≡ 0
    Before (Some n) = (0 < k) × (y : A) × (y ≡ get_or xs (k - 1) y) × (n.now ≡ f y)

    pub none_before : k ≡ 0 → Before None
    none_before e = e

    pub one_before : 0 < k → (b : Option (Bor Name)) → IsNameAt f xs (k - 1) b → Before b
    one_before some None h = absurd (omega arith)
    one_before some (Some n) h = (some, h.1.0, h.1.1, h.1.2)

    abbrev From : Option (Bor Name) → Type 0
    From c = IsNameAt f xs k c

    by_before : (a : Name) → at_or_above a q ≡ true → (j : ℕ) (x : A) → j < k → x ≡ get_or xs j x → at_or_above a (f x) ≡ true → (b : Option (Bor Name)) → Before b → is_below b a ≡ true
    by_before a ha j x jk ex h None e = absurd (omega (arith, e))
    by_before a ha j x jk ex h (Some n) w = ap (at_or_above a) w.3 ∙ last_before a ha j x jk ex h w.1 w.2

    by_from : (a : Name) → at_or_above a q ≡ true → (j : ℕ) (x : A) → k ≤ j → j < length xs → x ≡ get_or xs j x → at_or_above a (f x) ≡ true → (c : Option (Bor Name)) → From c → is_below c a ≡ true
    by_from a ha j x kj jl ex h None e = absurd (omega arith)
    by_from a ha j x kj jl ex h (Some n) w = ap (at_or_above a) w.1.2 ∙ first_from a ha j x kj jl ex h w.1.0 w.1.1

    before_in : (a : Name) (b : Option (Bor Name)) → Before b → is_below b a ≡ true → list_any (λ x. at_or_above a (f x)) xs ≡ true
    before_in a None w h = absurd (false≢true h)
    before_in a (Some n) w h = any_in (λ x. at_or_above a (f x)) xs w.1 (in_contained xs w.1 (k - 1) (omega (arith, w.0)) (sym w.2)) (ap (at_or_above a) (sym w.3) ∙ h)

    from_in : (a : Name) (c : Option (Bor Name)) → From c → is_below c a ≡ true → list_any (λ x. at_or_above a (f x)) xs ≡ true
    from_in a None w h = absurd (false≢true h)
    from_in a (Some n) w h = any_in (λ x. at_or_above a (f x)) xs w.1.0 (in_contained xs w.1.0 k w.0 (sym w.1.1)) (ap (at_or_above a) (sym w.1.2) ∙ h)

    -- an item at or below an ancestor shows in one of both
    in_either : (a : Name) → at_or_above a q ≡ true → (b c : Option (Bor Name)) → Before b → From c → (j : ℕ) (x : A) → j < length xs → x ≡ get_or xs j x → at_or_above a (f x) ≡ true → (is_below b a || is_below c a) ≡ true
    in_either a ha b c hb hc j x jl ex h = elim (cases_order j k) [
      | inl s ↦ or_right (is_below b a) (is_below c a) (by_from a ha j x (omega (arith, s)) jl ex h c hc)
      | inr o ↦ elim o [
        | inl l ↦ or_left (is_below b a) (is_below c a) (by_before a ha j x l ex h b hb)
        | inr g ↦ or_right (is_below b a) (is_below c a) (by_from a ha j x (omega arith) jl ex h c hc)
      ]
    ]

    pub shown : (b c : Option (Bor Name)) → Before b → From c → (a : Name) → at_or_above a q ≡ true → list_any (λ x. at_or_above a (f x)) xs ≡ (is_below b a || is_below c a)
    shown b c hb hc a ha = both_ways (list_any (λ x. at_or_above a (f x)) xs) (is_below b a || is_below c a)
        (λ h.
        let w = any_of (λ x. at_or_above a (f x)) xs h in
        let at : Contains xs w.0 = contained xs w.0 w.1.0 in
        in_either a ha b c hb hc at.0 w.0 at.1 (sym at.2) w.1.1)
        (λ h. elim (either (is_below b a) (is_below c a) h) [ inl l ↦ before_in a b hb l | inr l ↦ from_in a c hc l ])

    -- ---- the name itself

    abbrev is_from : Option (Bor Name) → Bool
    is_from c = elim c [ None ↦ false | Some m ↦ same m.now q ]

    -- the first item from the name on is not behind one that is the name
    equal_first : (x y : Name) → same x q ≡ true → before y q ≡ false → (name_cmp y x ≡ Greater → ⊥) → same y q ≡ true
    equal_first x y s n le = go (name_cmp y q) refl
      where
        go : (o : Ordering) → name_cmp y q ≡ o → same y q ≡ true
        go Less e = absurd (false≢true (sym n ∙ ap is_lt e))
        go Equal e = equal_is_same y q e
        go Greater e =
            let back : name_cmp q x ≡ Less = before_up_to q y x (not_before y q e) le in
            absurd (before_unlike q x back (same_back x q s))

    by_name : (j : ℕ) (x : A) → j < length xs → x ≡ get_or xs j x → same (f x) q ≡ true → (c : Option (Bor Name)) → From c → is_from c ≡ true
    by_name j x jl ex s c hc = elim (cases_order j k) [
      | inl e ↦ at j x (omega (arith, e)) jl ex s c hc
      | inr o ↦ elim o [
        | inl l ↦ absurd (before_unlike (f x) q (before_less (f x) q (subst (λ w. before (f w) q ≡ true) (sym ex) (cut.0 j x (omega arith) l))) s)
        | inr g ↦ at j x (omega arith) jl ex s c hc
      ]
    ]
      where
        at : (j : ℕ) (x : A) → k ≤ j → j < length xs → x ≡ get_or xs j x → same (f x) q ≡ true → (c : Option (Bor Name)) → From c → is_from c ≡ true
        at j x kj jl ex s None e = absurd (omega arith)
        at j x kj jl ex s (Some n) w =
            let l : before (f w.1.0) q ≡ false = subst (λ v. before (f v) q ≡ false) (sym w.1.1) (cut.1 k w.1.0 (omega arith) w.0) in
            ap (λ m. same m q) w.1.2 ∙ equal_first (f x) (f w.1.0) s l (rising_to xs r k j w.1.0 x kj jl w.1.1 ex)

    pub owned : (c : Option (Bor Name)) → From c → list_any (λ x. same (f x) q) xs ≡ is_from c
    owned c hc = both_ways (list_any (λ x. same (f x) q) xs) (is_from c)
        (λ h.
        let w = any_of (λ x. same (f x) q) xs h in
        let at : Contains xs w.0 = contained xs w.0 w.1.0 in
        by_name at.0 w.0 at.1 (sym at.2) w.1.1 c hc)
        (λ h. back c hc h)
      where
        back : (c : Option (Bor Name)) → From c → is_from c ≡ true → list_any (λ x. same (f x) q) xs ≡ true
        back None w h = absurd (false≢true h)
        back (Some n) w h = any_in (λ x. same (f x) q) xs w.1.0 (in_contained xs w.1.0 k w.0 (sym w.1.1)) (ap (λ m. same m q) (sym w.1.2) ∙ h)

  -- ---- what is below a name

  pub is_partitioned_behind : (xs : List A) (q : Name) → AreRising f xs → IsPartitionedBy (λ x. is_le (name_cmp (f x) q)) xs
  is_partitioned_behind xs q r i j d ij jl b =
      let il : i < length xs = omega arith in
      le_on (f (get_or xs i d)) (f (get_or xs j d)) q (rising_to xs r i j (get_or xs i d) (get_or xs j d) ij jl (get_or_default xs i d (get_or xs i d) il) (get_or_default xs j d (get_or xs j d) jl)) b

  module _ (xs : List A) (q : Name) (k : ℕ) (r : AreRising f xs) (cut : IsPartitionPoint (λ x. is_le (name_cmp (f x) q) ≡ true) (λ x. is_le (name_cmp (f x) q) ≡ false) xs k) where
    -- the first item behind the name is below it if any is
    first_below : (j : ℕ) (x y : A) → k ≤ j → j < length xs → x ≡ get_or xs j x → y ≡ get_or xs k y → strictly_above q (f x) ≡ true → strictly_above q (f y) ≡ true
    first_below j x y kj jl ex ey h =
        let behind : is_le (name_cmp (f y) q) ≡ false = subst (λ w. is_le (name_cmp (f w) q) ≡ false) (sym ey) (cut.1 k y (omega arith) (omega arith)) in
        let later : name_cmp q (f y) ≡ Less = not_before (f y) q (greater_of (name_cmp (f y) q) behind) in
        strictly_from q (f y)
        (interval q q (f y) (f x) (at_itself q) (strictly_at q (f x) h) (less_not_greater q (f y) later) (rising_to xs r k j y x kj jl ey ex))
        (before_unlike q (f y) later)

    by_behind : (j : ℕ) (x : A) → j < length xs → x ≡ get_or xs j x → strictly_above q (f x) ≡ true → (c : Option (Bor Name)) → IsNameAt f xs k c → is_strictly_below c q ≡ true
    by_behind j x jl ex h c hc = elim (cases_order j k) [
      | inl e ↦ at (omega (arith, e)) c hc
      | inr o ↦ elim o [
        | inl l ↦
            let up : is_le (name_cmp (f x) q) ≡ true = subst (λ w. is_le (name_cmp (f w) q) ≡ true) (sym ex) (cut.0 j x (omega arith) l) in
            absurd (not_greater (name_cmp (f x) q) up (not_after q (f x) (strictly_before q (f x) h)))
        | inr g ↦ at (omega arith) c hc
      ]
    ]
      where
        at : k ≤ j → (c : Option (Bor Name)) → IsNameAt f xs k c → is_strictly_below c q ≡ true
        at kj None e = absurd (omega arith)
        at kj (Some n) w = ap (strictly_above q) w.1.2 ∙ first_below j x w.1.0 kj jl ex w.1.1 h

    pub below : (c : Option (Bor Name)) → IsNameAt f xs k c → list_any (λ x. strictly_above q (f x)) xs ≡ is_strictly_below c q
    below c hc = both_ways (list_any (λ x. strictly_above q (f x)) xs) (is_strictly_below c q)
        (λ h.
        let w = any_of (λ x. strictly_above q (f x)) xs h in
        let at : Contains xs w.0 = contained xs w.0 w.1.0 in
        by_behind at.0 w.0 at.1 (sym at.2) w.1.1 c hc)
        (λ h. back c hc h)
      where
        back : (c : Option (Bor Name)) → IsNameAt f xs k c → is_strictly_below c q ≡ true → list_any (λ x. strictly_above q (f x)) xs ≡ true
        back None w h = absurd (false≢true h)
        back (Some n) w h = any_in (λ x. strictly_above q (f x)) xs w.1.0 (in_contained xs w.1.0 k w.0 (sym w.1.1)) (ap (strictly_above q) (sym w.1.2) ∙ h)
