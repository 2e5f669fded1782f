-- Unequal TTLs of an RRset stand side by side among records in canonical order.
use Rattle.std.proofs.Common.{◌≡◌, ◌≢◌, ℕ, Bool, true, false, ◌&&◌, ◌||◌, List, [], ◌∷◌, ◌++◌, refl, sym, ap, subst, ◌∙◌, inl, inr}
use Rattle.std.specs.Prelude.{nat_eq, filter, not}
use Rattle.std.specs.List.{list_any, flat_map}
use Rattle.std.specs.List.Sorted.{IsStrictlySortedBy}
use Rattle.std.specs.declared.cmp.Ordering.{Ordering}
use Rattle.std.specs.declared.cmp.Ordering.TheVariants.{Less, Equal, Greater}
use Rattle.std.specs.Ordering.{nat_cmp, ordering_reverse, ordering_then}
use Rattle.std.specs.Cmp.{nat_cmp_total}
use Rattle.std.specs.FinMap.{nat_cmp-IsAntisymmetric}
use Rattle.std.proofs.lemmas.Bool.{eq-eqb, eqb-true}
use Rattle.std.proofs.lemmas.Cmp.{tied_itself}
use Rattle.std.proofs.lemmas.Map.Keys.{sorted_head, sorted_tail}
use Rattle.definitions.specs.Name.{Name, low, same, labels_eq, name_cmp}
use Rattle.definitions.specs.Zone.{is_kept}
use Rattle.definitions.proofs.Members.{either, In, in_append_left, any_in, any_of, both_ways}
use Rattle.definitions.proofs.NameLaws.{labels_decide, same_is_equal}
use Rattle.definitions.proofs.ZoneNames.{and_parts}
use Rattle.plain.specs.Records.{record_canonical_cmp}
use Rattle.plain.specs.declared.record.Record.{Record}
use Rattle.denial_rrsets.specs.Groups.{groups, of_one_owner, group_owner, neighbours}
use Rattle.denial_chain_owners.specs.Conditions.{IsCanonicalOrder, IsOneClass}
use Rattle.denial_chain_owners.specs.Kept.{kept_groups}
use Rattle.denial_chain_owners.specs.Ttls.{has_unequal_ttls, unlike_ttls}
use Rattle.denial_chain_owners.specs.Zones.{zone_of}
use Rattle.denial_chain_owners.proofs.ByOwner.{ByOwner, all_at, by_owner, class_at, whole_of}
use Rattle.denial_chain_owners.proofs.AtOwner.{any_agree, any_filter, any_flat, group_is_filter}
use Rattle.denial_chain_owners.proofs.Cuts.{or_later}

or_first : (a b : Bool) → a ≡ true → (a || b) ≡ true
or_first true b e = refl
or_first false b e = absurd cc

and_cases : (a b c : Bool) → a ≡ true → c ≡ true → (a && b && c) ≡ false → b ≡ false
and_cases true true true e f h = absurd cc
and_cases true false c e f h = refl
and_cases true true false e f h = absurd cc
and_cases false b c e f h = absurd cc

eq_turned : (a b : ℕ) → nat_eq a b ≡ nat_eq b a
eq_turned a b = both_ways (nat_eq a b) (nat_eq b a) (λ e. eq-eqb b a (sym (eqb-true a b e))) (λ e. eq-eqb a b (sym (eqb-true b a e)))

any_const : {A : Type 0} (b : Bool) (p : A → Bool) (xs : List A) → list_any (λ x. b && p x) xs ≡ (b && list_any p xs)
any_const true p xs = refl
any_const false p [] = refl
any_const false p (x ∷ xs) = any_const false p xs

not_not : (b : Bool) → not b ≡ true → b ≡ false
not_not true e = absurd cc
not_not false e = refl

squeezed : (a b c : ℕ) → nat_cmp a b ≢ Greater → nat_cmp b c ≢ Greater → a ≡ c → a ≡ b
squeezed a b c f g e = nat_cmp-IsAntisymmetric a b (go (nat_cmp a b) refl)
  where
    go : (o : Ordering) → nat_cmp a b ≡ o → nat_cmp a b ≡ Equal
    go Less h = absurd (g (ap (nat_cmp b) (sym e) ∙ nat_cmp_total.antisymm b a ∙ ap ordering_reverse h))
    go Equal h = h
    go Greater h = absurd (f h)

module _ {N D : Type 0} (rtype : D → ℕ) where
  abbrev unlike : Record N D → Record N D → Bool
  unlike = unlike_ttls rtype

  -- What unlike records have.
  record Unlike (r s : Record N D) : Type 0 where
    types : rtype r.content ≡ rtype s.content
    ttls : nat_eq r.ttl s.ttl ≡ false
    other : nat_eq (rtype r.content) 46 ≡ false

  unlike_parts : (r s : Record N D) → unlike r s ≡ true → Unlike r s
  unlike_parts r s e =
      let a = and_parts (nat_eq (rtype r.content) (rtype s.content) && not (nat_eq r.ttl s.ttl)) (not (nat_eq (rtype r.content) 46)) e in
      let b = and_parts (nat_eq (rtype r.content) (rtype s.content)) (not (nat_eq r.ttl s.ttl)) a.0 in
      record { types = eqb-true (rtype r.content) (rtype s.content) b.0; ttls = not_not (nat_eq r.ttl s.ttl) b.1; other = not_not (nat_eq (rtype r.content) 46) a.1 }

  unlike_from : (r s : Record N D) → Unlike r s → unlike r s ≡ true
  unlike_from r s u = λ i. eq-eqb (rtype r.content) (rtype s.content) u.types i && not (u.ttls i) && not (u.other i)

  unlike_turned : (r s : Record N D) → Unlike r s → Unlike s r
  unlike_turned r s u = record { types = sym u.types; ttls = eq_turned s.ttl r.ttl ∙ u.ttls; other = ap (λ t. nat_eq t 46) (sym u.types) ∙ u.other }

  unlike_itself : (r : Record N D) → Unlike r r → ⊥
  unlike_itself r u = let x : true ≡ false = sym (eq-eqb r.ttl r.ttl refl) ∙ u.ttls in cc

  -- types that don't fall
  abbrev pub TypesUp : List (Record N D) → Type 0
  TypesUp [] = Unit {0}
  TypesUp (r ∷ rs) = ((s : Record N D) → In s rs → nat_cmp (rtype r.content) (rtype s.content) ≢ Greater) × TypesUp rs

  next_unlike : (r : Record N D) (rs : List (Record N D)) (s : Record N D) → In s rs → TypesUp (r ∷ rs) → Unlike r s → neighbours unlike (r ∷ rs) ≡ true
  next_unlike r [] s i up u = absurd i
  next_unlike r (q ∷ rs) s i up u = elim i [
    | inl e ↦ or_first (unlike r q) (neighbours unlike (q ∷ rs)) (ap (unlike r) (sym e) ∙ unlike_from r s u)
    | inr j ↦
        let types : rtype r.content ≡ rtype q.content = squeezed (rtype r.content) (rtype q.content) (rtype s.content) (up.0 q (inl refl)) (up.1.0 s j) u.types in
        go (nat_eq r.ttl q.ttl) refl types (next_unlike q rs s j up.1)
  ]
    where
      go : (b : Bool) → nat_eq r.ttl q.ttl ≡ b → rtype r.content ≡ rtype q.content → (Unlike q s → neighbours unlike (q ∷ rs) ≡ true) → neighbours unlike (r ∷ q ∷ rs) ≡ true
      go false e t f = or_first (unlike r q) (neighbours unlike (q ∷ rs)) (unlike_from r q (record { types = t; ttls = e; other = u.other }))
      go true e t f =
          let ttl : r.ttl ≡ q.ttl = eqb-true r.ttl q.ttl e in
          or_later (unlike r q) (neighbours unlike (q ∷ rs))
          (f (record { types = sym t ∙ u.types; ttls = ap (λ n. nat_eq n s.ttl) (sym ttl) ∙ u.ttls; other = ap (λ n. nat_eq n 46) (sym t) ∙ u.other }))

  behind_first : (q : Record N D) (g : List (Record N D)) → neighbours unlike g ≡ true → neighbours unlike (q ∷ g) ≡ true
  behind_first q [] h = absurd cc
  behind_first q (x ∷ g) h = or_later (unlike q x) (neighbours unlike (x ∷ g)) h

  found : (g : List (Record N D)) → TypesUp g → (r s : Record N D) → In r g → In s g → Unlike r s → neighbours unlike g ≡ true
  found [] up r s i j u = absurd i
  found (q ∷ g) up r s i j u = elim i [
    | inl e ↦ elim j [
      | inl f ↦ absurd (unlike_itself r (subst (Unlike r) (f ∙ sym e) u))
      | inr k ↦ next_unlike q g s k up (subst (λ x. Unlike x s) e u)
    ]
    | inr k ↦ elim j [
      | inl f ↦ next_unlike q g r k up (subst (λ x. Unlike x r) f (unlike_turned r s u))
      | inr l ↦ behind_first q g (found g up.1 r s k l u)
    ]
  ]

  -- Two records of some that are unlike.
  record Two (g : List (Record N D)) : Type 0 where
    one : Record N D
    other : Record N D
    has : In one g
    has_other : In other g
    are : unlike one other ≡ true

  two_there : (g : List (Record N D)) → neighbours unlike g ≡ true → Two g
  two_there [] h = absurd cc
  two_there (a ∷ []) h = absurd cc
  two_there (a ∷ b ∷ g) h = elim (either (unlike a b) (neighbours unlike (b ∷ g)) h) [
    | inl e ↦ record { one = a; other = b; has = inl refl; has_other = inr (inl refl); are = e }
    | inr e ↦ let t = two_there (b ∷ g) e in record { one = t.one; other = t.other; has = inr t.has; has_other = inr t.has_other; are = t.are }
  ]

  pub pairs_are : (g : List (Record N D)) → TypesUp g → list_any (λ r. list_any (unlike r) g) g ≡ neighbours unlike g
  pairs_are g up = both_ways _ _
      (λ h.
      let r = any_of (λ r. list_any (unlike r) g) g h in
      let s = any_of (unlike r.0) g r.1.1 in
      found g up r.0 s.0 r.1.0 s.1.0 (unlike_parts r.0 s.0 s.1.1))
      (λ h. let t = two_there g h in any_in (λ r. list_any (unlike r) g) g t.one t.has (any_in (unlike t.one) g t.other t.has_other t.are))

module _ {N D : Type 0} (name : N → Name) (rtype : D → ℕ) (by_data : D → D → Ordering) where
  abbrev cmp : Record N D → Record N D → Ordering
  cmp = record_canonical_cmp name rtype by_data

  type_up : (r s : Record N D) → cmp r s ≡ Less → r.class ≡ s.class → low (name r.owner) ≡ low (name s.owner) → nat_cmp (rtype r.content) (rtype s.content) ≢ Greater
  type_up r s l c o e =
      let class : nat_cmp r.class s.class ≡ Equal = ap (λ k. nat_cmp k s.class) c ∙ tied_itself nat_cmp_total s.class in
      let owner : name_cmp (name r.owner) (name s.owner) ≡ Equal = same_is_equal (name r.owner) (name s.owner) ((labels_decide (low (name r.owner)) (low (name s.owner))).1 o) in
      let x : Greater ≡ Less = sym (λ i. ordering_then (class i) (ordering_then (owner i) (ordering_then (e i) (by_data r.content s.content)))) ∙ l in
      cc

  sorted_front : (xs ys : List (Record N D)) → IsStrictlySortedBy cmp (xs ++ ys) → ((r s : Record N D) → In r xs → In s xs → r.class ≡ s.class) → ((r s : Record N D) → In r xs → In s xs → low (name r.owner) ≡ low (name s.owner)) → TypesUp rtype xs
  sorted_front [] ys h c o = tt
  sorted_front (x ∷ xs) ys h c o = (
    (λ s i. type_up x s (all_at (λ y. cmp x y ≡ Less) (xs ++ ys) s (sorted_head cmp x (xs ++ ys) h) (in_append_left xs ys s i)) (c x s (inl refl) (inr i)) (o x s (inl refl) (inr i))),
    sorted_front xs ys (sorted_tail cmp x (xs ++ ys) h) (λ r s i j. c r s (inr i) (inr j)) (λ r s i j. o r s (inr i) (inr j)),
  )

  sorted_back : (xs ys : List (Record N D)) → IsStrictlySortedBy cmp (xs ++ ys) → IsStrictlySortedBy cmp ys
  sorted_back [] ys h = h
  sorted_back (x ∷ xs) ys h = sorted_back xs ys (sorted_tail cmp x (xs ++ ys) h)

  group_up : (gs : List (List (Record N D))) → IsStrictlySortedBy cmp (flat_map (λ g. g) gs) → (g : List (Record N D)) → In g gs
      → ((r s : Record N D) → In r g → In s g → r.class ≡ s.class) → ((r s : Record N D) → In r g → In s g → low (name r.owner) ≡ low (name s.owner)) → TypesUp rtype g
  group_up [] h g i c o = absurd i
  group_up (x ∷ gs) h g i c o = elim i [
    | inl e ↦ subst (TypesUp rtype) (sym e) (sorted_front x (flat_map (λ g. g) gs) h (λ r s a b. c r s (subst (In r) (sym e) a) (subst (In s) (sym e) b)) (λ r s a b. o r s (subst (In r) (sym e) a) (subst (In s) (sym e) b)))
    | inr j ↦ group_up gs (sorted_back x (flat_map (λ g. g) gs) h) g j c o
  ]

  module _ (canonical : D → List ℕ) (apex : Name) (excluding : Bool) (rs : List (Record N D)) (one : IsOneClass rs) (order : IsCanonicalOrder name rtype by_data rs) where
    abbrev gs : List (List (Record N D))
    gs = groups (of_one_owner name) rs

    by : ByOwner name gs
    by = by_owner name rtype by_data rs one order

    abbrev keeps : List (Record N D) → Bool
    keeps g = is_kept (zone_of name rtype canonical apex rs) excluding (group_owner name g)

    in_all : (g : List (Record N D)) → In g gs → (r : Record N D) → In r g → In r rs
    in_all g i r j = subst (In r) (whole_of name rs) (Rattle.definitions.proofs.Members.in_flat (λ g. g) gs g r i j)

    up_there : (g : List (Record N D)) → In g gs → TypesUp rtype g
    up_there g i =
        group_up gs (subst (IsStrictlySortedBy cmp) (sym (whole_of name rs)) order) g i
        (λ r s a b. class_at name rs one r s (in_all g i r a) (in_all g i s b))
        (λ r s a b. by.owned g i r a ∙ sym (by.owned g i s b))

    eq_back : (a b c : Name) → a ≡ c → labels_eq a b ≡ labels_eq b c
    eq_back a b c e = both_ways (labels_eq a b) (labels_eq b c)
        (λ h. (labels_decide b c).1 (sym ((labels_decide a b).0 h) ∙ e))
        (λ h. (labels_decide a b).1 (e ∙ sym ((labels_decide b c).0 h)))

    -- of the owner's records, those of its group
    alike_in_group : (g : List (Record N D)) → In g gs → (r : Record N D) → In r g → list_any (λ s. same (name r.owner) (name s.owner) && unlike_ttls rtype r s) rs ≡ list_any (unlike_ttls rtype r) g
    alike_in_group g i r j =
        any_agree (λ s. same (name r.owner) (name s.owner) && unlike_ttls rtype r s) (λ s. labels_eq (low (name s.owner)) (group_owner name g) && unlike_ttls rtype r s) rs
        (λ s k. ap (λ b. b && unlike_ttls rtype r s) (eq_back (low (name r.owner)) (low (name s.owner)) (group_owner name g) (by.owned g i r j)))
        ∙ sym (any_filter (λ s. labels_eq (low (name s.owner)) (group_owner name g)) (unlike_ttls rtype r) rs)
        ∙ ap (λ xs. list_any (unlike_ttls rtype r) (filter (λ s. labels_eq (low (name s.owner)) (group_owner name g)) xs)) (sym (whole_of name rs))
        ∙ ap (list_any (unlike_ttls rtype r)) (group_is_filter name gs by g i)

    abbrev of_record : Record N D → Bool
    of_record r =
        is_kept (zone_of name rtype canonical apex rs) excluding (low (name r.owner))
        && list_any (λ s. same (name r.owner) (name s.owner) && unlike_ttls rtype r s) rs

    in_group : (g : List (Record N D)) → In g gs → list_any of_record g ≡ (keeps g && neighbours (unlike_ttls rtype) g)
    in_group g i =
        any_agree of_record (λ r. keeps g && list_any (unlike_ttls rtype r) g) g
        (λ r j k. is_kept (zone_of name rtype canonical apex rs) excluding (by.owned g i r j k) && alike_in_group g i r j k)
        ∙ any_const (keeps g) (λ r. list_any (unlike_ttls rtype r) g) g
        ∙ ap (λ b. keeps g && b) (pairs_are rtype g (up_there g i))

    -- side by side in the groups that are kept
    pub unequal_ttls_are : list_any (neighbours (unlike_ttls rtype)) (kept_groups name rtype canonical apex excluding rs) ≡ has_unequal_ttls name rtype canonical apex excluding rs
    unequal_ttls_are =
        any_filter keeps (neighbours (unlike_ttls rtype)) gs
        ∙ sym (any_agree (list_any of_record) (λ g. keeps g && neighbours (unlike_ttls rtype) g) gs in_group)
        ∙ sym (any_flat of_record gs)
        ∙ ap (list_any of_record) (whole_of name rs)
