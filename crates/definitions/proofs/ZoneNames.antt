-- Names up to case, and the names of a zone's chains.
use Rattle.std.proofs.Common.{◌≡◌, ℕ, suc, ◌≤◌, Bool, true, false, ◌&&◌, ◌||◌, List, [], ◌∷◌, length, Option, Some, None, refl, sym, ap, ◌∙◌, inl, inr, arith}
use Rattle.std.specs.Prelude.{filter, not, if◌then◌else◌}
use Rattle.std.specs.List.{list_any, flat_map, Contains}
use Rattle.std.specs.Option.{is_none}
use Rattle.std.specs.Str.{str_to_ascii_lowercase}
use Rattle.std.specs.declared.cmp.Ordering.TheVariants.{Less, Greater}
use Rattle.std.specs.Ordering.{is_lt, ordering_reverse}
use Rattle.std.proofs.lemmas.Str.Ascii.{lowercase-lowercase}
use Rattle.definitions.specs.Name.{Name, low, same, labels_eq, name_cmp, at_or_above}
use Rattle.definitions.specs.Covering.{before}
use Rattle.definitions.specs.Zone.{Zone, owner_of, apex_of, owners, has, is_delegation, cut, cut_above, is_live, is_kept, kept_owners, kept}
use Rattle.definitions.specs.ZoneChain.{with_parents, nsec_names, nsec3_names}
use Rattle.definitions.specs.Laws.{rising}
use Rattle.definitions.proofs.Members.{either, In, map_in, in_flat, flat_in, in_filter, filter_in, any_of, any_in, in_contained, Rises, ExactAmong, sort_has, sort_keeps, sort_rises}
use Rattle.definitions.proofs.NameLaws.{name_cmp_total, labels_decide, equal_is_same, apex_first}

-- ---- lower case

label-lowered : (l : List ℕ) → str_to_ascii_lowercase (str_to_ascii_lowercase l) ≡ str_to_ascii_lowercase l
label-lowered [] = refl
label-lowered (c ∷ l) = λ i. lowercase-lowercase c i ∷ label-lowered l i

pub low-low : (n : Name) → low (low n) ≡ low n
low-low [] = refl
low-low (l ∷ n) = λ i. label-lowered l i ∷ low-low n i

low-length : (n : Name) → length (low n) ≡ length n
low-length [] = refl
low-length (l ∷ n) = ap suc (low-length n)

pub above_lowered : (n m : Name) → at_or_above n (low m) ≡ at_or_above n m
above_lowered n [] = refl
above_lowered n (l ∷ m) = λ i. labels_eq (low n) (low-low (l ∷ m) i) || above_lowered n m i

pub lowered_above : (n m : Name) → at_or_above (low n) m ≡ at_or_above n m
lowered_above n [] = λ i. labels_eq (low-low n i) []
lowered_above n (l ∷ m) = λ i. labels_eq (low-low n i) (low (l ∷ m)) || lowered_above n m i

pub same_lowered : (a b : Name) → low a ≡ a → low b ≡ b → same a b ≡ true → a ≡ b
same_lowered a b la lb e = sym la ∙ (labels_decide (low a) (low b)).0 e ∙ lb

-- ---- at or above, by length

pub same-length : (n m : Name) → same n m ≡ true → length n ≡ length m
same-length n m h = sym (low-length n) ∙ ap length ((labels_decide (low n) (low m)).0 h) ∙ low-length m

pub above_longer : (n m : Name) → at_or_above n m ≡ true → length n ≤ length m
above_longer n [] h = let e : length n ≡ length {A = List ℕ} [] = same-length n [] h in omega arith
above_longer n (l ∷ m) h = elim (either (same n (l ∷ m)) (at_or_above n m) h) [
  | inl s ↦ let e : length n ≡ length (l ∷ m) = same-length n (l ∷ m) s in omega arith
  | inr a ↦ let e : length n ≤ length m = above_longer n m a in omega arith
]

pub above_itself : (n : Name) → at_or_above n n ≡ true
above_itself [] = refl
above_itself (l ∷ n) = ap (λ b. b || at_or_above (l ∷ n) n) ((labels_decide (low (l ∷ n)) (low (l ∷ n))).1 refl)

not_true : (b : Bool) → (b ≡ true → ⊥) → b ≡ false
not_true true f = absurd (f refl)
not_true false f = refl

both_false : (s t : Bool) → t ≡ false → (s && t) ≡ false
both_false true t h = h
both_false false t h = refl

pub and_parts : (s t : Bool) → (s && t) ≡ true → (s ≡ true) × (t ≡ true)
and_parts true t h = (refl, h)
and_parts false t h = absurd cc

pub and_from : (s t : Bool) → s ≡ true → t ≡ true → (s && t) ≡ true
and_from s t e f = λ i. e i && f i

-- what a name of a zone stands at or above, if it is in lower case
above_parent : (n o : Name) → at_or_above n o ≡ true → low n ≡ n → low o ≡ o → In n (with_parents o)
above_parent n [] h ln lo = inl (same_lowered n [] ln refl h)
above_parent n (l ∷ o) h ln lo = elim (either (same n (l ∷ o)) (at_or_above n o) h) [
  | inl s ↦ inl (same_lowered n (l ∷ o) ln lo s)
  | inr a ↦ inr (above_parent n o a ln (let e : low (l ∷ o) ≡ l ∷ o = lo in cc))
]

parents_lowered : (n o : Name) → low o ≡ o → In n (with_parents o) → low n ≡ n
parents_lowered n [] lo h = elim h [ inl e ↦ ap low e ∙ sym e | inr i ↦ absurd i ]
parents_lowered n (l ∷ o) lo h = elim h [
  | inl e ↦ ap low e ∙ lo ∙ sym e
  | inr i ↦ parents_lowered n o (let e : low (l ∷ o) ≡ l ∷ o = lo in cc) i
]

-- names that are in lower case are one where they compare equal
pub lowered_exact : (xs : List Name) → ((n : Name) → In n xs → low n ≡ n) → ExactAmong name_cmp name_cmp_total xs
lowered_exact xs f a b i j e = same_lowered a b (f a i) (f b j) (equal_is_same a b e)

-- names that rise, in order
pub rising_test : (ns : List Name) → Rises name_cmp name_cmp_total ns → rising ns ≡ true
rising_test [] h = refl
rising_test (a ∷ []) h = refl
rising_test (a ∷ b ∷ ns) h = and_from (before a b) (rising (b ∷ ns)) (ap is_lt (h.0 b (inl refl))) (rising_test (b ∷ ns) h.1)

module _ (z : Zone) where
  pub owner_lowered : (o : Name) → In o (owners z) → low o ≡ o
  owner_lowered o h = let f = map_in owner_of z.records o h in ap low f.makes ∙ low-low f.item.spelled ∙ sym f.makes

  -- ---- the apex is live

  no_delegation : (q : Name) → length q ≤ length (apex_of z) → is_delegation z q ≡ false
  no_delegation [] h = both_false (has z [] 2) false refl
  no_delegation (l ∷ q) h = both_false (has z (l ∷ q) 2) (at_or_above (apex_of z) q) (not_true (at_or_above (apex_of z) q) (λ a. let e = above_longer (apex_of z) q a in omega arith))

  abbrev topmost : Option Name → Bool → Name → Option Name
  topmost c d q = elim c [ None ↦ (if d then Some q else None) | Some n ↦ Some n ]

  no_cut : (q : Name) → length q ≤ length (apex_of z) → cut z q ≡ None
  no_cut [] h = refl
  no_cut (l ∷ q) h = λ i. topmost (no_cut q (omega arith) i) (no_delegation (l ∷ q) h i) (l ∷ q)

  no_cut_above : (q : Name) → length q ≤ length (apex_of z) → cut_above z q ≡ None
  no_cut_above [] h = refl
  no_cut_above (l ∷ q) h = no_cut q (omega arith)

  apex_live : is_live z (apex_of z) ≡ true
  apex_live = and_from _ _ (above_itself (apex_of z)) (ap (λ c. is_none c) (no_cut_above (apex_of z) (omega arith)))

  and_true : (b : Bool) → (b && true) ≡ b
  and_true true = refl
  and_true false = refl

  pub kept-live : (o : Name) → is_kept z false o ≡ is_live z o
  kept-live o = and_true (is_live z o)

  not_left_out : (b c : Bool) → not (b && false && c) ≡ true
  not_left_out true c = refl
  not_left_out false c = refl

  pub apex_kept : (excluding : Bool) → is_kept z excluding (apex_of z) ≡ true
  apex_kept excluding =
      and_from _ _ apex_live
      ((λ i. not (excluding && no_delegation (apex_of z) (omega arith) i && not (has z (apex_of z) 43)))
      ∙ not_left_out excluding (not (has z (apex_of z) 43)))

  -- ---- the names of the chains

  pub kept_owner_lowered : (excluding : Bool) (o : Name) → In o (kept_owners z excluding) → low o ≡ o
  kept_owner_lowered excluding o h = owner_lowered o (filter_in (is_kept z excluding) (owners z) o h).0

  pub live_owner : (o : Name) → In o (nsec_names z) → In o (owners z) × (is_live z o ≡ true)
  live_owner o h =
      let k = filter_in (is_kept z false) (owners z) o (sort_has name_cmp name_cmp_total (kept_owners z false) o h) in
      (k.0, sym (kept-live o) ∙ k.1)

  pub owner_in_chain : (o : Name) → In o (owners z) → is_live z o ≡ true → In o (nsec_names z)
  owner_in_chain o h l =
      sort_keeps name_cmp name_cmp_total (kept_owners z false) o (lowered_exact (kept_owners z false) (kept_owner_lowered false))
      (in_filter (is_kept z false) (owners z) o h (kept-live o ∙ l))

  kept-low : (excluding : Bool) (q : Name) → kept z excluding (low q) ≡ kept z excluding q
  kept-low excluding q = λ i. above_lowered (apex_of z) q i && list_any (λ o. lowered_above q o i) (kept_owners z excluding)

  abbrev candidates : Bool → List Name
  candidates excluding = filter (kept z excluding) (flat_map with_parents (kept_owners z excluding))

  candidate_lowered : (excluding : Bool) (n : Name) → In n (candidates excluding) → low n ≡ n
  candidate_lowered excluding n h =
      let f = flat_in with_parents (kept_owners z excluding) n (filter_in (kept z excluding) _ n h).0 in
      parents_lowered n f.item (kept_owner_lowered excluding f.item f.inside) f.makes

  pub chain_lowered : (excluding : Bool) (n : Name) → In n (nsec3_names z excluding) → low n ≡ n
  chain_lowered excluding n h = candidate_lowered excluding n (sort_has name_cmp name_cmp_total (candidates excluding) n h)

  pub chain_kept : (excluding : Bool) (q : Name) → In (low q) (nsec3_names z excluding) → kept z excluding q ≡ true
  chain_kept excluding q h =
      sym (kept-low excluding q)
      ∙ (filter_in (kept z excluding) _ (low q) (sort_has name_cmp name_cmp_total (candidates excluding) (low q) h)).1

  pub kept_in_chain : (excluding : Bool) (q : Name) → kept z excluding q ≡ true → In (low q) (nsec3_names z excluding)
  kept_in_chain excluding q h =
      let k : kept z excluding (low q) ≡ true = kept-low excluding q ∙ h in
      let o = any_of (at_or_above (low q)) (kept_owners z excluding) (and_parts (at_or_above (apex_of z) (low q)) _ k).1 in
      let there : In (low q) (with_parents o.0) = above_parent (low q) o.0 o.1.1 (low-low q) (kept_owner_lowered excluding o.0 o.1.0) in
      sort_keeps name_cmp name_cmp_total (candidates excluding) (low q) (lowered_exact (candidates excluding) (candidate_lowered excluding))
      (in_filter (kept z excluding) _ (low q) (in_flat with_parents (kept_owners z excluding) o.0 (low q) o.1.0 there) k)

  -- the apex is in both, where it owns records
  pub apex_in_chain : (excluding : Bool) → Contains (owners z) (apex_of z) → kept z excluding (apex_of z) ≡ true
  apex_in_chain excluding c =
      let there = in_contained (owners z) (apex_of z) c.0 c.1 c.2 in
      and_from _ _ (above_itself (apex_of z))
      (any_in (at_or_above (apex_of z)) (kept_owners z excluding) (apex_of z) (in_filter (is_kept z excluding) (owners z) (apex_of z) there (apex_kept excluding)) (above_itself (apex_of z)))

  -- ---- the first name of the NSEC chain is the apex

  flipped : (a b : Name) → name_cmp a b ≡ Less → name_cmp b a ≡ Greater
  flipped a b e = name_cmp_total.antisymm b a ∙ ap ordering_reverse e

  begins : (ns : List Name) → Rises name_cmp name_cmp_total ns → In (apex_of z) ns → ((o : Name) → In o ns → at_or_above (apex_of z) o ≡ true) → (xs : List Name) × (ns ≡ apex_of z ∷ xs)
  begins [] r h f = absurd h
  begins (x ∷ xs) r h f = elim h [
    | inl e ↦ (xs, ap (λ y. y ∷ xs) (sym e))
    | inr i ↦ absurd (apex_first (apex_of z) x (f x (inl refl)) (flipped x (apex_of z) (r.0 (apex_of z) i)))
  ]

  pub chain_begins : Contains (owners z) (apex_of z) → (xs : List Name) × (nsec_names z ≡ apex_of z ∷ xs)
  chain_begins c =
      begins (nsec_names z) (sort_rises name_cmp name_cmp_total (kept_owners z false))
      (owner_in_chain (apex_of z) (in_contained (owners z) (apex_of z) c.0 c.1 c.2) apex_live)
      (λ o i. (and_parts (at_or_above (apex_of z) o) _ (live_owner o i).1).0)
