-- One walk over the owners in canonical order: what stands below a delegation stands directly behind it.
use Rattle.std.proofs.Common.{◌≡◌, ℕ, Bool, true, false, ◌&&◌, cond, List, [], ◌∷◌, ◌++◌, map, Option, Some, None, refl, sym, ap, subst, ◌∙◌, ◌⊎◌, inl, inr}
use Rattle.std.specs.Prelude.{filter, not, ◌==◌}
use Rattle.std.specs.Borrow.{Bor}
use Rattle.std.specs.Option.{is_none}
use Rattle.std.specs.List.{flat_map}
use Rattle.std.specs.declared.cmp.Ordering.TheVariants.{Less, Equal, Greater}
use Rattle.std.specs.Ordering.{ordering_reverse}
use Rattle.std.proofs.lemmas.List.{append-nil}
use Rattle.definitions.specs.Name.{Name, low, same, labels_eq, name_cmp, at_or_above, strictly_above}
use Rattle.definitions.specs.Zone.{Zone, owner_of, apex_of, owners, has, is_of, is_delegation, is_live, cut_above}
use Rattle.definitions.proofs.Members.{append_in, In, in_map, map_in, in_append_left, in_append_right, in_filter, filter_in, any_of, not_less, Rises}
use Rattle.definitions.proofs.NameLaws.{name_cmp_total, labels_decide, interval}
use Rattle.definitions.proofs.ZoneNames.{above_itself, and_parts, and_from}
use Rattle.plain.specs.declared.record.Record.{Record}
use Rattle.denial_rrsets.specs.Groups.{in_zone, zone_cut, group_owner}
use Rattle.denial_chain_owners.specs.Zones.{zone_of}
use Rattle.denial_chain_owners.specs.Kept.{below_cut}
use Rattle.denial_chain_owners.specs.Types.{has_type}
use Rattle.denial_chain_owners.proofs.ByOwner.{ByOwner}
use Rattle.denial_chain_owners.proofs.AtOwner.{filter_append, has_at, in_zone_at, delegates_at, owner_of_group, lowered_owner}
use Rattle.denial_chain_owners.proofs.Cuts.{not_true, above_less, strictly_before, strictly_is_above, cut_there, delegation_below, delegation_has, topmost_above}

-- ---- items whose names rise

module _ {A : Type 0} (f : A → Name) where
  abbrev pub Up : List A → Type 0
  Up xs = Rises name_cmp name_cmp_total (map f xs)

  pub rises_behind : (xs ys : List A) → Up (xs ++ ys) → Up ys
  rises_behind [] ys h = h
  rises_behind (x ∷ xs) ys h = rises_behind xs ys h.1

  pub before_item : (xs : List A) (y : A) (ys : List A) → Up (xs ++ y ∷ ys) → (x : A) → In x xs → name_cmp (f x) (f y) ≡ Less
  before_item [] y ys h x i = absurd i
  before_item (w ∷ xs) y ys h x i = elim i [
    | inl e ↦ ap (λ a. name_cmp (f a) (f y)) e ∙ h.0 (f y) (in_map f (xs ++ y ∷ ys) y (in_append_right xs (y ∷ ys) y (inl refl)))
    | inr j ↦ before_item xs y ys h.1 x j
  ]

  pub behind_item : (xs : List A) (y : A) (ys : List A) → Up (xs ++ y ∷ ys) → (x : A) → In x ys → name_cmp (f y) (f x) ≡ Less
  behind_item xs y ys h x i = let k : Up (y ∷ ys) = rises_behind xs (y ∷ ys) h in k.0 (f x) (in_map f ys x i)

  pub rises_front : (xs ys : List A) → Up (xs ++ ys) → Up xs
  rises_front [] ys h = tt
  rises_front (x ∷ xs) ys h = (
    (λ n i. let m = map_in f xs n i in ap (name_cmp (f x)) m.makes ∙ h.0 (f m.item) (in_map f (xs ++ ys) m.item (in_append_left xs ys m.item m.inside))),
    rises_front xs ys h.1,
  )

  pub rises_kept : (p : A → Bool) (xs : List A) → Up xs → Up (filter p xs)
  rises_kept p [] h = tt
  rises_kept p (x ∷ xs) h = go (p x) (rises_kept p xs h.1)
    where
      go : (b : Bool) → Up (filter p xs) → Up (cond b (x ∷ filter p xs) (filter p xs))
      go true r = (
        (λ n i.
            let m = map_in f (filter p xs) n i in
            ap (name_cmp (f x)) m.makes ∙ h.0 (f m.item) (in_map f xs m.item (filter_in p xs m.item m.inside).0)),
        r,
      )
      go false r = r

not_both_less : (a b : Name) → name_cmp a b ≡ Less → name_cmp b a ≡ Less → ⊥
not_both_less a b l m = let x : Less ≡ Greater = sym m ∙ name_cmp_total.antisymm b a ∙ ap ordering_reverse l in cc

module _ {N D : Type 0} (name : N → Name) (rtype : D → ℕ) (canonical : D → List ℕ) (apex : Name) (gs : List (List (Record N D))) (o : ByOwner name gs) (rs : List (Record N D)) (w : flat_map (λ g. g) gs ≡ rs) where
  abbrev pub z : Zone
  z = zone_of name rtype canonical apex rs

  abbrev pub live_cut : List (Record N D) → Bool
  live_cut g = is_live z (group_owner name g) && is_delegation z (group_owner name g)

  -- the last of the delegations among groups that are live
  abbrev pub CutIs : Option (Bor N) → List (List (Record N D)) → Type 0
  CutIs None done = filter live_cut done ≡ []
  CutIs (Some c) done = (front : List (List (Record N D))) × (g : List (Record N D)) × (filter live_cut done ≡ front ++ g ∷ []) × (low (name c.now) ≡ group_owner name g)

  owner_there : (t : Name) → has z t 2 ≡ true → In t (owners z)
  owner_there t h =
      let r = any_of (is_of t 2) z.records h in
      let e : owner_of r.0 ≡ t = (labels_decide (owner_of r.0) t).0 (and_parts (labels_eq (owner_of r.0) t) (r.0.rtype == 2) r.1.1).0 in
      let P : Name → Type 0 = λ n. In n (owners z) in
      subst P e (in_map owner_of z.records r.0 r.1.0)

  module _ (done : List (List (Record N D))) (g : List (Record N D)) (rest : List (List (Record N D))) (parts : gs ≡ done ++ g ∷ rest) where
    abbrev q : Name
    q = group_owner name g

    up : Up (group_owner name) (done ++ g ∷ rest)
    up = subst (Up (group_owner name)) parts o.rises

    inside : (d : List (Record N D)) → In d done → In d gs
    inside d i = subst (In d) (sym parts) (in_append_left done (g ∷ rest) d i)

    here : In g gs
    here = subst (In g) (sym parts) (in_append_right done (g ∷ rest) g (inl refl))

    -- what is before the group's owner was walked
    walked : (d : List (Record N D)) → In d gs → name_cmp (group_owner name d) q ≡ Less → In d done
    walked d i l = elim (append_in done (g ∷ rest) d (subst (In d) parts i)) [
      | inl j ↦ j
      | inr j ↦ elim j [
        | inl e ↦ absurd (not_less name_cmp name_cmp_total (group_owner name d) (ap (name_cmp (group_owner name d)) (ap (group_owner name) e) ∙ l))
        | inr k ↦ absurd (not_both_less (group_owner name d) q l (behind_item (group_owner name) done g rest up d k))
      ]
    ]

    -- a live delegation that was walked and stands at or above the owner cuts it off
    cuts : (d : List (Record N D)) → In d done → live_cut d ≡ true → at_or_above (group_owner name d) q ≡ true → is_none (cut_above z q) ≡ false
    cuts d i h a =
        let n = group_owner name d in
        let below : strictly_above n q ≡ true = above_less n q a (before_item (group_owner name) done g rest up d i) in
        cut_there z n q (lowered_owner name rtype canonical apex gs o rs w d (inside d i)) (lowered_owner name rtype canonical apex gs o rs w g here) (and_parts (is_live z n) (is_delegation z n) h).1 below

    none_above : (c : Option (Bor N)) → CutIs c done → cut_above z q ≡ None → below_cut name c g ≡ false
    none_above None k e = refl
    none_above (Some c) k e = not_true (in_zone name (name c.now) g) (λ a.
        let d = k.1 in
        let there : In d (filter live_cut done) = subst (In d) (sym k.2) (in_append_right k.0 (d ∷ []) d (inl refl)) in
        let f = filter_in live_cut done d there in
        let above : at_or_above (group_owner name d) q ≡ true = ap (λ n. at_or_above n q) (sym k.3) ∙ sym (in_zone_at name rtype canonical (name c.now) gs o rs w g here) ∙ a in
        let x : true ≡ false = sym (ap is_none e) ∙ cuts d f.0 f.1 above in
        cc)

    some_above : (c : Option (Bor N)) → CutIs c done → (t : Name) → cut_above z q ≡ Some t → below_cut name c g ≡ true
    some_above c k t e =
        let m = topmost_above z q t e in
        let d = owner_of_group name rtype canonical apex gs o rs w t (owner_there t (delegation_has z t m.0.delegates)) in
        let less : name_cmp (group_owner name d.0) q ≡ Less = ap (λ n. name_cmp n q) (sym d.1.1) ∙ strictly_before t q m.1 in
        let done_d : In d.0 done = walked d.0 d.1.0 less in
        let live : is_live z t ≡ true = and_from (at_or_above (apex_of z) t) (is_none (cut_above z t)) (strictly_is_above (apex_of z) t (delegation_below z t m.0.delegates)) (ap is_none m.0.top) in
        let P : Name → Type 0 = λ n. (is_live z n && is_delegation z n) ≡ true in
        let cut_d : live_cut d.0 ≡ true = subst P d.1.1 (and_from (is_live z t) (is_delegation z t) live m.0.delegates) in
        go c k d.0 d.1.1 done_d (in_filter live_cut done d.0 done_d cut_d) m.1 m.0.delegates
      where
        go : (c : Option (Bor N)) → CutIs c done → (d : List (Record N D)) → t ≡ group_owner name d → In d done → In d (filter live_cut done) → strictly_above t q ≡ true → is_delegation z t ≡ true → below_cut name c g ≡ true
        go None k d s i j a dt = absurd (subst (In d) k j)
        go (Some c) k d s i j a dt =
            let l = k.1 in
            let above : at_or_above t q ≡ true = strictly_is_above t q a in
            elim (append_in k.0 (l ∷ []) d (subst (In d) k.2 j)) [
              | inl x ↦
                  let there : In l (filter live_cut done) = subst (In l) (sym k.2) (in_append_right k.0 (l ∷ []) l (inl refl)) in
                  let f = filter_in live_cut done l there in
                  let n = group_owner name l in
                  let kept_up : Up (group_owner name) (filter live_cut done) = rises_kept (group_owner name) live_cut done (rises_front (group_owner name) done (g ∷ rest) up) in
                  let first : name_cmp t n ≡ Less = ap (λ m. name_cmp m n) s ∙ before_item (group_owner name) k.0 l [] (subst (Up (group_owner name)) k.2 kept_up) d x in
                  let second : name_cmp n q ≡ Less = before_item (group_owner name) done g rest up l f.0 in
                  let between : at_or_above t n ≡ true = interval t t n q (above_itself t) above (λ e. let y : Less ≡ Greater = sym first ∙ e in cc) (λ e. let y : Less ≡ Greater = sym second ∙ e in cc) in
                  let low_t : low t ≡ t = ap low s ∙ lowered_owner name rtype canonical apex gs o rs w d (inside d i) ∙ sym s in
                  let low_n : low n ≡ n = lowered_owner name rtype canonical apex gs o rs w l (inside l f.0) in
                  let some : is_none (cut_above z n) ≡ false = cut_there z t n low_t low_n dt (above_less t n between first) in
                  let none : is_none (cut_above z n) ≡ true = (and_parts (at_or_above (apex_of z) n) (is_none (cut_above z n)) (and_parts (is_live z n) (is_delegation z n) f.1).0).1 in
                  let y : true ≡ false = sym none ∙ some in
                  absurd cc
              | inr x ↦ elim x [
                | inl same ↦ in_zone_at name rtype canonical (name c.now) gs o rs w g here ∙ ap (λ n. at_or_above n q) (k.3 ∙ ap (group_owner name) (sym same) ∙ sym s) ∙ above
                | inr y ↦ absurd y
              ]
            ]

    pub live_at : (c : Option (Bor N)) → CutIs c done → (in_zone name apex g && not (below_cut name c g)) ≡ is_live z q
    live_at c k =
        ap (λ b. b && not (below_cut name c g)) (in_zone_at name rtype canonical apex gs o rs w g here)
        ∙ ap (λ b. at_or_above (low apex) q && b) (go (cut_above z q) refl)
      where
        go : (m : Option Name) → cut_above z q ≡ m → not (below_cut name c g) ≡ is_none m
        go None e = ap not (none_above c k e)
        go (Some t) e = ap not (some_above c k t e)

    live_parts : is_live z q ≡ true → at_or_above (low apex) q ≡ true
    live_parts h = (and_parts (at_or_above (apex_of z) q) (is_none (cut_above z q)) h).0

    -- what a group shows of its owner
    pub delegates : is_live z q ≡ true → is_delegation z q ≡ zone_cut name rtype apex g
    delegates h = delegates_at name rtype canonical apex gs o rs w g here (live_parts h)

    pub has_here : (t : ℕ) → has z q t ≡ has_type rtype t g
    has_here t = has_at name rtype canonical apex gs o rs w t g here

    one_more : (b : Bool) → live_cut g ≡ b → filter live_cut (done ++ g ∷ []) ≡ filter live_cut done ++ cond b (g ∷ []) []
    one_more b e = filter_append live_cut done (g ∷ []) ∙ ap (λ c. filter live_cut done ++ cond c (g ∷ []) []) e

    -- a live delegation is the last one, another owner isn't one
    pub cut_next : (c : Bor N) → live_cut g ≡ true → low (name c.now) ≡ q → CutIs (Some c) (done ++ g ∷ [])
    cut_next c e f = (filter live_cut done, g, one_more true e, f)

    pub cut_stays : (c : Option (Bor N)) → live_cut g ≡ false → CutIs c done → CutIs c (done ++ g ∷ [])
    cut_stays None e k = one_more false e ∙ append-nil (filter live_cut done) ∙ k
    cut_stays (Some c) e k = (k.0, k.1, one_more false e ∙ append-nil (filter live_cut done) ∙ k.2, k.3)
