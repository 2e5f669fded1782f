-- Delegations above a name.
use Rattle.std.proofs.Common.{◌≡◌, ℕ, suc, ◌≤◌, Bool, true, false, ◌||◌, List, [], ◌∷◌, length, Option, Some, None, refl, sym, ap, subst, ◌∙◌, ◌⊎◌, inl, inr, arith}
use Rattle.std.specs.Prelude.{not, if◌then◌else◌}
use Rattle.std.specs.Option.{is_none}
use Rattle.std.specs.declared.cmp.Ordering.TheVariants.{Less, Equal, Greater}
use Rattle.definitions.specs.Name.{Name, low, same, name_cmp, at_or_above, strictly_above}
use Rattle.definitions.specs.Zone.{Zone, apex_of, has, is_delegation, cut, cut_above}
use Rattle.definitions.proofs.NameLaws.{name_cmp_total, labels_decide, same_is_equal, apex_first}
use Rattle.definitions.proofs.Members.{either}
use Rattle.definitions.proofs.ZoneNames.{same-length, above_longer, above_itself, and_parts, same_lowered}

pub or_later : (s t : Bool) → t ≡ true → (s || t) ≡ true
or_later true t h = refl
or_later false t h = h

pub not_true : (b : Bool) → (b ≡ true → ⊥) → b ≡ false
not_true true f = absurd (f refl)
not_true false f = refl

-- strictly above is at or above, and not the same
pub strictly : (n m : Name) → at_or_above n m ≡ true → strictly_above n m ≡ not (same n m)
strictly n [] h = sym (ap not h)
strictly n (l ∷ m) h = go (same n (l ∷ m)) refl h
  where
    go : (s : Bool) → same n (l ∷ m) ≡ s → (s || at_or_above n m) ≡ true → at_or_above n m ≡ not s
    go true e k = not_true (at_or_above n m) (λ a.
        let x : length n ≡ length (l ∷ m) = same-length n (l ∷ m) e in
        let y : length n ≤ length m = above_longer n m a in
        omega arith)
    go false e k = k

pub strictly_is_above : (n m : Name) → strictly_above n m ≡ true → at_or_above n m ≡ true
strictly_is_above n [] h = absurd cc
strictly_is_above n (l ∷ m) h = or_later (same n (l ∷ m)) (at_or_above n m) h

-- at or above a greater name is strictly above it
pub above_less : (n m : Name) → at_or_above n m ≡ true → name_cmp n m ≡ Less → strictly_above n m ≡ true
above_less n m h l =
    strictly n m h ∙ ap not (not_true (same n m) (λ s. let e : Equal ≡ Less = sym (same_is_equal n m s) ∙ l in cc))

-- strictly above is before
pub strictly_before : (n m : Name) → strictly_above n m ≡ true → name_cmp n m ≡ Less
strictly_before n m h = go (name_cmp n m) refl
  where
    a : at_or_above n m ≡ true
    a = strictly_is_above n m h

    go : (o : Rattle.std.specs.declared.cmp.Ordering.Ordering) → name_cmp n m ≡ o → o ≡ Less
    go Less e = refl
    go Equal e =
        let s : same n m ≡ true = Rattle.definitions.proofs.NameLaws.equal_is_same n m e in
        let x : true ≡ false = sym h ∙ strictly n m a ∙ ap not s in
        absurd cc
    go Greater e = absurd (apex_first n m a e)

module _ (z : Zone) where
  abbrev topmost : Option Name → Bool → Name → Option Name
  topmost c d q = elim c [ None ↦ (if d then Some q else None) | Some n ↦ Some n ]

  pub delegation_below : (q : Name) → is_delegation z q ≡ true → strictly_above (apex_of z) q ≡ true
  delegation_below q h = (and_parts (has z q 2) (strictly_above (apex_of z) q) h).1

  pub delegation_has : (q : Name) → is_delegation z q ≡ true → has z q 2 ≡ true
  delegation_has q h = (and_parts (has z q 2) (strictly_above (apex_of z) q) h).0

  -- a delegation at or above a name: there is a topmost one
  cut_at : (d q : Name) → low d ≡ d → low q ≡ q → is_delegation z d ≡ true → at_or_above d q ≡ true → is_none (cut z q) ≡ false
  cut_at d [] ld lq h a =
      let e : d ≡ [] = same_lowered d [] ld refl a in
      let x : false ≡ true = sym (ap (strictly_above (apex_of z)) e) ∙ delegation_below d h in
      absurd cc
  cut_at d (l ∷ q) ld lq h a = go (cut z q) refl (either (same d (l ∷ q)) (at_or_above d q) a) (λ k b. cut_at d q ld k h b)
    where
      go : (c : Option Name) → cut z q ≡ c → (same d (l ∷ q) ≡ true) ⊎ (at_or_above d q ≡ true) → (low q ≡ q → at_or_above d q ≡ true → is_none (cut z q) ≡ false) → is_none (topmost c (is_delegation z (l ∷ q)) (l ∷ q)) ≡ false
      go (Some c) e w f = refl
      go None e w again = elim w [
        | inl s ↦
            let f : d ≡ l ∷ q = same_lowered d (l ∷ q) ld lq s in
            ap (λ b. is_none (topmost None b (l ∷ q))) (sym (ap (is_delegation z) f) ∙ h)
        | inr b ↦
            let lower : low q ≡ q = let x : low (l ∷ q) ≡ l ∷ q = lq in cc in
            let x : true ≡ false = sym (ap is_none e) ∙ again lower b in
            absurd cc
      ]

  pub cut_there : (d q : Name) → low d ≡ d → low q ≡ q → is_delegation z d ≡ true → strictly_above d q ≡ true → is_none (cut_above z q) ≡ false
  cut_there d [] ld lq h a = absurd cc
  cut_there d (l ∷ q) ld lq h a = cut_at d q ld (let x : low (l ∷ q) ≡ l ∷ q = lq in cc) h a

  -- The topmost delegation at or above a name.
  pub record IsTopmost (t q : Name) : Type 0 where
    pub delegates : is_delegation z t ≡ true
    pub above : at_or_above t q ≡ true
    pub top : cut_above z t ≡ None

  topmost_is : (q t : Name) → cut z q ≡ Some t → IsTopmost t q
  topmost_is [] t e = absurd cc
  topmost_is (l ∷ q) t e = go (cut z q) refl (is_delegation z (l ∷ q)) refl e (λ k. topmost_is q t k)
    where
      go : (c : Option Name) → cut z q ≡ c → (b : Bool) → is_delegation z (l ∷ q) ≡ b → topmost c b (l ∷ q) ≡ Some t → (cut z q ≡ Some t → IsTopmost t q) → IsTopmost t (l ∷ q)
      go (Some c) f b g h again =
          let k : cut z q ≡ Some t = f ∙ h in
          let r = again k in
          record { delegates = r.delegates; above = or_later (same t (l ∷ q)) (at_or_above t q) r.above; top = r.top }
      go None f true g h again =
          let k : l ∷ q ≡ t = cc in
          let P : Name → Type 0 = λ u. IsTopmost u (l ∷ q) in
          subst P k (record { delegates = g; above = above_itself (l ∷ q); top = f })
      go None f false g h again = absurd cc

  pub topmost_above : (q t : Name) → cut_above z q ≡ Some t → IsTopmost t q × (strictly_above t q ≡ true)
  topmost_above [] t e = absurd cc
  topmost_above (l ∷ q) t e =
      let r = topmost_is q t e in (
        record { delegates = r.delegates; above = or_later (same t (l ∷ q)) (at_or_above t q) r.above; top = r.top },
        r.above,
      )
