-- The longest ancestor of a name that is kept, and the name one label longer on the way to the name.
use Rattle.std.proofs.Common.{◌≡◌, ℕ, ◌≤◌, Bool, true, false, List, [], ◌∷◌, length, Some, refl, sym, ap, ◌∙◌, inl, inr, arith}
use Rattle.std.specs.Prelude.{if◌then◌else◌}
use Rattle.std.proofs.lemmas.Bool.{or_cases, false≢true, false_from_ne_true}
use Rattle.definitions.specs.Name.{Name, low, same, labels_eq, at_or_above, strictly_above}
use Rattle.definitions.specs.Zone.{Zone, kept, ce}
use Rattle.definitions.proofs.NameLaws.{labels_decide}
use Rattle.definitions.proofs.ZoneNames.{same_lowered, same-length, above_longer, above_itself}
use Rattle.denial_laws.specs.OwnFacts.{kept_ancestor, next_closer}
use Rattle.denial_laws.proofs.NameFacts.{same_names, names_same, above_cases, above_both, strictly_at}
use Rattle.denial_laws.proofs.ZoneCuts.{tail_low, kept_lowered, kept_exists, IsEncloser, ce_encloses, ce_lowered}

-- ---- the name one label longer

pub closer_is : (a : List ℕ) (p q : Name) → at_or_above (a ∷ p) q ≡ true → next_closer (low p) (low q) ≡ low (a ∷ p)
closer_is a p [] h = let long : length (a ∷ p) ≤ length {A = List ℕ} [] = above_longer (a ∷ p) [] h in absurd (omega arith)
closer_is a p (l ∷ q) h = elim (or_cases (same (a ∷ p) (l ∷ q)) (at_or_above (a ∷ p) q) h) [
  | inl s ↦
      let is : low (a ∷ p) ≡ low (l ∷ q) = same_names (a ∷ p) (l ∷ q) s in
      let tails : low p ≡ low q = cc in
      ap (λ b. if b then low (l ∷ q) else next_closer (low p) (low q)) ((labels_decide (low p) (low q)).1 tails) ∙ sym is
  | inr b ↦
      let unlike : labels_eq (low p) (low q) ≡ false = false_from_ne_true (labels_eq (low p) (low q)) (λ e.
      let even : length p ≡ length q = same-length p q e in
      let long : length (a ∷ p) ≤ length q = above_longer (a ∷ p) q b in
      omega arith) in
      ap (λ b. if b then low (l ∷ q) else next_closer (low p) (low q)) unlike ∙ closer_is a p q b
]

module _ (z : Zone) (ex : Bool) where
  kept_same : (p q : Name) → same p q ≡ true → kept z ex p ≡ kept z ex q
  kept_same p q h = sym (kept_lowered z ex p) ∙ ap (kept z ex) (same_names p q h) ∙ kept_lowered z ex q

  -- ---- the longest

  pub record IsKeptParent (q e : Name) : Type 0 where
    pub there : kept z ex e ≡ true
    pub above : strictly_above e q ≡ true
    pub longest : (p : Name) → kept z ex p ≡ true → strictly_above p q ≡ true → at_or_above p e ≡ true

  pub kept_parent : (q p : Name) → kept z ex p ≡ true → strictly_above p q ≡ true → IsKeptParent q (kept_ancestor z ex q)
  kept_parent [] p k a = absurd (false≢true a)
  kept_parent (l ∷ q) p k a = go (kept z ex q) refl (λ b. kept_parent q p k b)
    where
      go : (b : Bool) → kept z ex q ≡ b → (strictly_above p q ≡ true → IsKeptParent q (kept_ancestor z ex q)) → IsKeptParent (l ∷ q) (if b then q else kept_ancestor z ex q)
      go true x f = record { there = x; above = above_itself q; longest = λ n y b. b }
      go false x f =
          let below : (n : Name) → kept z ex n ≡ true → at_or_above n q ≡ true → strictly_above n q ≡ true = λ n y b. elim (above_cases n q b) [
            | inl m ↦ absurd (false≢true (sym x ∙ sym (kept_same n q m) ∙ y))
            | inr m ↦ m
          ] in
          let r : IsKeptParent q (kept_ancestor z ex q) = f (below p k a) in
          record { there = r.there; above = strictly_at _ q r.above; longest = λ n y b. r.longest n y (below n y b) }

  pub ancestor_lowered : (q : Name) → low q ≡ q → low (kept_ancestor z ex q) ≡ kept_ancestor z ex q
  ancestor_lowered [] lq = refl
  ancestor_lowered (l ∷ q) lq = go (kept z ex q) (ancestor_lowered q (tail_low l q lq))
    where
      go : (b : Bool) → low (kept_ancestor z ex q) ≡ kept_ancestor z ex q → low (if b then q else kept_ancestor z ex q) ≡ (if b then q else kept_ancestor z ex q)
      go true f = tail_low l q lq
      go false f = f

  -- there is one such
  kept_parent_is : (q e : Name) → low q ≡ q → low e ≡ e → IsKeptParent q e → kept_ancestor z ex q ≡ e
  kept_parent_is q e lq le k =
      let r : IsKeptParent q (kept_ancestor z ex q) = kept_parent q e k.there k.above in
      same_lowered (kept_ancestor z ex q) e (ancestor_lowered q lq) le
      (above_both (kept_ancestor z ex q) e (k.longest (kept_ancestor z ex q) r.there r.above) (r.longest e k.there k.above))

  -- the next closer name of a name that is not kept is not kept
  pub closer_gone : (a : List ℕ) (p q e : Name) → IsKeptParent q e → low p ≡ low e → at_or_above (a ∷ p) q ≡ true → kept z ex q ≡ false → kept z ex (a ∷ p) ≡ false
  closer_gone a p q e k is above gone = false_from_ne_true (kept z ex (a ∷ p)) (λ h. elim (above_cases (a ∷ p) q above) [
    | inl m ↦ false≢true (sym gone ∙ sym (kept_same (a ∷ p) q m) ∙ h)
    | inr m ↦
        let long : length (a ∷ p) ≤ length e = above_longer (a ∷ p) e (k.longest (a ∷ p) h m) in
        let even : length p ≡ length e = same-length p e (names_same p e is) in
        absurd (omega arith)
  ])

  -- the closest encloser, where it is kept
  pub kept_encloser : (q e : Name) → low q ≡ q → ce z q ≡ Some e → kept z ex e ≡ true → kept_ancestor z ex q ≡ e
  kept_encloser q e lq c k =
      let r : IsEncloser z q e = ce_encloses z q e c in
      kept_parent_is q e lq (ce_lowered z q e lq c) (record { there = k; above = r.above; longest = λ p h a. r.longest p (kept_exists z ex p h) a })
