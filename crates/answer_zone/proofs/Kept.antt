-- Delegations above a name, and those that opt-out keeps.
use Rattle.std.proofs.Common.{◌≡◌, ℕ, ◌≤◌, Bool, true, false, ◌&&◌, not, cond, List, [], ◌∷◌, length, Option, Some, None, inl, inr, refl, sym, ap, subst, ◌∙◌, arith}
use Rattle.std.specs.Option.{is_none}
use Rattle.std.proofs.lemmas.Bool.{and_parts, false≢true, false_from_ne_true}
use Rattle.definitions.specs.Name.{Name, low, labels_eq, strictly_above}
use Rattle.definitions.specs.Zone.{Zone, has, is_delegation, is_live, cut, cut_above, kept_cut_above}
use Rattle.definitions.proofs.NameLaws.{labels_decide}
use Rattle.definitions.proofs.ZoneNames.{above_longer, same_lowered}
use Rattle.denial_laws.proofs.NameFacts.{above_cases, strictly_at}
use Rattle.denial_laws.proofs.ZoneCuts.{IsBelowKeptCut, IsCut, NoneStrictlyAbove, below_cut, cut_below, cut_from, cut_is, cut_live, delegation_low, kept_live, live_kept, live_uncut, tail_low, uncut}
use Rattle.answer_zone.specs.Cuts.{is_cut_off}

and_true : (b : Bool) → (b && true) ≡ b
and_true true = refl
and_true false = refl

and_false : (b : Bool) → (b && false) ≡ false
and_false true = refl
and_false false = refl

-- ---- below a delegation

module _ (z : Zone) where
  live_from : (l : List ℕ) (q : Name) → low q ≡ q → (c : Option Name) → cut z q ≡ c → is_none c ≡ not (is_cut_off z (l ∷ q))
  live_from l q lq None e =
      let n : Name = l ∷ q in
      let tested : Option Name → Bool = λ o. not (elim o [ None ↦ false | Some c ↦ not (labels_eq c n) ]) in
      sym (ap tested (ap (λ o. elim o as (λ _. Option Name) [ None ↦ (cond (is_delegation z n) (Some n) None) | Some c ↦ Some c ]) e)
      ∙ elim (is_delegation z n) as (λ b. tested (cond b (Some n) None) ≡ true) [ true ↦ ap (λ b. not (not b)) ((labels_decide n n).1 refl) | false ↦ refl ])
  live_from l q lq (Some c) e =
      let n : Name = l ∷ q in
      let tested : Option Name → Bool = λ o. not (elim o [ None ↦ false | Some c ↦ not (labels_eq c n) ]) in
      let k : IsCut z q c = cut_is z q c lq e in
      let short : length c ≤ length q = above_longer c q k.above in
      let unlike : labels_eq c n ≡ false = false_from_ne_true (labels_eq c n) (λ s. let same : length c ≡ length n = ap length ((labels_decide c n).0 s) in omega arith) in
      sym (ap tested (ap (λ o. elim o as (λ _. Option Name) [ None ↦ (cond (is_delegation z n) (Some n) None) | Some c ↦ Some c ]) e) ∙ ap (λ b. not (not b)) unlike)

  pub live_is : (q : Name) → low q ≡ q → is_none (cut_above z q) ≡ not (is_cut_off z q)
  live_is [] lq = refl
  live_is (l ∷ q) lq = live_from l q (tail_low l q lq) (cut z q) refl

  -- ---- kept delegations

  abbrev pub by_cut : Name → Option Name → Bool
  by_cut q o = elim o [ None ↦ false | Some c ↦ not (labels_eq c q) && has z c 43 ]

  at_cut : (q c : Name) → low q ≡ q → cut z q ≡ Some c → (b : Bool) → labels_eq c q ≡ b → (d : Bool) → has z c 43 ≡ d → kept_cut_above z true q ≡ (not b && d)
  at_cut q c lq e true s d h =
      let k : IsCut z q c = cut_is z q c lq e in
      let is : c ≡ q = (labels_decide c q).0 s in
      let none : NoneStrictlyAbove z q = subst (NoneStrictlyAbove z) is (live_uncut z c (delegation_low z c k.delegation) (cut_live z q c k)) in
      false_from_ne_true (kept_cut_above z true q) (λ y. let b : IsBelowKeptCut z true q = below_cut z true q y in none b.cut b.delegation b.above)
  at_cut q c lq e false s true h =
      let k : IsCut z q c = cut_is z q c lq e in
      let above : strictly_above c q ≡ true = elim (above_cases c q k.above) [
        | inl m ↦ absurd (false≢true (sym s ∙ (labels_decide c q).1 (same_lowered c q (delegation_low z c k.delegation) lq m)))
        | inr m ↦ m
      ] in
      cut_below z true q lq (record { cut = c; delegation = k.delegation; kept = live_kept z true c (cut_live z q c k) (inr h); above = above })
  at_cut q c lq e false s false h = false_from_ne_true (kept_cut_above z true q) (λ y.
      let b : IsBelowKeptCut z true q = below_cut z true q y in
      let top : Some b.cut ≡ Some c = sym (cut_from z q b.cut lq b.delegation (kept_live z true b.cut b.kept) (strictly_at b.cut q b.above)) ∙ e in
      let is : b.cut ≡ c = cc in
      let plain : not (is_delegation z b.cut && not (has z b.cut 43)) ≡ true = (and_parts (is_live z b.cut) (not (is_delegation z b.cut && not (has z b.cut 43))) b.kept).1 in
      let ds : has z b.cut 43 ≡ false = ap (λ n. has z n 43) is ∙ h in
      false≢true (sym (λ i. not (b.delegation i && not (ds i))) ∙ plain))

  pub kept_cut_is : (q : Name) → low q ≡ q → kept_cut_above z true q ≡ by_cut q (cut z q)
  kept_cut_is q lq = go (cut z q) refl
    where
      go : (o : Option Name) → cut z q ≡ o → kept_cut_above z true q ≡ by_cut q o
      go None e = false_from_ne_true (kept_cut_above z true q) (λ y. let b : IsBelowKeptCut z true q = below_cut z true q y in uncut z q lq e b.cut b.delegation (strictly_at b.cut q b.above))
      go (Some c) e = at_cut q c lq e (labels_eq c q) refl (has z c 43) refl
