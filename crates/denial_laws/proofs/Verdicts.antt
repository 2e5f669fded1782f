-- The verdict on a name, from what the zone has at the name and above it.
use Rattle.std.proofs.Common.{◌≡◌, ℕ, Bool, true, false, ◌&&◌, ◌||◌, not, List, ◌∷◌, Option, Some, None, refl, sym, ap, ◌∙◌, inl, inr}
use Rattle.std.specs.Prelude.{if◌then◌else◌, ◌==◌}
use Rattle.std.proofs.lemmas.Bool.{and_parts, and_from, or_cases, not-true, not_from_false, false≢true, false_from_ne_true, eqb-true}
use Rattle.definitions.specs.Name.{Name, low, same, labels_eq, at_or_above}
use Rattle.definitions.specs.Zone.{Zone, Records, NoType, Delegated, Open, apex_of, owners, has, is_delegation, cut, is_live, is_kept, kept, exists, ce, star_under, kept_cut_above, data_at, at_existing, at_star, is_open, verdict}
use Rattle.definitions.proofs.NameLaws.{labels_decide}
use Rattle.definitions.proofs.Members.{In}
use Rattle.definitions.proofs.ZoneNames.{low-low, same_lowered, above_itself, owner_lowered, kept-live}
use Rattle.definitions.proofs.VerdictCases.{verdict-open, verdict-cut, verdict-exists, verdict-star}
use Rattle.denial_laws.specs.Aliases.{IsOrderly, is_redirected}
use Rattle.denial_laws.specs.Truth.{is_signed}
use Rattle.denial_laws.proofs.NameFacts.{above_cases, above_either, strictly_at, strictly_above_at}
use Rattle.denial_laws.proofs.ZoneCuts.{NoneAbove, tail_low, has_owner, delegation_owner, delegation_low, IsCut, cut_is, uncut_from, cut_live, cut_from, uncut_live, kept_live, live_kept, IsKeptBy, kept_by, kept_inside, kept_up, owner_kept, kept_exists, kept_none_above, IsBelowKeptCut, below_cut, cut_below, ce_is}
use Rattle.denial_laws.proofs.Unaliased.{unredirected, none_below}

not_open_kept : (o k c : Bool) → k ≡ true → (o && not k && not c) ≡ false
not_open_kept false k c h = refl
not_open_kept true true c h = refl
not_open_kept true false c h = absurd (false≢true h)

not_open_below : (o k c : Bool) → c ≡ true → (o && not k && not c) ≡ false
not_open_below false k c h = refl
not_open_below true true c h = refl
not_open_below true false true h = refl
not_open_below true false false h = absurd (false≢true h)

-- The next closer name is not kept, but its parent is, which is no delegation.
pub record IsGap (z : Zone) (ex : Bool) (l : List ℕ) (e q : Name) : Type 0 where
  pub lowered : low (l ∷ e) ≡ l ∷ e
  pub there : kept z ex e ≡ true
  pub plain : is_delegation z e ≡ false
  pub gone : kept z ex (l ∷ e) ≡ false
  pub above : at_or_above (l ∷ e) q ≡ true

-- ---- below no delegation, where nothing is excluded

pub verdict_existing : (z : Zone) (name : Name) (t : ℕ) → NoneAbove z (low name) → exists z (low name) ≡ true → verdict z false name t ≡ at_existing z (low name) t
verdict_existing z name t n x = verdict-exists z false name (low name) t refl refl (uncut_from z (low name) (low-low name) n) x

pub verdict_by_star : (z : Zone) (name e : Name) (t : ℕ) → NoneAbove z (low name) → exists z (low name) ≡ false → ce z (low name) ≡ Some e → verdict z false name t ≡ at_star z (star_under e) t
verdict_by_star z name e t n x c = verdict-star z false name (low name) e t refl refl (uncut_from z (low name) (low-low name) n) x c

-- where a type is not there
pub lacking : (z : Zone) (n : Name) (t : ℕ) → has z n t ≡ false → at_existing z n t ≡ NoType
lacking z n t h = ap (λ b. if b then Records (data_at z n t) else NoType) h

module _ (z : Zone) (ex : Bool) where
  -- ---- at the name

  verdict_at : (name : Name) (t : ℕ) → kept z ex (low name) ≡ true → is_delegation z (low name) ≡ false → verdict z ex name t ≡ at_existing z (low name) t
  verdict_at name t k n =
      let q : Name = low name in
      verdict-exists z ex name q t refl (not_open_kept ex (kept z ex q) (kept_cut_above z ex q) k)
      (uncut_from z q (low-low name) (kept_none_above z ex q (low-low name) k n))
      (kept_exists z ex q k)

  -- the type is not there
  pub verdict_no_type : (name : Name) (t : ℕ) → kept z ex (low name) ≡ true → is_delegation z (low name) ≡ false → has z (low name) t ≡ false → verdict z ex name t ≡ NoType
  verdict_no_type name t k n h = verdict_at name t k n ∙ lacking z (low name) t h

  -- ---- at or below a kept delegation

  not_open_cut : (q c : Name) → low q ≡ q → is_delegation z c ≡ true → is_kept z ex c ≡ true → at_or_above c q ≡ true → is_open z ex q ≡ false
  not_open_cut q c lq d k a = elim (above_cases c q a) [
    | inl s ↦
        let is : c ≡ q = same_lowered c q (delegation_low z c d) lq s in
        not_open_kept ex (kept z ex q) (kept_cut_above z ex q) (ap (kept z ex) (sym is) ∙ owner_kept z ex c (delegation_owner z c d) k)
    | inr s ↦ not_open_below ex (kept z ex q) (kept_cut_above z ex q) (cut_below z ex q lq (record { cut = c; delegation = d; kept = k; above = s }))
  ]

  verdict_cut : (name c : Name) (t : ℕ) → is_delegation z c ≡ true → is_kept z ex c ≡ true → at_or_above c (low name) ≡ true
      → verdict z ex name t ≡ (if labels_eq c (low name) && (t == 43) then at_existing z (low name) 43 else Delegated)
  verdict_cut name c t d k a =
      let q : Name = low name in
      verdict-cut z ex name q c t refl (not_open_cut q c (low-low name) d k a)
      (cut_from z q c (low-low name) d (kept_live z ex c k) a)

  pub verdict_delegated : (name c : Name) (t : ℕ) → is_delegation z c ≡ true → is_kept z ex c ≡ true → at_or_above c (low name) ≡ true → (labels_eq c (low name) && (t == 43)) ≡ false → verdict z ex name t ≡ Delegated
  verdict_delegated name c t d k a n = verdict_cut name c t d k a ∙ ap (λ b. if b then at_existing z (low name) 43 else Delegated) n

  -- DS is the parent's
  pub verdict_ds : (name : Name) (t : ℕ) → t ≡ 43 → is_delegation z (low name) ≡ true → is_kept z ex (low name) ≡ true → verdict z ex name t ≡ at_existing z (low name) t
  verdict_ds name t e d k =
      let itself : labels_eq (low name) (low name) ≡ true = (labels_decide (low name) (low name)).1 refl in
      verdict_cut name (low name) t d k (above_itself (low name))
      ∙ (λ i. if itself i && (e i == 43) then at_existing z (low name) 43 else Delegated)
      ∙ ap (at_existing z (low name)) (sym e)

  -- what a zone signs it answers
  signed_at : (name : Name) (t : ℕ) → is_live z (low name) ≡ true → (not (is_delegation z (low name)) || (t == 43)) ≡ true → has z (low name) t ≡ true → (d : Bool) → is_delegation z (low name) ≡ d → verdict z ex name t ≡ at_existing z (low name) t
  signed_at name t l c h true d =
      let ds : t ≡ 43 = elim (or_cases (not (is_delegation z (low name))) (t == 43) c) [
        | inl n ↦ absurd (false≢true (sym (not-true _ n) ∙ d))
        | inr e ↦ eqb-true t 43 e
      ] in
      verdict_ds name t ds d (live_kept z ex (low name) l (inr (ap (has z (low name)) (sym ds) ∙ h)))
  signed_at name t l c h false d = verdict_at name t (owner_kept z ex (low name) (has_owner z (low name) t h) (live_kept z ex (low name) l (inl d))) d

  pub verdict_signed : (name : Name) (t : ℕ) → is_signed z (low name) t ≡ true → verdict z ex name t ≡ Records (data_at z (low name) t)
  verdict_signed name t h =
      let rest = and_parts (is_live z (low name) && (not (is_delegation z (low name)) || (t == 43))) (has z (low name) t) h in
      let live = and_parts (is_live z (low name)) (not (is_delegation z (low name)) || (t == 43)) rest.0 in
      signed_at name t live.0 live.1 rest.1 (is_delegation z (low name)) refl
      ∙ ap (λ b. if b then Records (data_at z (low name) t) else NoType) rest.1

  -- ---- below a gap

  -- no kept delegation is at or above a name below a gap
  gap_uncut : (l : List ℕ) (e q c : Name) → IsGap z ex l e q → is_delegation z c ≡ true → is_kept z ex c ≡ true → at_or_above c q ≡ true → ⊥
  gap_uncut l e q c g d k a =
      let there : kept z ex c ≡ true = owner_kept z ex c (delegation_owner z c d) k in
      let inside : at_or_above (apex_of z) (l ∷ e) ≡ true = strictly_at (apex_of z) (l ∷ e) (kept_inside z ex e g.there) in
      let below : at_or_above (l ∷ e) c ≡ true → ⊥ = λ b. false≢true (sym g.gone ∙ kept_up z ex (l ∷ e) c there b inside) in
      elim (above_either c (l ∷ e) q a g.above) [
        | inl up ↦ elim (or_cases (same c (l ∷ e)) (at_or_above c e) up) [
          | inl s ↦ below (ap (at_or_above (l ∷ e)) (same_lowered c (l ∷ e) (delegation_low z c d) g.lowered s) ∙ above_itself (l ∷ e))
          | inr b ↦ kept_none_above z ex e (tail_low l e g.lowered) g.there g.plain c d b
        ]
        | inr down ↦ below down
      ]

  pub gap_gone : (l : List ℕ) (e q : Name) → IsGap z ex l e q → kept z ex q ≡ false
  gap_gone l e q g = false_from_ne_true (kept z ex q) (λ h. false≢true (sym g.gone ∙ kept_up z ex (l ∷ e) q h g.above (strictly_at (apex_of z) (l ∷ e) (kept_inside z ex e g.there))))

-- A DNAME above a name below a gap stands at the gap's parent: it is kept, and nothing stands below it.
pub gap_unredirected : (z : Zone) → IsOrderly z → (ex : Bool) (l : List ℕ) (e q : Name) → IsGap z ex l e q → has z e 39 ≡ false → is_redirected z q ≡ false
gap_unredirected z s ex l e q g n = unredirected z q (λ d r.
    let owner : In d (owners z) = has_owner z d 39 r.redirects in
    let there : kept z ex d ≡ true = owner_kept z ex d owner (live_kept z ex d r.live (inl (s.uncut d r.redirects))) in
    let le : low e ≡ e = tail_low l e g.lowered in
    let inside : at_or_above (apex_of z) (l ∷ e) ≡ true = strictly_at (apex_of z) (l ∷ e) (kept_inside z ex e g.there) in
    let below : at_or_above (l ∷ e) d ≡ true → ⊥ = λ b. false≢true (sym g.gone ∙ kept_up z ex (l ∷ e) d there b inside) in
    elim (above_either d (l ∷ e) q (strictly_at d q r.above) g.above) [
      | inl up ↦ elim (or_cases (same d (l ∷ e)) (at_or_above d e) up) [
        | inl m ↦ below (ap (at_or_above (l ∷ e)) (same_lowered d (l ∷ e) (owner_lowered z d owner) g.lowered m) ∙ above_itself (l ∷ e))
        | inr b ↦ elim (above_cases d e b) [
          | inl m ↦ false≢true (sym n ∙ ap (λ n. has z n 39) (sym (same_lowered d e (owner_lowered z d owner) le m)) ∙ r.redirects)
          | inr a ↦ let k : IsKeptBy z ex e = kept_by z ex e g.there in none_below z s d k.owner r.redirects k.inside (strictly_above_at d e k.owner a k.below)
        ]
      ]
      | inr down ↦ below down
    ])

-- an owner below a gap's parent, by one label, exists
pub gap_child : (z : Zone) (ex : Bool) (l : List ℕ) (e q : Name) → IsGap z ex l e q → (m : List ℕ) (t : ℕ) → has z (m ∷ e) t ≡ true → exists z (m ∷ e) ≡ true
gap_child z ex l e q g m t h =
    let owner : In (m ∷ e) (owners z) = has_owner z (m ∷ e) t h in
    let live : is_live z (m ∷ e) ≡ true = uncut_live z (m ∷ e) (owner_lowered z (m ∷ e) owner) (strictly_at (apex_of z) (m ∷ e) (kept_inside z ex e g.there)) (kept_none_above z ex e (tail_low l e g.lowered) g.there g.plain) in
    owner_kept z false (m ∷ e) owner (kept-live z (m ∷ e) ∙ live)

-- under opt-out it leaves the name open, so nothing is told
pub gap_left_open : (z : Zone) (l : List ℕ) (e q : Name) → IsGap z true l e q → is_open z true q ≡ true
gap_left_open z l e q g =
    let uncovered : kept_cut_above z true q ≡ false = false_from_ne_true (kept_cut_above z true q) (λ h.
    let c : IsBelowKeptCut z true q = below_cut z true q h in
    gap_uncut z true l e q c.cut g c.delegation c.kept (strictly_at c.cut q c.above)) in
    and_from _ _ (not_from_false _ (gap_gone z true l e q g)) (not_from_false _ uncovered)

pub gap_open : (z : Zone) (l : List ℕ) (e name : Name) (t : ℕ) → IsGap z true l e (low name) → verdict z true name t ≡ Open
gap_open z l e name t g = verdict-open z true name (low name) t refl (gap_left_open z l e (low name) g)

-- without it its parent is the closest encloser
pub gap_encloser : (z : Zone) (l : List ℕ) (e q : Name) → low q ≡ q → IsGap z false l e q → ce z q ≡ Some e
gap_encloser z l e q lq g = ce_is z l e q lq g.lowered g.above g.there g.gone

-- so the wildcard decides
pub gap_star : (z : Zone) (l : List ℕ) (e name : Name) (t : ℕ) → IsGap z false l e (low name) → verdict z false name t ≡ at_star z (star_under e) t
gap_star z l e name t g =
    let q : Name = low name in
    verdict-star z false name q e t refl refl (go (cut z q) refl) (gap_gone z false l e q g) (gap_encloser z l e q (low-low name) g)
  where
    go : (o : Option Name) → cut z (low name) ≡ o → o ≡ None
    go None h = refl
    go (Some c) h =
        let k : IsCut z (low name) c = cut_is z (low name) c (low-low name) h in
        absurd (gap_uncut z false l e (low name) c g k.delegation (and_from _ _ (cut_live z (low name) c k) refl) k.above)
