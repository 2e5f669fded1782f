-- The cases of a verdict that leaves nothing open, each with what the zone has there.
use Rattle.std.proofs.Common.{◌≡◌, ℕ, Bool, true, false, ◌&&◌, ◌||◌, not, List, [], ◌∷◌, Option, Some, None, refl, sym, ap, ◌∙◌}
use Rattle.std.specs.Prelude.{◌==◌, if◌then◌else◌}
use Rattle.std.proofs.lemmas.Bool.{and_parts, and_from, or_right, false≢true, false_from_ne_true, eqb-true}
use Rattle.definitions.specs.Name.{Name, low, labels_eq, at_or_above, strictly_above}
use Rattle.definitions.specs.Zone.{Zone, Records, NoType, NoName, StarRecords, StarNoType, Delegated, apex_of, has, is_delegation, is_live, cut, exists, ce, data_at, at_existing, at_star, star_under, verdict}
use Rattle.definitions.specs.Zone as zone
use Rattle.definitions.proofs.NameLaws.{labels_decide}
use Rattle.definitions.proofs.VerdictCases.{said, verdict-said}
use Rattle.definitions.proofs.ZoneNames.{above_itself, low-low, same_lowered, owner_lowered, kept-live, apex_in_chain}
use Rattle.denial_laws.specs.Truth.{IsServable, is_signed}
use Rattle.denial_laws.proofs.NameFacts.{strictly_from, strictly_at, above_trans}
use Rattle.denial_laws.proofs.ZoneCuts.{tail_low, NoneAbove, IsCut, IsEncloser, has_owner, delegation_owner, owner_kept, no_star_cut, uncut, cut_is, cut_live, uncut_live, kept_inside, ce_encloses}
use Rattle.denial_laws.proofs.Verdicts.{verdict_existing, verdict_by_star, verdict_delegated, verdict_ds}

-- a verdict by a wildcard is of a name below no delegation
not_by_star : (b d : Bool) (ds : List (List ℕ)) → (if b then (if d then Records ds else NoType) else Delegated) ≡ StarNoType → ⊥
not_by_star true true ds h = cc
not_by_star true false ds h = cc
not_by_star false d ds h = cc

pub star_uncut : (z : Zone) (q : Name) (t : ℕ) → verdict z false q t ≡ StarNoType → cut z (low q) ≡ None
star_uncut z q t v = go (cut z (low q)) refl (sym (verdict-said z false q (low q) t refl) ∙ v)
  where
    go : (c : Option Name) → cut z (low q) ≡ c → said z (low q) t false c (exists z (low q)) (ce z (low q)) ≡ StarNoType → cut z (low q) ≡ None
    go None e h = e
    go (Some c) e h = absurd (not_by_star (labels_eq c (low q) && (t == 43)) (has z (low q) 43) (data_at z (low q) 43) h)

pub data View (z : Zone) (q : Name) (t : ℕ) : Type 0 where
  -- the zone signs the type at the name
  Signed : is_signed z (low q) t ≡ true → verdict z false q t ≡ Records (data_at z (low q) t) → View z q t
  -- the name exists, or is a delegation whose DS is asked for, and has no such type
  Missing : exists z (low q) ≡ true → has z (low q) t ≡ false → verdict z false q t ≡ NoType → View z q t
  -- a delegation is at or above it
  Cut : (c : Name) → cut z (low q) ≡ Some c → (labels_eq c (low q) && (t == 43)) ≡ false → verdict z false q t ≡ Delegated → View z q t
  -- it does not exist; the zone signs the type at the wildcard under its closest encloser
  Starred : (e : Name) → exists z (low q) ≡ false → ce z (low q) ≡ Some e → is_signed z (star_under e) t ≡ true → verdict z false q t ≡ StarRecords (data_at z (star_under e) t) → View z q t
  -- it does not exist, and the wildcard has no such type
  Unstarred : (e : Name) → exists z (low q) ≡ false → ce z (low q) ≡ Some e → exists z (star_under e) ≡ true → has z (star_under e) t ≡ false → verdict z false q t ≡ StarNoType → View z q t
  -- neither exists
  Gone : (e : Name) → exists z (low q) ≡ false → ce z (low q) ≡ Some e → exists z (star_under e) ≡ false → verdict z false q t ≡ NoName → View z q t

module _ (z : Zone) (s : IsServable z) where
  apex_exists : exists z (apex_of z) ≡ true
  apex_exists = apex_in_chain z false s.apex

  -- a name below the apex that does not exist has a closest encloser
  below_apex : (q : Name) → low q ≡ q → at_or_above (apex_of z) q ≡ true → exists z q ≡ false → strictly_above (apex_of z) q ≡ true
  below_apex q lq a x = strictly_from (apex_of z) q a (λ h. false≢true (sym x ∙ ap (exists z) (sym (same_lowered (apex_of z) q (low-low z.name) lq h)) ∙ apex_exists))

  enclosed : (q : Name) → low q ≡ q → strictly_above (apex_of z) q ≡ true → (e : Name) × (ce z q ≡ Some e)
  enclosed [] lq a = absurd (false≢true a)
  enclosed (l ∷ q) lq a = go (exists z q) refl (λ b. enclosed q (tail_low l q lq) b)
    where
      go : (b : Bool) → exists z q ≡ b → (strictly_above (apex_of z) q ≡ true → (e : Name) × (ce z q ≡ Some e)) → (e : Name) × ((if exists z q then Some q else ce z q) ≡ Some e)
      go true x f = (q, ap (λ b. if b then Some q else ce z q) x)
      go false x f = let r = f (below_apex q (tail_low l q lq) a x) in (r.0, ap (λ b. if b then Some q else ce z q) x ∙ r.1)

  module _ (q : Name) (t : ℕ) (a : at_or_above (apex_of z) (low q) ≡ true) where
    -- at or below the topmost delegation
    view_cut : (c : Name) → cut z (low q) ≡ Some c → (b : Bool) → (labels_eq c (low q) && (t == 43)) ≡ b → View z q t
    view_cut c e false b =
        let r : IsCut z (low q) c = cut_is z (low q) c (low-low q) e in
        Cut c e b (verdict_delegated z false q c t r.delegation (kept-live z c ∙ cut_live z (low q) c r) r.above b)
    view_cut c e true b =
        let r : IsCut z (low q) c = cut_is z (low q) c (low-low q) e in
        let both = and_parts (labels_eq c (low q)) (t == 43) b in
        let is : c ≡ low q = (labels_decide c (low q)).0 both.0 in
        let d : is_delegation z (low q) ≡ true = ap (is_delegation z) (sym is) ∙ r.delegation in
        let live : is_live z (low q) ≡ true = ap (is_live z) (sym is) ∙ cut_live z (low q) c r in
        ds d live both.1 (verdict_ds z false q t (eqb-true t 43 both.1) d (kept-live z (low q) ∙ live)) (has z (low q) t) refl
      where
        ds : is_delegation z (low q) ≡ true → is_live z (low q) ≡ true → (t == 43) ≡ true → verdict z false q t ≡ at_existing z (low q) t → (h : Bool) → has z (low q) t ≡ h → View z q t
        ds d live n v true h =
            Signed (and_from _ _ (and_from _ _ live (or_right (not (is_delegation z (low q))) (t == 43) n)) h)
            (v ∙ ap (λ b. if b then Records (data_at z (low q) t) else NoType) h)
        ds d live n v false h =
            Missing (owner_kept z false (low q) (delegation_owner z (low q) d) (kept-live z (low q) ∙ live)) h (v ∙ ap (λ b. if b then Records (data_at z (low q) t) else NoType) h)

    -- below none, and it exists
    view_there : NoneAbove z (low q) → exists z (low q) ≡ true → View z q t
    view_there n x = go (has z (low q) t) refl (verdict_existing z q t n x)
      where
        go : (h : Bool) → has z (low q) t ≡ h → verdict z false q t ≡ at_existing z (low q) t → View z q t
        go true e v =
            let live : is_live z (low q) ≡ true = uncut_live z (low q) (low-low q) a (λ d i b. n d i (strictly_at d (low q) b)) in
            let plain : is_delegation z (low q) ≡ false = false_from_ne_true _ (λ d. n (low q) d (above_itself (low q))) in
            Signed (and_from _ _ (and_from _ _ live (ap (λ b. not b || (t == 43)) plain)) e) (v ∙ ap (λ b. if b then Records (data_at z (low q) t) else NoType) e)
        go false e v = Missing x e (v ∙ ap (λ b. if b then Records (data_at z (low q) t) else NoType) e)

    view_star : (e : Name) → NoneAbove z (low q) → exists z (low q) ≡ false → ce z (low q) ≡ Some e → View z q t
    view_star e n x c =
        let r : IsEncloser z (low q) e = ce_encloses z (low q) e c in
        let v = verdict_by_star z q e t n x c in
        go (exists z (star_under e)) refl (has z (star_under e) t) refl v r
      where
        go : (y : Bool) → exists z (star_under e) ≡ y → (h : Bool) → has z (star_under e) t ≡ h → verdict z false q t ≡ zone.at_star z (star_under e) t → IsEncloser z (low q) e → View z q t
        go true y true h v r =
            let o = has_owner z (star_under e) t h in
            let live : is_live z (star_under e) ≡ true = uncut_live z (star_under e) (owner_lowered z (star_under e) o) (strictly_at (apex_of z) (star_under e) (kept_inside z false e r.there)) (λ d i b. n d i (above_trans d e (low q) b (strictly_at e (low q) r.above))) in
            let plain : is_delegation z (star_under e) ≡ false = no_star_cut z s (star_under e) refl in
            Starred e x c (and_from _ _ (and_from _ _ live (ap (λ b. not b || (t == 43)) plain)) h)
            (v ∙ (λ i. if y i then (if h i then StarRecords (data_at z (star_under e) t) else StarNoType) else NoName))
        go true y false h v r = Unstarred e x c y h (v ∙ (λ i. if y i then (if h i then StarRecords (data_at z (star_under e) t) else StarNoType) else NoName))
        go false y h m v r = Gone e x c y (v ∙ ap (λ b. if b then (if has z (star_under e) t then StarRecords (data_at z (star_under e) t) else StarNoType) else NoName) y)

    pub view : View z q t
    view = go (cut z (low q)) refl
      where
        inner : NoneAbove z (low q) → (x : Bool) → exists z (low q) ≡ x → View z q t
        inner n true x = view_there n x
        inner n false x = let e = enclosed (low q) (low-low q) (below_apex (low q) (low-low q) a x) in view_star e.0 n x e.1

        go : (c : Option Name) → cut z (low q) ≡ c → View z q t
        go None e = inner (uncut z (low q) (low-low q) e) (exists z (low q)) refl
        go (Some c) e = view_cut c e (labels_eq c (low q) && (t == 43)) refl
