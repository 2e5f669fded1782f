-- Which names exist beside delegations.
use Rattle.std.proofs.Common.{◌≡◌, Bool, true, false, ◌&&◌, ◌||◌, not, List, [], ◌∷◌, map, Option, Some, None, inl, inr, refl, sym, ap, subst, ◌∙◌}
use Rattle.std.specs.List.{list_any}
use Rattle.std.proofs.lemmas.Bool.{and_parts, and_from, false≢true, false_from_ne_true}
use Rattle.definitions.specs.Name.{Name, low, labels_eq, at_or_above}
use Rattle.definitions.specs.Zone.{Zone, owner_of, apex_of, owners, is_live, cut, exists}
use Rattle.definitions.proofs.Members.{In, any_of, any_in, both_ways}
use Rattle.definitions.proofs.NameLaws.{labels_decide}
use Rattle.definitions.proofs.ZoneNames.{low-low, same_lowered, owner_lowered, kept-live}
use Rattle.denial_laws.proofs.NameFacts.{above-low, above_cases, above_either, above_trans, names_same, same_above, same_names, strictly_at}
use Rattle.denial_laws.proofs.ZoneCuts.{IsCut, IsKeptBy, NoneStrictlyAbove, by_kept, cut_is, cut_live, delegation_low, delegation_owner, kept_by, kept_uncut, live_uncut, uncut, uncut_live}
use Rattle.messages.specs.HandedRr.{HandedRr}
use Rattle.answer_terms.specs.Accepting.{rr_of, zone_with}
use Rattle.answer_zone.specs.Cuts.{is_cut_off}

and_true : (b : Bool) → (b && true) ≡ b
and_true true = refl
and_true false = refl

and_false : (b : Bool) → (b && false) ≡ false
and_false true = refl
and_false false = refl

-- ---- which names exist

-- the name is at or below the apex, and an owner at or below it
abbrev pub owned : Zone → Name → Bool
owned z q = at_or_above (apex_of z) q && list_any (at_or_above q) (owners z)

module _ (z : Zone) where
  -- an owner below a delegation shows that the delegation exists
  by_owner : (q : Name) → NoneStrictlyAbove z q → at_or_above (apex_of z) q ≡ true → (o : Name) → In o (owners z) → at_or_above q o ≡ true → (c : Option Name) → cut z o ≡ c → exists z q ≡ true
  by_owner q n a o i b None e =
      let live : is_live z o ≡ true = uncut_live z o (owner_lowered z o i) (above_trans (apex_of z) q o a b) (λ d h s. uncut z o (owner_lowered z o i) e d h (strictly_at d o s)) in
      by_kept z false q (record { owner = o; inside = i; kept = kept-live z o ∙ live; below = b; apex = a })
  by_owner q n a o i b (Some c) e =
      let k : IsCut z o c = cut_is z o c (owner_lowered z o i) e in
      let below : at_or_above q c ≡ true = elim (above_either q c o b k.above) [
        | inl d ↦ d
        | inr u ↦ elim (above_cases c q u) [
          | inl s ↦ same_above q c (names_same q c (sym (same_names c q s)))
          | inr s ↦ absurd (n c k.delegation s)
        ]
      ] in
      by_kept z false q (record { owner = c; inside = delegation_owner z c k.delegation; kept = kept-live z c ∙ cut_live z o c k; below = below; apex = a })

  pub exists_uncut : (q : Name) → NoneStrictlyAbove z q → exists z q ≡ owned z q
  exists_uncut q n = both_ways (exists z q) (owned z q)
      (λ h. let k : IsKeptBy z false q = kept_by z false q h in and_from _ _ k.apex (any_in (at_or_above q) (owners z) k.owner k.inside k.below))
      (λ h.
      let both = and_parts (at_or_above (apex_of z) q) (list_any (at_or_above q) (owners z)) h in
      let o = any_of (at_or_above q) (owners z) both.1 in
      by_owner q n both.0 o.0 o.1.0 o.1.1 (cut z o.0) refl)

  -- at or below the topmost delegation above a name
  at_cut : (q c : Name) → low q ≡ q → IsCut z q c → (b : Bool) → labels_eq c q ≡ b → exists z q ≡ (owned z q && not (not (labels_eq c q)))
  at_cut q c lq k true e =
      let is : c ≡ q = (labels_decide c q).0 e in
      let none : NoneStrictlyAbove z q = subst (NoneStrictlyAbove z) is (live_uncut z c (delegation_low z c k.delegation) (cut_live z q c k)) in
      exists_uncut q none ∙ sym (ap (λ b. owned z q && not (not b)) e ∙ and_true (owned z q))
  at_cut q c lq k false e =
      let gone : exists z q ≡ false = elim (above_cases c q k.above) [
        | inl s ↦ absurd (false≢true (sym e ∙ (labels_decide c q).1 (same_lowered c q (delegation_low z c k.delegation) lq s)))
        | inr s ↦ false_from_ne_true (exists z q) (λ h. kept_uncut z false q h c k.delegation s)
      ] in
      gone ∙ sym (ap (λ b. owned z q && not (not b)) e ∙ and_false (owned z q))

  exists_owned : (q : Name) → low q ≡ q → exists z q ≡ (owned z q && not (is_cut_off z q))
  exists_owned q lq = go (cut z q) refl
    where
      go : (c : Option Name) → cut z q ≡ c → exists z q ≡ (owned z q && not (elim c [ None ↦ false | Some n ↦ not (labels_eq n q) ]))
      go None e = exists_uncut q (λ d h s. uncut z q lq e d h (strictly_at d q s)) ∙ sym (and_true (owned z q))
      go (Some c) e = at_cut q c lq (cut_is z q c lq e) (labels_eq c q) refl

pub any_owner : (q : Name) (rs : List HandedRr) → list_any (at_or_above (low q)) (map owner_of (map rr_of rs)) ≡ list_any (λ r. at_or_above q r.owner) rs
any_owner q [] = refl
any_owner q (r ∷ rs) = λ i. above-low q r.owner i || any_owner q rs i

-- a name of the zone exists where an owner is at or below it, and no delegation strictly above it
pub exists_is : (apex : Name) (rs : List HandedRr) (q : Name)
    → exists (zone_with apex rs) (low q) ≡ ((at_or_above apex q && list_any (λ r. at_or_above q r.owner) rs) && not (is_cut_off (zone_with apex rs) (low q)))
exists_is apex rs q =
    let z = zone_with apex rs in
    exists_owned z (low q) (low-low q) ∙ (λ i. (above-low apex q i && any_owner q rs i) && not (is_cut_off z (low q)))
