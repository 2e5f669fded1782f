-- The names that the proof of a verdict speaks of are among those that the question concerns.
use Rattle.std.proofs.Common.{◌≡◌, ℕ, Bool, true, false, ◌&&◌, not, List, [], ◌∷◌, Option, Some, None, inl, inr, refl, sym, ap, subst, ◌∙◌, ◌⊎◌}
use Rattle.std.specs.Prelude.{if◌then◌else◌}
use Rattle.std.proofs.lemmas.Bool.{and_parts, false≢true}
use Rattle.std.specs.List.{Contains}
use Rattle.definitions.specs.Name.{Name, low, at_or_above, strictly_above}
use Rattle.definitions.specs.Zone.{Zone, Verdict, Records, NoType, NoName, StarRecords, StarNoType, Delegated, Open, Unsigned, apex_of, at_existing, cut, data_at, has, kept, kept_cut_above, owners, star_under, verdict}
use Rattle.definitions.specs.ZoneChain.{Mode, Nsec, Nsec3, optout_of}
use Rattle.definitions.proofs.Members.{In, in_contained}
use Rattle.definitions.proofs.VerdictCases.{verdict-exists}
use Rattle.definitions.proofs.ZoneNames.{above_itself, apex_in_chain, low-low, same_lowered}
use Rattle.denial_laws.specs.OwnFacts.{denies_star, kept_ancestor, next_closer, spoken}
use Rattle.denial_laws.specs.Truth.{concerned}
use Rattle.denial_laws.proofs.HashChain.{concerns_name, concerns_star}
use Rattle.denial_laws.proofs.KeptAncestor.{IsKeptParent, ancestor_lowered, kept_parent}
use Rattle.denial_laws.proofs.NameFacts.{above_both, above_cases, names_same, strictly_at, strictly_unlike}
use Rattle.denial_laws.proofs.ZoneCuts.{IsCut, cut_is, delegation_low, kept_exists, kept_inside, uncut_from}
use Rattle.answer_zone.proofs.Enclosers.{IsCloser, closer_there}

to_in : {X : Type 0} (xs : List X) (x : X) → Contains xs x → In x xs
to_in xs x c = in_contained xs x c.0 c.1 c.2

not_open : (ex k c : Bool) → k ≡ true → (ex && not k && not c) ≡ false
not_open false k c h = refl
not_open true true c h = refl
not_open true false c h = absurd (false≢true h)

module _ (z : Zone) (there : Contains (owners z) (apex_of z)) (mode : Mode) (q : Name) (t : ℕ) (inside : at_or_above (apex_of z) (low q) ≡ true) where
  abbrev ex : Bool
  ex = optout_of mode

  abbrev e : Name
  e = kept_ancestor z ex (low q)

  abbrev Concerned : Name → Type 0
  Concerned n = In n (concerned (apex_of z) (low q))

  named : (p : Name) → low p ≡ p → at_or_above (apex_of z) p ≡ true → at_or_above p (low q) ≡ true → Concerned p
  named p lp i a =
      let k = concerns_name (apex_of z) p (low q) i a in
      to_in (concerned (apex_of z) (low q)) p (subst (Contains (concerned (apex_of z) (low q))) lp (subst (λ m. Contains (concerned (apex_of z) m) (low p)) (low-low q) k))

  starred : (p : Name) → low p ≡ p → at_or_above (apex_of z) p ≡ true → strictly_above p (low q) ≡ true → Concerned (star_under p)
  starred p lp i a =
      let k = concerns_star (apex_of z) p (low q) i a in
      to_in (concerned (apex_of z) (low q)) (star_under p) (subst (Contains (concerned (apex_of z) (low q))) (ap star_under lp) (subst (λ m. Contains (concerned (apex_of z) m) (low (star_under p))) (low-low q) k))

  itself : Concerned (low q)
  itself = named (low q) (low-low q) inside (above_itself (low q))

  -- ---- below the apex

  module _ (below : strictly_above (apex_of z) (low q) ≡ true) where
    parent : IsKeptParent z ex (low q) e
    parent = kept_parent z ex (low q) (apex_of z) (apex_in_chain z ex there) below

    e_lowered : low e ≡ e
    e_lowered = ancestor_lowered z ex (low q) (low-low q)

    e_inside : at_or_above (apex_of z) e ≡ true
    e_inside = kept_inside z ex e parent.there

    e_above : at_or_above e (low q) ≡ true
    e_above = strictly_at e (low q) parent.above

    ancestor : Concerned e
    ancestor = named e e_lowered e_inside e_above

    star : Concerned (star_under e)
    star = starred e e_lowered e_inside parent.above

    closer : Concerned (next_closer e (low q))
    closer = go (low q) refl (low-low q)
      where
        go : (m : Name) → low q ≡ m → low (low q) ≡ low q → Concerned (next_closer e (low q))
        go [] s l = absurd (false≢true (ap (strictly_above (apex_of z)) (sym s) ∙ below))
        go (h ∷ m) s l =
            let r : IsCloser (low q) e (next_closer e (low q)) = subst (λ n. IsCloser n (kept_ancestor z ex n) (next_closer (kept_ancestor z ex n) n)) (sym s) (closer_there z ex h m) in
            named (next_closer e (low q)) (r.lowered l) (r.below (apex_of z) e_inside) r.above

    around : (n : Name) → In n (e ∷ next_closer e (low q) ∷ star_under e ∷ []) → Concerned n
    around n i = elim i [
      | inl s ↦ subst Concerned (sym s) ancestor
      | inr j ↦ elim j [
        | inl s ↦ subst Concerned (sym s) closer
        | inr k ↦ elim k [
          | inl s ↦ subst Concerned (sym s) star
          | inr b ↦ absurd b
        ]
      ]
    ]

  -- ---- at the apex

  -- there the zone has records, and no delegation
  at_apex : apex_of z ≡ low q → verdict z ex q t ≡ at_existing z (low q) t
  at_apex is =
      let here : kept z ex (low q) ≡ true = ap (kept z ex) (sym is) ∙ apex_in_chain z ex there in
      let none : cut z (low q) ≡ None = uncut_from z (low q) (low-low q) (λ d h a.
      let under : strictly_above (apex_of z) d ≡ true = (and_parts (has z d 2) (strictly_above (apex_of z) d) h).1 in
      strictly_unlike (apex_of z) d under (names_same (apex_of z) d (ap low (same_lowered (apex_of z) d (low-low z.name) (delegation_low z d h) (above_both (apex_of z) d (strictly_at (apex_of z) d under) (ap (at_or_above d) is ∙ a)))))) in
      verdict-exists z ex q (low q) t refl (not_open ex (kept z ex (low q)) (kept_cut_above z ex (low q)) here) none (kept_exists z ex (low q) here)

  -- so it speaks of the name itself at most
  abbrev IsPlain : Verdict → Type 0
  IsPlain v = (v ≡ Records (data_at z (low q) t)) ⊎ (v ≡ NoType)

  plain : apex_of z ≡ low q → IsPlain (verdict z ex q t)
  plain is = subst IsPlain (sym (at_apex is)) (elim (has z (low q) t) as (λ b. IsPlain (if b then Records (data_at z (low q) t) else NoType)) [ true ↦ inl refl | false ↦ inr refl ])

  -- the three names, or some of them
  by_parent : (v : Verdict) → verdict z ex q t ≡ v → (v ≡ Records (data_at z (low q) t) → ⊥) → (v ≡ NoType → ⊥) → (n : Name) → In n (e ∷ next_closer e (low q) ∷ star_under e ∷ []) → Concerned n
  by_parent v s r m n i = elim (above_cases (apex_of z) (low q) inside) [
    | inl same ↦ elim (plain (same_lowered (apex_of z) (low q) (low-low z.name) (low-low q) same)) [
      | inl p ↦ absurd (r (sym s ∙ p))
      | inr p ↦ absurd (m (sym s ∙ p))
    ]
    | inr below ↦ around below n i
  ]

  star_apart : (ds : List (List ℕ)) → verdict z ex q t ≡ StarRecords ds → apex_of z ≡ low q → ⊥
  star_apart ds s is = elim (plain is) [ inl p ↦ (let x : StarRecords ds ≡ Records (data_at z (low q) t) = sym s ∙ p in cc) | inr p ↦ (let x : StarRecords ds ≡ NoType = sym s ∙ p in cc) ]

  at_delegation : (c : Option Name) → cut z (low q) ≡ c → (n : Name) → In n (elim c as (λ _. List Name) [ None ↦ [] | Some d ↦ d ∷ [] ]) → Concerned n
  at_delegation None s n i = absurd i
  at_delegation (Some d) s n i = elim i [
    | inl is ↦
        let k : IsCut z (low q) d = cut_is z (low q) d (low-low q) s in
        let under : strictly_above (apex_of z) d ≡ true = (and_parts (has z d 2) (strictly_above (apex_of z) d) k.delegation).1 in
        subst Concerned (sym is) (named d (delegation_low z d k.delegation) (strictly_at (apex_of z) d under) k.above)
    | inr b ↦ absurd b
  ]

  by_name : (n : Name) → In n (low q ∷ []) → Concerned n
  by_name n i = elim i [ inl s ↦ subst Concerned (sym s) itself | inr b ↦ absurd b ]

  pub all_concerned : (v : Verdict) → verdict z ex q t ≡ v → (n : Name) → In n (spoken z mode (low q) (verdict z false q t) v) → Concerned n
  all_concerned (Records ds) s n i = absurd i
  all_concerned NoType s n i = by_name n i
  all_concerned NoName s n i = by_mode mode refl n i
    where
      by_mode : (m : Mode) → mode ≡ m → (n : Name) → In n (spoken z m (low q) (verdict z false q t) NoName) → Concerned n
      by_mode Nsec h n i = elim i [ inl k ↦ subst Concerned (sym k) itself | inr k ↦ by_parent NoName s (λ x. cc) (λ x. cc) n (elim k [ inl k ↦ inr (inr (inl (k ∙ ap (λ m. star_under (kept_ancestor z (optout_of m) (low q))) (sym h)))) | inr b ↦ absurd b ]) ]
      by_mode (Nsec3 a b o) h n i = by_parent NoName s (λ x. cc) (λ x. cc) n (subst (λ m. In n (kept_ancestor z (optout_of m) (low q) ∷ next_closer (kept_ancestor z (optout_of m) (low q)) (low q) ∷ star_under (kept_ancestor z (optout_of m) (low q)) ∷ [])) (sym h) i)
  all_concerned (StarRecords ds) s n i = by_mode mode refl n i
    where
      by_mode : (m : Mode) → mode ≡ m → (n : Name) → In n (spoken z m (low q) (verdict z false q t) (StarRecords ds)) → Concerned n
      by_mode Nsec h n i = by_name n i
      by_mode (Nsec3 a b o) h n i =
          let j = subst (λ m. In n (next_closer (kept_ancestor z (optout_of m) (low q)) (low q) ∷ [])) (sym h) i in
          elim (above_cases (apex_of z) (low q) inside) [
            | inl same ↦ absurd (star_apart ds s (same_lowered (apex_of z) (low q) (low-low z.name) (low-low q) same))
            | inr below ↦ around below n (elim j [ inl k ↦ inr (inl k) | inr x ↦ absurd x ])
          ]
  all_concerned StarNoType s n i = by_mode mode refl n i
    where
      by_mode : (m : Mode) → mode ≡ m → (n : Name) → In n (spoken z m (low q) (verdict z false q t) StarNoType) → Concerned n
      by_mode Nsec h n i = elim i [ inl k ↦ subst Concerned (sym k) itself | inr k ↦ by_parent StarNoType s (λ x. cc) (λ x. cc) n (elim k [ inl k ↦ inr (inr (inl (k ∙ ap (λ m. star_under (kept_ancestor z (optout_of m) (low q))) (sym h)))) | inr b ↦ absurd b ]) ]
      by_mode (Nsec3 a b o) h n i = by_parent StarNoType s (λ x. cc) (λ x. cc) n (subst (λ m. In n (kept_ancestor z (optout_of m) (low q) ∷ next_closer (kept_ancestor z (optout_of m) (low q)) (low q) ∷ star_under (kept_ancestor z (optout_of m) (low q)) ∷ [])) (sym h) i)
  all_concerned Delegated s n i = at_delegation (cut z (low q)) refl n i
  all_concerned Open s n i = by_parent Open s (λ x. cc) (λ x. cc) n (elim i [ inl k ↦ inl k | inr k ↦ elim k [ inl k ↦ inr (inl k) | inr j ↦ inr (inr (with_star (denies_star (verdict z false q t)) j)) ] ])
    where
      with_star : (b : Bool) → In n (if b then star_under e ∷ [] else []) → In n (star_under e ∷ [])
      with_star true j = j
      with_star false j = absurd j
  all_concerned Unsigned s n i = absurd i
