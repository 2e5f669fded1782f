-- What a wildcard's RRset proves beside an NSEC record that covers the name is the zone's verdict.
use Rattle.std.proofs.Common.{◌≡◌, ℕ, true, false, ◌&&◌, ◌||◌, not, length, Option, Some, None, refl, sym, ap, subst, ◌∙◌, inl, inr}
use Rattle.std.specs.Prelude.{◌==◌, if◌then◌else◌}
use Rattle.std.proofs.lemmas.Bool.{and_parts, not-true, eqb-true}
use Rattle.definitions.specs.Name.{Name, low, at_or_above, strictly_above}
use Rattle.definitions.specs.Covering.{covers}
use Rattle.definitions.specs.Signing.{signed_owner}
use Rattle.definitions.specs.Zone.{Zone, Verdict, NoName, StarRecords, StarNoType, apex_of, has, is_delegation, is_live, exists, data_at, star_under}
use Rattle.definitions.proofs.ZoneNames.{above_itself, above_lowered, low-low, owner_in_chain}
use Rattle.denial_laws.specs.Facts.{Rrset, Link, is_expanded}
use Rattle.denial_laws.specs.NsecRules.{link_covers, closest, encloses_at, expanded_by}
use Rattle.denial_laws.specs.Truth.{Concerns, IsServable, SaysTruly, IsTrueRrset, is_signed}
use Rattle.denial_laws.specs.Laws.{IsSaidBy}
use Rattle.denial_laws.proofs.NameFacts.{strictly-low, strictly_lowered, strictly_at}
use Rattle.denial_laws.proofs.ZoneCuts.{NoneAbove, ce_encloses, has_owner, live_uncut}
use Rattle.denial_laws.proofs.NsecEncloser.{Encloser, encloser, owner_exists}
use Rattle.denial_laws.proofs.AtName.{on_true}
use Rattle.denial_laws.proofs.HashChain.{concerns_name}
use Rattle.denial_laws.proofs.SignedNames.{star_owner}
use Rattle.denial_laws.proofs.Verdicts.{verdict_by_star}
use Rattle.denial_laws.proofs.NsecOwner.{cut_there}
use Rattle.denial_laws.proofs.NsecCovered.{covering, link_unredirected, exists_covered, apex_above, cut_or_none}
use Rattle.denial_laws.proofs.Unaliased.{typed_no_alias, star_unaliased, unaliased}

module _ (z : Zone) (s : IsServable z) (q : Name) (t : ℕ) (r : Rrset) (k : IsTrueRrset z q t r) (x : is_expanded r q ≡ true) (a : at_or_above (apex_of z) (low q) ≡ true) where
  asked : Concerns z q q
  asked = concerns_name (apex_of z) q q (sym (above_lowered (apex_of z) q) ∙ a) (above_itself q)

  module _ (f : Link) (g : SaysTruly z q f) (h : link_covers z.name f q ≡ true) where
    gap : covers z.name f.owner f.next q ≡ true
    gap = covering z s f g q asked h

    -- the closest encloser that the record shows
    shown : Encloser z f q
    shown = encloser z s f g q asked gap (sym (strictly_lowered (apex_of z) q) ∙ apex_above z s f g q asked gap a)

    -- the wildcard under it is signed, so no delegation is above the name
    wildcard_truly : strictly_above q f.next ≡ false → (e : Name) → closest f q ≡ Some e → length e ≡ r.labels → IsSaidBy z false q t (StarRecords r.datas)
    wildcard_truly b e c n =
        let w : Encloser z f q = shown in
        let star : Name = star_under (low w.name) in
        let is : e ≡ w.name = (let both : Some e ≡ Some w.name = sym c ∙ w.shown in cc) in
        let owner : signed_owner r.labels q ≡ star = star_owner r q w.name x (strictly_at w.name q w.above) (ap length (sym is) ∙ n) in
        let signed = and_parts (is_live z star && (not (is_delegation z star) || (t == 43))) (has z star t) (ap (λ n. is_signed z n t) (sym owner) ∙ k.signed) in
        let live : is_live z star ≡ true = (and_parts (is_live z star) _ signed.0).0 in
        let none : NoneAbove z (low q) = elim (cut_or_none z s f g q asked gap) [
          | inl u ↦ u
          | inr d ↦
              let up : at_or_above (low f.owner) (low w.name) ≡ true = (ce_encloses z (low q) (low w.name) w.is).longest (low f.owner) (cut_there z s f g d.0).exists_is d.1 in
              absurd (live_uncut z star (ap star_under (low-low w.name)) live (low f.owner) d.0 up)
        ] in
        let gone : exists z (low q) ≡ false = exists_covered z s f g q asked gap a false (strictly-low q f.next ∙ b) in
        let there : exists z star ≡ true = owner_exists z s star (owner_in_chain z star (has_owner z star t signed.1) live) in (
          ap (λ ds. StarRecords ds) (k.datas ∙ ap (λ n. data_at z n t) owner)
              ∙ sym ((λ i. if there i then (if signed.1 i then StarRecords (data_at z star t) else StarNoType) else NoName))
              ∙ sym (verdict_by_star z q (low w.name) t none gone w.is),
          unaliased z false q t (link_unredirected z s f g q asked h) (λ _. star_unaliased z (low q) t (low w.name) gone w.is (typed_no_alias z s.aliases star t signed.1)),
        )

  -- an encloser with so many labels
  labelled : (o : Option Name) (n : ℕ) → encloses_at n o ≡ true → (e : Name) × (o ≡ Some e) × (length e ≡ n)
  labelled None n h = absurd cc
  labelled (Some e) n h = (e, refl, eqb-true (length e) n h)

  pub expanded_truly : (f : Link) → SaysTruly z q f → (v : Verdict) → expanded_by z.name q r f ≡ Some v → IsSaidBy z false q t v
  expanded_truly f g v h =
      let e = on_true (link_covers z.name f q && not (strictly_above q f.next) && encloses_at r.labels (closest f q)) (Some (StarRecords r.datas)) v h in
      let outer = and_parts (link_covers z.name f q && not (strictly_above q f.next)) (encloses_at r.labels (closest f q)) e.0 in
      let inner = and_parts (link_covers z.name f q) (not (strictly_above q f.next)) outer.0 in
      let m = labelled (closest f q) r.labels outer.1 in
      let is : StarRecords r.datas ≡ v = cc in
      subst (IsSaidBy z false q t) is (wildcard_truly f g inner.0 (not-true (strictly_above q f.next) inner.1) m.0 m.1 m.2)
