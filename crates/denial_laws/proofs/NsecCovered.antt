-- What an NSEC record of a delegation above a name proves, and one that covers the name, is the zone's verdict.
use Rattle.std.proofs.Common.{◌≡◌, ℕ, ◌<◌, Bool, true, false, ◌&&◌, not, List, Option, Some, None, refl, sym, ap, subst, ◌∙◌, ◌⊎◌, inl, inr}
use Rattle.std.specs.Prelude.{◌==◌, if◌then◌else◌}
use Rattle.std.proofs.lemmas.Bool.{and_parts, and_from, and_left, or_right, not-true, not_from_false, false≢true, false_from_ne_true}
use Rattle.definitions.specs.Name.{Name, low, same, labels_eq, at_or_above, strictly_above}
use Rattle.definitions.specs.Covering.{covers}
use Rattle.definitions.specs.Bitmap.{bitmap_has}
use Rattle.definitions.specs.Zone.{Zone, Verdict, NoType, NoName, StarRecords, StarNoType, Delegated, apex_of, owners, has, is_delegation, cut, exists, ce, data_at, star_under}
use Rattle.definitions.specs.Zone as zone
use Rattle.definitions.specs.ZoneChain.{nsec_names}
use Rattle.definitions.proofs.Members.{In}
use Rattle.definitions.proofs.NameLaws.{labels_decide}
use Rattle.definitions.proofs.ZoneNames.{kept-live, above_itself, above_lowered, low-low, same_lowered, owner_lowered, owner_in_chain}
use Rattle.denial_laws.specs.Facts.{Link}
use Rattle.denial_laws.specs.NsecRules.{first_some, has_more, is_cut, lacks, star_lacks, below_cut, link_covers, redirects, shown_owner, closest, at_star, covered}
use Rattle.denial_laws.specs.Aliases.{is_redirected}
use Rattle.denial_laws.specs.Truth.{Concerns, IsServable, IsThere, IsStarred, SaysTruly, ShowsTypes, is_star}
use Rattle.denial_laws.specs.Laws.{IsSaidBy}
use Rattle.denial_laws.proofs.NameFacts.{above-low, strictly-low, strictly_lowered, same_names, names_same, above_cases, strictly_at, strictly_unlike, strictly_from, above_trans}
use Rattle.denial_laws.proofs.ChainBits.{cut_no_dname}
use Rattle.denial_laws.proofs.ZoneCuts.{NoneAbove, NoneStrictlyAbove, IsCut, has_owner, delegation_owner, delegation_low, no_star_cut, ce_encloses, uncut, cut_is, cut_live, cut_from, uncut_live, live_uncut}
use Rattle.denial_laws.proofs.Unaliased.{unredirected, no_redirector, cut_unredirected, no_alias, cut_unaliased, there_unaliased, star_unaliased, unaliased}
use Rattle.denial_laws.proofs.Found.{first_from, unlike_none}
use Rattle.denial_laws.proofs.HashChain.{concerns_name, concerns_star}
use Rattle.denial_laws.proofs.Adjacent.{Covered, apex_in, link_covered, no_owner, below_next, above_owner}
use Rattle.denial_laws.proofs.NsecEncloser.{Encloser, encloser, exists_from}
use Rattle.denial_laws.proofs.AtName.{on_true, not_there, lacks_cname}
use Rattle.denial_laws.proofs.NsecOwner.{cut_there, link_cut, more_there, redirector_there}
use Rattle.denial_laws.proofs.Verdicts.{lacking, verdict_delegated, verdict_existing, verdict_by_star}

lets : {A : Type 0} (b : Bool) (x : A) → b ≡ true → (elim b as (λ _. Option A) [ true ↦ Some x | false ↦ None ]) ≡ Some x
lets b x e = ap (λ b. elim b as (λ _. Option _) [ true ↦ Some x | false ↦ None ]) e

-- ---- a name that a record covers

module _ (z : Zone) (s : IsServable z) {Q : Name} (f : Link) (g : SaysTruly z Q f) (q : Name) (asked : Concerns z Q q) (c : covers z.name f.owner f.next q ≡ true) where
  abbrev o : Name
  o = low f.owner

  abbrev n : Name
  n = low f.next

  abbrev x : Name
  x = low q

  k : Covered z o n x
  k = link_covered z s f g q c

  -- it exists exactly where the next name is below it
  pub exists_covered : at_or_above (apex_of z) x ≡ true → (b : Bool) → strictly_above x n ≡ b → exists z x ≡ b
  exists_covered a true e = g.shown q q asked c (above_itself q) (sym (above-low z.name q) ∙ a) (or_right (at_or_above q (shown_owner f)) (at_or_above q f.next) (strictly_at q f.next (sym (strictly-low q f.next) ∙ e)))
  exists_covered a false e = false_from_ne_true (exists z x) (λ there.
      let w = exists_from z s x there in
      false≢true (sym e ∙ below_next z s o n x k w.0 w.1.0 w.1.1))

  pub untyped : at_or_above (apex_of z) x ≡ true → NoneStrictlyAbove z x → (t : ℕ) → has z x t ≡ false
  untyped a c t = false_from_ne_true (has z x t) (λ h.
      no_owner z s o n x k x (owner_in_chain z x (has_owner z x t h) (uncut_live z x (low-low q) a c)) (names_same x x refl))

  pub apex_above : at_or_above (apex_of z) x ≡ true → strictly_above (apex_of z) x ≡ true
  apex_above a = strictly_from (apex_of z) x a (no_owner z s o n x k (apex_of z) (apex_in z s))

  -- no delegation is at or above it, or the owner is one
  pub cut_or_none : NoneAbove z x ⊎ ((is_delegation z o ≡ true) × (strictly_above o x ≡ true))
  cut_or_none = go (cut z x) refl
    where
      go : (c : Option Name) → cut z x ≡ c → NoneAbove z x ⊎ ((is_delegation z o ≡ true) × (strictly_above o x ≡ true))
      go None e = inl (uncut z x (low-low q) e)
      go (Some c) e =
          let r : IsCut z x c = cut_is z x c (low-low q) e in
          let i : In c (nsec_names z) = owner_in_chain z c (delegation_owner z c r.delegation) (cut_live z x c r) in
          elim (above_cases c x r.above) [
            | inl h ↦ absurd (no_owner z s o n x k c i h)
            | inr h ↦ elim (above_cases c o (above_owner z s o n x k c i h)) [
              | inl m ↦
                  let is : c ≡ o = same_lowered c o (delegation_low z c r.delegation) (low-low f.owner) m in
                  inr (ap (is_delegation z) (sym is) ∙ r.delegation, ap (λ n. strictly_above n x) (sym is) ∙ h)
              | inr m ↦ absurd (live_uncut z o (low-low f.owner) k.inside c r.delegation m)
            ]
          ]

-- ---- records

module _ (z : Zone) (s : IsServable z) {Q : Name} (f : Link) (k : SaysTruly z Q f) (q : Name) where
  pub below_cut_truly : (t : ℕ) (v : Verdict) → below_cut z.name q f ≡ Some v → IsSaidBy z false q t v
  below_cut_truly t v h =
      let r = on_true (is_cut z.name f.owner f.bits && strictly_above f.owner q && not (bitmap_has f.bits 39)) (Some Delegated) v h in
      let both = and_parts (is_cut z.name f.owner f.bits) (strictly_above f.owner q) (and_parts (is_cut z.name f.owner f.bits && strictly_above f.owner q) _ r.0).0 in
      let is : Delegated ≡ v = cc in
      let o : Name = low f.owner in
      let above : strictly_above o (low q) ≡ true = strictly-low f.owner q ∙ both.1 in
      let unlike : labels_eq o (low q) ≡ false = false_from_ne_true (labels_eq o (low q)) (λ e. strictly_unlike o (low q) above (names_same o (low q) (ap low ((labels_decide o (low q)).0 e)))) in
      let d : is_delegation z o ≡ true = sym (link_cut z s f k) ∙ both.0 in
      let live = k.inside in
      let up = strictly_at o (low q) above in (
        sym is ∙ sym (verdict_delegated z false q o t d (kept-live z o ∙ live) up (and_left (labels_eq o (low q)) (t == 43) unlike)),
        unaliased z false q t (cut_unredirected z s.aliases (low q) o d live up) (λ _. cut_unaliased z (low q) t o (cut_from z (low q) o (low-low q) d live up)),
      )

  -- a delegation that owns the record is told of
  pub tells_cut : is_delegation z (low f.owner) ≡ true → strictly_above (low f.owner) (low q) ≡ true → below_cut z.name q f ≡ Some Delegated
  tells_cut d a = lets (is_cut z.name f.owner f.bits && strictly_above f.owner q && not (bitmap_has f.bits 39)) Delegated
      (and_from (is_cut z.name f.owner f.bits && strictly_above f.owner q) _ (and_from (is_cut z.name f.owner f.bits) _ (link_cut z s f k ∙ d) (sym (strictly-low f.owner q) ∙ a))
      (not_from_false (bitmap_has f.bits 39) ((cut_there z s f k d).types.redirect ∙ cut_no_dname z s.aliases (low f.owner) d)))

module _ (z : Zone) (s : IsServable z) {Q : Name} (f : Link) (k : SaysTruly z Q f) (q : Name) (asked : Concerns z Q q) where
  pub covering : link_covers z.name f q ≡ true → covers z.name f.owner f.next q ≡ true
  covering h = (and_parts (covers z.name f.owner f.next q) (not (redirects q f)) h).0

  pub cover : link_covers z.name f q ≡ true → Covered z (low f.owner) (low f.next) (low q)
  cover h = link_covered z s f k q (covering h)

  -- nothing redirects what it covers: a DNAME above the name would be at the owner, since nothing stands below it
  pub link_unredirected : link_covers z.name f q ≡ true → is_redirected z (low q) ≡ false
  link_unredirected h = unredirected z (low q) (λ d r.
      let o : Name = low f.owner in
      let owner : In d (owners z) = has_owner z d 39 r.redirects in
      elim (above_cases d o (above_owner z s o (low f.next) (low q) (cover h) d (owner_in_chain z d owner r.live) r.above)) [
        | inl m ↦
            let is : d ≡ o = same_lowered d o (owner_lowered z d owner) (low-low f.owner) m in
            let here : has z o 39 ≡ true = ap (λ n. has z n 39) (sym is) ∙ r.redirects in
            let bit : bitmap_has f.bits 39 ≡ true = (redirector_there z s f k here).types.redirect ∙ here in
            let above : strictly_above f.owner q ≡ true = sym (strictly-low f.owner q) ∙ ap (λ n. strictly_above n (low q)) (sym is) ∙ r.above in
            false≢true (sym (not-true (redirects q f) (and_parts (covers z.name f.owner f.next q) (not (redirects q f)) h).1) ∙ and_from _ _ above bit)
        | inr m ↦ no_redirector z o d (low-low f.owner) k.direct (record { redirects = r.redirects; live = r.live; above = m })
      ])

  no_cut : link_covers z.name f q ≡ true → below_cut z.name q f ≡ None → NoneAbove z (low q)
  no_cut h n = elim (cut_or_none z s f k q asked (covering h)) [
    | inl none ↦ none
    | inr c ↦ absurd (unlike_none (below_cut z.name q f) Delegated (tells_cut z s f k q c.0 c.1) n)
  ]

  -- a wildcard under a name that exists has no other wildcard that stands for it
  no_other_star : (e : Name) → q ≡ star_under e → exists z (low e) ≡ true → same f.owner q ≡ true → IsStarred z Q f → ⊥
  no_other_star e st x m w =
      let at : low f.owner ≡ star_under (low e) = same_names f.owner q m ∙ ap low st in
      let above : ce z (low f.owner) ≡ Some (low e) = ap (ce z) at ∙ ap (λ b. if b then Some (low e) else ce z (low e)) x in
      let is : w.by.encloser ≡ low e = (let both : Some w.by.encloser ≡ Some (low e) = sym w.by.closest ∙ above in cc) in
      false≢true (sym w.by.missing.gone ∙ ap (exists z) (at ∙ ap star_under (sym is) ∙ sym w.by.named) ∙ w.by.there)

  -- of a wildcard, below no delegation: it has no CNAME
  star_truly : (e : Name) → q ≡ star_under e → exists z (low e) ≡ true → at_or_above (apex_of z) (low q) ≡ true → NoneStrictlyAbove z (low q) → (t : ℕ) → t < 65536 → (v : Verdict) → at_star z.name q t f ≡ Some v
      → (zone.at_star z (low q) t ≡ v) × (has z (low q) 5 ≡ false)
  star_truly e st under a c t l v h = go (same f.owner q) refl h
    where
      between : (b d : Bool) → link_covers z.name f q ≡ b → strictly_above q f.next ≡ d → (elim b as (λ _. Option Verdict) [ true ↦ elim d [ true ↦ Some StarNoType | false ↦ Some NoName ] | false ↦ None ]) ≡ Some v
          → (zone.at_star z (low q) t ≡ v) × (has z (low q) 5 ≡ false)
      between false d m n h = absurd cc
      between true true m n h =
          let is : StarNoType ≡ v = cc in
          let x : exists z (low q) ≡ true = exists_covered z s f k q asked (covering m) a true (strictly-low q f.next ∙ n) in
          let y : (t : ℕ) → has z (low q) t ≡ false = untyped z s f k q asked (covering m) a c in
          ((λ i. if x i then (if y t i then StarRecords (data_at z (low q) t) else StarNoType) else NoName) ∙ is, y 5)
      between true false m n h =
          let is : NoName ≡ v = cc in
          let x : exists z (low q) ≡ false = exists_covered z s f k q asked (covering m) a false (strictly-low q f.next ∙ n) in
          (ap (λ b. if b then (if has z (low q) t then StarRecords (data_at z (low q) t) else StarNoType) else NoName) x ∙ is, untyped z s f k q asked (covering m) a c 5)

      go : (b : Bool) → same f.owner q ≡ b
          → (elim b as (λ _. Option Verdict) [
            | true ↦ elim (star_lacks f.bits t && has_more f.bits) [ true ↦ Some StarNoType | false ↦ None ]
            | false ↦ elim (link_covers z.name f q) [ true ↦ elim (strictly_above q f.next) [ true ↦ Some StarNoType | false ↦ Some NoName ] | false ↦ None ]
          ]) ≡ Some v → (zone.at_star z (low q) t ≡ v) × (has z (low q) 5 ≡ false)
      go true m h =
          let r = on_true (star_lacks f.bits t && has_more f.bits) (Some StarNoType) v h in
          let passed = and_parts (star_lacks f.bits t) (has_more f.bits) r.0 in
          let there : IsThere z f = more_there z s f k (no_other_star e st under m) passed.1 in
          let is : StarNoType ≡ v = cc in
          let same_name : low f.owner ≡ low q = same_names f.owner q m in
          let x : exists z (low q) ≡ true = subst (λ n. exists z n ≡ true) same_name there.exists_is in
          let d : is_delegation z (low q) ≡ false = no_star_cut z s (low q) (ap (λ n. is_star (low n)) st) in
          let shows : ShowsTypes z (low q) f.bits = subst (λ n. ShowsTypes z n f.bits) same_name there.types in
          let lacking = (and_parts (lacks f.bits t) _ passed.0).0 in
          let y : has z (low q) t ≡ false = not_there z (low q) f.bits t l shows (inl d) lacking in
          ((λ i. if x i then (if y i then StarRecords (data_at z (low q) t) else StarNoType) else NoName) ∙ is, lacks_cname z (low q) f.bits t shows lacking)
      go false m h = between (link_covers z.name f q) (strictly_above q f.next) refl refl h

-- a name that a record covers, where the record tells of no delegation
module _ (z : Zone) (s : IsServable z) (q : Name) (t : ℕ) (l : t < 65536) (fs : List Link) (ks : (g : Link) → In g fs → SaysTruly z q g) (a : at_or_above (apex_of z) (low q) ≡ true) where
  asked : Concerns z q q
  asked = concerns_name (apex_of z) q q (sym (above_lowered (apex_of z) q) ∙ a) (above_itself q)

  pub covered_truly : (f : Link) → In f fs → below_cut z.name q f ≡ None → (v : Verdict) → covered z.name q t fs f ≡ Some v → IsSaidBy z false q t v
  covered_truly f i n v h =
      let r = on_true (link_covers z.name f q) (elim (strictly_above q f.next) [
        | true ↦ Some NoType
        | false ↦ elim (closest f q) [ None ↦ None | Some e ↦ first_some (at_star z.name (star_under e) t) fs ]
      ]) v h in
      go r.0 (strictly_above q f.next) refl r.1
    where
      go : link_covers z.name f q ≡ true → (b : Bool) → strictly_above q f.next ≡ b
          → (elim b as (λ _. Option Verdict) [ true ↦ Some NoType | false ↦ elim (closest f q) [ None ↦ None | Some e ↦ first_some (at_star z.name (star_under e) t) fs ] ]) ≡ Some v
          → IsSaidBy z false q t v
      go m true e h =
          let c = covering z s f (ks f i) q asked m in
          let is : NoType ≡ v = cc in
          let none : NoneAbove z (low q) = no_cut z s f (ks f i) q asked m n in
          let x : exists z (low q) ≡ true = exists_covered z s f (ks f i) q asked c a true (strictly-low q f.next ∙ e) in
          let y : (t : ℕ) → has z (low q) t ≡ false = untyped z s f (ks f i) q asked c a (λ d i b. none d i (strictly_at d (low q) b)) in (
            sym is ∙ sym (verdict_existing z q t none x ∙ lacking z (low q) t (y t)),
            unaliased z false q t (link_unredirected z s f (ks f i) q asked m) (λ _. there_unaliased z (low q) t x (no_alias z (low q) t (y 5))),
          )
      go m false e h =
          let reach = covering z s f (ks f i) q asked m in
          let none : NoneAbove z (low q) = no_cut z s f (ks f i) q asked m n in
          let x : exists z (low q) ≡ false = exists_covered z s f (ks f i) q asked reach a false (strictly-low q f.next ∙ e) in
          let c : Encloser z f q = encloser z s f (ks f i) q asked reach (sym (strictly_lowered (apex_of z) q) ∙ apex_above z s f (ks f i) q asked reach a) in
          let found : first_some (at_star z.name (star_under c.name) t) fs ≡ Some v =
          sym (ap (λ (o : Option Name). elim o as (λ _. Option Verdict) [ None ↦ None | Some e ↦ first_some (at_star z.name (star_under e) t) fs ]) c.shown) ∙ h in
          let g = first_from (at_star z.name (star_under c.name) t) fs v found in
          let inside : at_or_above (apex_of z) (low c.name) ≡ true = above_lowered (apex_of z) c.name ∙ c.inside in
          let up : at_or_above (low c.name) (low q) ≡ true = above-low c.name q ∙ strictly_at c.name q c.above in
          let star = star_truly z s g.0 (ks g.0 g.1.0) (star_under c.name) (concerns_star (apex_of z) c.name q c.inside c.above) c.name refl (ce_encloses z (low q) (low c.name) c.is).there (strictly_at (apex_of z) (star_under (low c.name)) inside)
          (λ d i b. none d i (above_trans d (low c.name) (low q) b up)) t l v g.1.1 in (
            sym (verdict_by_star z q (low c.name) t none x c.is ∙ star.0),
            unaliased z false q t (link_unredirected z s f (ks f i) q asked m) (λ _. star_unaliased z (low q) t (low c.name) x c.is (no_alias z (star_under (low c.name)) t star.1)),
          )
