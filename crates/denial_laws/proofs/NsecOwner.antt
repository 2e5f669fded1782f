-- What an NSEC record of the name itself proves is the zone's verdict.
use Rattle.std.proofs.Common.{◌≡◌, ℕ, ◌<◌, true, false, not, ◌&&◌, Option, Some, None, refl, sym, ap, subst, ◌∙◌, arith}
use Rattle.std.proofs.lemmas.Bool.{and_parts, and_from, and_left, false≢true, false_from_ne_true}
use Rattle.definitions.specs.Name.{Name, low, same, at_or_above}
use Rattle.definitions.specs.Bitmap.{bitmap_has}
use Rattle.definitions.specs.Zone.{Zone, Verdict, NoName, apex_of, ce, exists, has, is_delegation, is_live, star_under}
use Rattle.definitions.proofs.ZoneNames.{low-low, owner_in_chain}
use Rattle.denial_laws.specs.Aliases.{has_alias, has_own_alias, is_redirected}
use Rattle.denial_laws.specs.Facts.{Link}
use Rattle.denial_laws.specs.NsecRules.{is_cut, has_more, has_nxname, tells, denies, at_name, at_owner}
use Rattle.denial_laws.specs.Saying.{HasNoStar}
use Rattle.denial_laws.specs.Truth.{IsServable, IsThere, IsStarred, SaysTruly, Own, Bare, MadeUp, Denied, Starred, ShowsTypes, is_star}
use Rattle.denial_laws.specs.Laws.{IsSaidBy}
use Rattle.denial_laws.proofs.NameFacts.{same_names, strictly_at, above_trans}
use Rattle.denial_laws.proofs.AtName.{on_true, kept_name_truly}
use Rattle.denial_laws.proofs.BareTypes.{bare_lacks, bare_no_more, denied_no_more}
use Rattle.denial_laws.proofs.ChainBits.{cut_test}
use Rattle.denial_laws.proofs.Found.{unlike_none}
use Rattle.denial_laws.proofs.NsecEncloser.{owner_exists}
use Rattle.denial_laws.proofs.OneVerdict.{each_question_has_one_verdict}
use Rattle.denial_laws.proofs.Unaliased.{no_alias, star_unaliased, unaliased}
use Rattle.denial_laws.proofs.ZoneCuts.{NoneAbove, IsEncloser, ce_encloses, ce_lowered, has_owner, kept_inside, no_star_ns, uncut, uncut_live}

-- ---- which owner a record has

module _ (z : Zone) (s : IsServable z) {Q : Name} (f : Link) (k : SaysTruly z Q f) where
  -- one without NXNAME, unless its owner is made up or has a wildcard's types
  named_there : exists z (low f.owner) ≡ true → IsThere z f
  named_there x = elim k.owner [
    | Own i more ↦ i
    | Bare b ↦ b.there
    | MadeUp m ↦ absurd (false≢true (sym m.gone ∙ x))
    | Denied d ↦ absurd (false≢true (sym d.missing.missing.gone ∙ x))
    | Starred w ↦ absurd (false≢true (sym w.by.missing.gone ∙ x))
  ]

  -- one with more types, unless it is a wildcard that has them
  pub more_there : (IsStarred z Q f → ⊥) → has_more f.bits ≡ true → IsThere z f
  more_there unlike h = elim k.owner [
    | Own i more ↦ i
    | Bare b ↦ b.there
    | MadeUp m ↦ absurd (false≢true (sym (bare_no_more f.bits m.bare) ∙ h))
    | Denied d ↦ absurd (false≢true (sym (denied_no_more f.bits d.nxname) ∙ h))
    | Starred w ↦ absurd (unlike w)
  ]

  -- one that tells of the name that is asked for
  pub told_there : same f.owner Q ≡ true → has_nxname f.bits ≡ false → tells f ≡ true → IsThere z f
  told_there at n h = elim k.owner [
    | Own i more ↦ i
    | Bare b ↦ b.there
    | MadeUp m ↦ absurd (false≢true (sym (m.untold at) ∙ h))
    | Denied d ↦ absurd (false≢true (sym n ∙ d.nxname))
    | Starred w ↦ absurd (false≢true (sym w.other ∙ at))
  ]

  -- a type's owner exists
  typed_there : (t : ℕ) → has z (low f.owner) t ≡ true → exists z (low f.owner) ≡ true
  typed_there t h = owner_exists z s (low f.owner) (owner_in_chain z (low f.owner) (has_owner z (low f.owner) t h) k.inside)

  -- so what has DNAME is there, as is a delegation
  pub redirector_there : has z (low f.owner) 39 ≡ true → IsThere z f
  redirector_there h = named_there (typed_there 39 h)

  pub cut_there : is_delegation z (low f.owner) ≡ true → IsThere z f
  cut_there d = named_there (typed_there 2 (and_parts (has z (low f.owner) 2) _ d).0)

  -- without NS in its bits, and no delegation, since it does not exist
  gone_cut : exists z (low f.owner) ≡ false → bitmap_has f.bits 2 ≡ false → is_cut z.name f.owner f.bits ≡ is_delegation z (low f.owner)
  gone_cut x n =
      and_left (bitmap_has f.bits 2) (not (same f.owner z.name)) n
      ∙ sym (false_from_ne_true (is_delegation z (low f.owner)) (λ d. false≢true (sym x ∙ (cut_there d).exists_is)))

  there_cut : IsThere z f → is_cut z.name f.owner f.bits ≡ is_delegation z (low f.owner)
  there_cut i = cut_test z f.owner f.bits (kept_inside z false (low f.owner) i.exists_is) i.types

  pub link_cut : is_cut z.name f.owner f.bits ≡ is_delegation z (low f.owner)
  link_cut = elim k.owner [
    | Own i more ↦ there_cut i
    | Bare b ↦ there_cut b.there
    | MadeUp m ↦ gone_cut m.gone (bare_lacks 2 (omega arith) refl refl f.bits m.bare)
    | Denied d ↦ gone_cut d.missing.missing.gone d.plain
    | Starred w ↦ gone_cut w.by.missing.gone (w.types.two ∙ no_star_ns z s w.star (ap is_star w.by.named))
  ]

-- ---- what it says of the owner itself

module _ (z : Zone) (s : IsServable z) (q : Name) (t : ℕ) (l : t < 65536) where
  -- a record with NXNAME: the name is missing, and no wildcard stands for it
  denied_truly : is_redirected z (low q) ≡ false → HasNoStar z (low q) → IsSaidBy z false q t NoName
  denied_truly direct h = (
    (each_question_has_one_verdict z false q t NoName).0 (refl, h),
    unaliased z false q t direct (λ _. go (ce z (low q)) refl),
  )
    where
      none : NoneAbove z (low q)
      none = uncut z (low q) (low-low q) h.missing.uncut

      untyped : (e : Name) → ce z (low q) ≡ Some e → has z (star_under e) 5 ≡ false
      untyped e c = false_from_ne_true (has z (star_under e) 5) (λ a.
          let r : IsEncloser z (low q) e = ce_encloses z (low q) e c in
          let le : low e ≡ e = ce_lowered z (low q) e (low-low q) c in
          let inside : at_or_above (apex_of z) (star_under e) ≡ true = strictly_at (apex_of z) (star_under e) (kept_inside z false e r.there) in
          let live : is_live z (star_under e) ≡ true = uncut_live z (star_under e) (ap star_under le) inside (λ d i b. none d i (above_trans d e (low q) b (strictly_at e (low q) r.above))) in
          false≢true (sym (h.gone e c) ∙ owner_exists z s (star_under e) (owner_in_chain z (star_under e) (has_owner z (star_under e) 5 a) live)))

      go : (c : Option Name) → ce z (low q) ≡ c → has_own_alias z (low q) t ≡ false
      go (Some e) c = star_unaliased z (low q) t e h.missing.gone c (no_alias z (star_under e) t (untyped e c))
      go None c = λ i. elim (h.missing.uncut i) [
        | Some c ↦ false
        | None ↦ elim (h.missing.gone i) [
          | true ↦ has_alias z (low q) t
          | false ↦ elim (c i) [ None ↦ false | Some e ↦ has_alias z (star_under e) t ]
        ]
      ]

  pub denies_truly : (f : Link) → SaysTruly z q f → (v : Verdict) → denies q f ≡ Some v → IsSaidBy z false q t v
  denies_truly f k v h =
      let r = on_true (same f.owner q && has_nxname f.bits) (Some NoName) v h in
      let both = and_parts (same f.owner q) (has_nxname f.bits) r.0 in
      let is : NoName ≡ v = cc in
      let name : low f.owner ≡ low q = same_names f.owner q both.0 in
      elim k.owner [
        | Own i more ↦ absurd (false≢true (sym i.named ∙ both.1))
        | Bare b ↦ absurd (false≢true (sym b.there.named ∙ both.1))
        | MadeUp m ↦ absurd (false≢true (sym (bare_lacks 128 (omega arith) refl refl f.bits m.bare) ∙ both.1))
        | Denied d ↦ subst (IsSaidBy z false q t) is (denied_truly (ap (is_redirected z) (sym name) ∙ k.direct) (subst (HasNoStar z) name d.missing))
        | Starred w ↦ absurd (false≢true (sym w.named ∙ both.1))
      ]

  -- a record without NXNAME that tells of the name
  pub owner_truly : (f : Link) → SaysTruly z q f → denies q f ≡ None → (v : Verdict) → at_owner z.name q t f ≡ Some v → IsSaidBy z false q t v
  owner_truly f k n v h =
      let r = on_true (same f.owner q && tells f) (at_name z.name q t f.bits) v h in
      let both = and_parts (same f.owner q) (tells f) r.0 in
      let named : has_nxname f.bits ≡ false = false_from_ne_true (has_nxname f.bits) (λ x.
      let said : denies q f ≡ Some NoName = ap (λ b. elim b as (λ _. Option Verdict) [ true ↦ Some NoName | false ↦ None ]) (and_from (same f.owner q) (has_nxname f.bits) both.0 x) in
      unlike_none (denies q f) NoName said n) in
      let i : IsThere z f = told_there z s f k both.0 named both.1 in
      let is : low f.owner ≡ low q = same_names f.owner q both.0 in
      kept_name_truly z s false q t l f.bits (subst (λ n. exists z n ≡ true) is i.exists_is) (subst (λ n. ShowsTypes z n f.bits) is i.types) v r.1
