-- The verdict on a question, from what is found of it in an accepted zone, and the answer for it.
use Rattle.std.proofs.Common.{◌≡◌, ℕ, Bool, true, false, ◌&&◌, ◌||◌, not, List, [], ◌∷◌, ◌++◌, Option, Some, None, refl, sym, ap, subst, ◌∙◌, ◌⊎◌, eqb, length, inl, inr}
use Rattle.std.specs.Prelude.{◌==◌, if◌then◌else◌}
use Rattle.std.specs.List.{AllByRecursion, AllZip, list_any}
use Rattle.std.proofs.lemmas.Bool.{and_parts, and_from, or_cases, or_right, not-true, false≢true, false_from_ne_true, eqb-true, cases_Bool}
use Rattle.std.proofs.lemmas.Slice.Zip.{AllZip-long}
use Rattle.definitions.specs.Name.{Name, low, labels_eq, same, at_or_above, strictly_above}
use Rattle.definitions.specs.Zone.{Zone, Verdict, Records, NoType, NoName, StarRecords, StarNoType, Delegated, Open, apex_of, is_open, kept, kept_cut_above, has, is_delegation, is_live, cut, exists, ce, data_at, star_under, verdict}
use Rattle.definitions.specs.Zone as zone
use Rattle.definitions.proofs.NameLaws.{labels_decide}
use Rattle.definitions.proofs.VerdictCases.{said, verdict-alone, verdict-open, verdict-said}
use Rattle.definitions.proofs.ZoneNames.{above_itself, apex_in_chain, kept-live, low-low}
use Rattle.definitions.proofs.Members.{any_of, contained}
use Rattle.denial_laws.specs.OwnFacts.{kept_ancestor}
use Rattle.denial_laws.specs.Truth.{is_signed}
use Rattle.denial_laws.proofs.ChainBits.{all_at}
use Rattle.denial_laws.proofs.NameFacts.{above-low, above_trans, same_names, strictly_at, strictly_from}
use Rattle.denial_laws.proofs.ZoneCuts.{IsBelowKeptCut, IsCut, IsEncloser, NoneAbove, below_cut, kept_exists, live_kept, ce_encloses, cut_is, cut_live, delegation_owner, has_owner, kept_inside, kept_lowered, owner_kept, uncut, uncut_live}
use Rattle.denial_laws.proofs.Verdicts.{lacking, verdict_by_star, verdict_delegated, verdict_ds, verdict_existing, verdict_signed}
use Rattle.messages.specs.HandedRr.{HandedRr}
use Rattle.messages.proofs.Lists.{zip_append}
use Rattle.answer_terms.specs.Accepting.{soas, zone_with}
use Rattle.answer_terms.specs.GroupView.{GroupView, Presents}
use Rattle.answer_terms.specs.Served.{ServedRrset, Served, answer_groups}
use Rattle.answer_terms.specs.ZoneView.{is_of}
use Rattle.answer_terms.proofs.ZoneData.{soa_there}
use Rattle.answer_terms.proofs.ZoneServed.{has_is}
use Rattle.answer_zone.specs.Cuts.{NoneRefers, Refers}
use Rattle.answer_zone.specs.ZoneAnswers.{AnswersAs, Holds, answered, flags_for}
use Rattle.answer_zone.specs.declared.zone.answers.ZoneAnswer.{ZoneAnswer}

-- an answer that holds what a verdict asks for
pub answers : (s : Served) (q : Name) (t : ℕ) (v : Verdict) (found rest : List ServedRrset) (a : ZoneAnswer) → verdict s.zone false q t ≡ v → length found ≡ answered v → found ++ rest ≡ answer_groups s q t → Holds (flags_for v) found rest a → AnswersAs s q t a
answers s q t v found rest a e n g h = record {
  groups_are = subst (AllZip Presents (a.answer.items ++ a.authority.items)) g (zip_append Presents a.answer.items found a.authority.items rest h.found_are h.rest_are);
  split = sym (AllZip-long Presents a.answer.items found h.found_are) ∙ n ∙ sym (ap answered e);
  flags_are = h.flags_are ∙ sym (ap flags_for e);
}

-- an SOA record stands at the apex, so it exists
pub has_soa : (apex : Name) (rs : List HandedRr) → length (soas apex rs) ≡ 1 → has (zone_with apex rs) (low apex) 6 ≡ true
has_soa apex rs one = has_is apex rs apex 6 ∙ elim (cases_Bool (list_any (is_of apex 6) rs)) [ inl y ↦ y | inr n ↦ absurd (soa_there apex rs one n) ]

pub apex_exists : (apex : Name) (rs : List HandedRr) → length (soas apex rs) ≡ 1 → exists (zone_with apex rs) (low apex) ≡ true
apex_exists apex rs one =
    let z = zone_with apex rs in
    apex_in_chain z false (contained (zone.owners z) (low apex) (has_owner z (low apex) 6 (has_soa apex rs one)))

-- what has a type stands in the zone
pub owner_inside : (apex : Name) (rs : List HandedRr) → AllByRecursion (λ r. at_or_above apex r.owner ≡ true) rs → (q : Name) (t : ℕ) → has (zone_with apex rs) (low q) t ≡ true → at_or_above (low apex) (low q) ≡ true
owner_inside apex rs inside q t h =
    let r = any_of (is_of q t) rs (sym (has_is apex rs q t) ∙ h) in
    let owner : low r.0.owner ≡ low q = same_names r.0.owner q (and_parts (same r.0.owner q) (eqb r.0.rtype t) r.1.1).0 in
    sym (ap (at_or_above (low apex)) owner) ∙ above-low apex r.0.owner ∙ all_at (λ r. at_or_above apex r.owner ≡ true) rs r.0 inside r.1.0

module _ (z : Zone) (q : Name) (t : ℕ) where
  -- a delegation refers the question away
  pub delegation_of : (c : Name) → Refers z (low q) t c → is_delegation z c ≡ true
  delegation_of c r = (cut_is z (low q) c (low-low q) r.topmost).delegation

  pub referred : (c : Name) → Refers z (low q) t c → verdict z false q t ≡ Delegated
  referred c r =
      let k : IsCut z (low q) c = cut_is z (low q) c (low-low q) r.topmost in
      verdict_delegated z false q c t k.delegation (kept-live z c ∙ cut_live z (low q) c k) k.above r.away

  module _ (none : NoneRefers z (low q) t) where
    -- the name is a delegation itself, and its DS is asked for
    record AtCut : Type 0 where
      delegation : is_delegation z (low q) ≡ true
      live : is_live z (low q) ≡ true
      ds : (t == 43) ≡ true

    at_cut : (c : Name) → cut z (low q) ≡ Some c → AtCut
    at_cut c e =
        let k : IsCut z (low q) c = cut_is z (low q) c (low-low q) e in
        let both = and_parts (labels_eq c (low q)) (t == 43) (none c e) in
        let is : c ≡ low q = (labels_decide c (low q)).0 both.0 in
        record { delegation = ap (is_delegation z) (sym is) ∙ k.delegation; live = ap (is_live z) (sym is) ∙ cut_live z (low q) c k; ds = both.1 }

    -- what the zone has there it signs
    signed_there : at_or_above (apex_of z) (low q) ≡ true → has z (low q) t ≡ true → is_signed z (low q) t ≡ true
    signed_there a h = go (cut z (low q)) refl
      where
        go : (c : Option Name) → cut z (low q) ≡ c → is_signed z (low q) t ≡ true
        go None e =
            let above : NoneAbove z (low q) = uncut z (low q) (low-low q) e in
            let live : is_live z (low q) ≡ true = uncut_live z (low q) (low-low q) a (λ d i b. above d i (strictly_at d (low q) b)) in
            let plain : is_delegation z (low q) ≡ false = false_from_ne_true _ (λ d. above (low q) d (above_itself (low q))) in
            and_from _ _ (and_from _ _ live (ap (λ b. not b || (t == 43)) plain)) h
        go (Some c) e =
            let k : AtCut = at_cut c e in
            and_from _ _ (and_from _ _ k.live (or_right (not (is_delegation z (low q))) (t == 43) k.ds)) h

    pub has_type : at_or_above (apex_of z) (low q) ≡ true → has z (low q) t ≡ true → verdict z false q t ≡ Records (data_at z (low q) t)
    has_type a h = verdict_signed z false q t (signed_there a h)

    pub lacks_type : exists z (low q) ≡ true → has z (low q) t ≡ false → verdict z false q t ≡ NoType
    lacks_type x h = go (cut z (low q)) refl
      where
        go : (c : Option Name) → cut z (low q) ≡ c → verdict z false q t ≡ NoType
        go None e = verdict_existing z q t (uncut z (low q) (low-low q) e) x ∙ lacking z (low q) t h
        go (Some c) e =
            let k : AtCut = at_cut c e in
            verdict_ds z false q t (eqb-true t 43 k.ds) k.delegation (kept-live z (low q) ∙ k.live) ∙ lacking z (low q) t h

    -- a name that does not exist is below no delegation
    pub below_none : exists z (low q) ≡ false → cut z (low q) ≡ None
    below_none x = go (cut z (low q)) refl
      where
        go : (c : Option Name) → cut z (low q) ≡ c → c ≡ None
        go None e = refl
        go (Some c) e =
            let k : AtCut = at_cut c e in
            absurd (false≢true (sym x ∙ owner_kept z false (low q) (delegation_owner z (low q) k.delegation) (kept-live z (low q) ∙ k.live)))

-- below the apex the closest encloser is the longest ancestor that exists
encloser_is : (z : Zone) → exists z (apex_of z) ≡ true → (q : Name) → strictly_above (apex_of z) q ≡ true → ce z q ≡ Some (kept_ancestor z false q)
encloser_is z x [] a = absurd (false≢true a)
encloser_is z x (l ∷ q) a = go (exists z q) refl (λ b. encloser_is z x q b)
  where
    go : (b : Bool) → exists z q ≡ b → (strictly_above (apex_of z) q ≡ true → ce z q ≡ Some (kept_ancestor z false q)) → (if b then Some q else ce z q) ≡ Some (if b then q else kept_ancestor z false q)
    go true y f = refl
    go false y f = f (strictly_from (apex_of z) q a (λ s. false≢true (sym y ∙ sym (kept_lowered z false q) ∙ ap (exists z) (sym (same_names (apex_of z) q s)) ∙ kept_lowered z false (apex_of z) ∙ x)))

module _ (z : Zone) (x : exists z (apex_of z) ≡ true) (q : Name) (t : ℕ) (none : NoneRefers z (low q) t) (gone : exists z (low q) ≡ false) where
  abbrev star : Name
  star = star_under (kept_ancestor z false (low q))

  uncut_there : NoneAbove z (low q)
  uncut_there = uncut z (low q) (low-low q) (below_none z q t none gone)

  pub encloser_there : at_or_above (apex_of z) (low q) ≡ true → ce z (low q) ≡ Some (kept_ancestor z false (low q))
  encloser_there a = encloser_is z x (low q) (strictly_from (apex_of z) (low q) a (λ s.
      false≢true (sym gone ∙ sym (kept_lowered z false (low q)) ∙ ap (exists z) (sym (same_names (apex_of z) (low q) s)) ∙ kept_lowered z false (apex_of z) ∙ x)))

  by_star : at_or_above (apex_of z) (low q) ≡ true → verdict z false q t ≡ zone.at_star z star t
  by_star a = verdict_by_star z q (kept_ancestor z false (low q)) t uncut_there gone (encloser_there a)

  -- a name outside the zone has no closest encloser
  outside : at_or_above (apex_of z) (low q) ≡ false → verdict z false q t ≡ NoName
  outside a = go (ce z (low q)) refl
    where
      go : (c : Option Name) → ce z (low q) ≡ c → verdict z false q t ≡ NoName
      go None e = verdict-alone z false q (low q) t refl refl (below_none z q t none gone) gone e
      go (Some n) e =
          let k : IsEncloser z (low q) n = ce_encloses z (low q) n e in
          absurd (false≢true (sym a ∙ above_trans (apex_of z) n (low q) (kept_inside z false n k.there) (strictly_at n (low q) k.above)))

  pub no_name : (at_or_above (apex_of z) (low q) && exists z star) ≡ false → verdict z false q t ≡ NoName
  no_name n = go (at_or_above (apex_of z) (low q)) refl n
    where
      go : (b : Bool) → at_or_above (apex_of z) (low q) ≡ b → (b && exists z star) ≡ false → verdict z false q t ≡ NoName
      go false a s = outside a
      go true a s = by_star a ∙ ap (λ b. if b then (if has z star t then StarRecords (data_at z star t) else StarNoType) else NoName) s

  pub star_records : at_or_above (apex_of z) (low q) ≡ true → exists z star ≡ true → has z star t ≡ true → verdict z false q t ≡ StarRecords (data_at z star t)
  star_records a s h = by_star a ∙ (λ i. if s i then (if h i then StarRecords (data_at z star t) else StarNoType) else NoName)

  pub star_no_type : at_or_above (apex_of z) (low q) ≡ true → exists z star ≡ true → has z star t ≡ false → verdict z false q t ≡ StarNoType
  star_no_type a s h = by_star a ∙ (λ i. if s i then (if h i then StarRecords (data_at z star t) else StarNoType) else NoName)

-- ---- opt-out

-- where nothing is left open the verdict is that without opt-out
pub closed : (z : Zone) (ex : Bool) (q : Name) (t : ℕ) → is_open z ex (low q) ≡ false → verdict z ex q t ≡ verdict z false q t
closed z ex q t e = verdict-said z ex q (low q) t refl ∙ ap (λ b. said z (low q) t b (cut z (low q)) (exists z (low q)) (ce z (low q))) e ∙ sym (verdict-said z false q (low q) t refl)

pub left_open : (z : Zone) (ex : Bool) (q : Name) (t : ℕ) → is_open z ex (low q) ≡ true → verdict z ex q t ≡ Open
left_open z ex q t e = verdict-open z ex q (low q) t refl e

-- a name that does not exist, below no delegation, is closed only where nothing is excluded
pub plain_zone : (z : Zone) (ex : Bool) (q : Name) → is_open z ex (low q) ≡ false → exists z (low q) ≡ false → cut z (low q) ≡ None → ex ≡ false
plain_zone z false q o x n = refl
plain_zone z true q o x n = go (kept z true (low q)) refl (kept_cut_above z true (low q)) refl o
  where
    go : (k : Bool) → kept z true (low q) ≡ k → (c : Bool) → kept_cut_above z true (low q) ≡ c → (not k && not c) ≡ false → true ≡ false
    go true e c f h = absurd (false≢true (sym x ∙ kept_exists z true (low q) e))
    go false e true f h =
        let b : IsBelowKeptCut z true (low q) = below_cut z true (low q) f in
        absurd (uncut z (low q) (low-low q) n b.cut b.delegation (strictly_at b.cut (low q) b.above))
    go false e false f h = h

-- what stands at a name that is left open is not signed
pub no_record : (z : Zone) (ex : Bool) (q : Name) (t : ℕ) → NoneRefers z (low q) t → is_open z ex (low q) ≡ true → at_or_above (apex_of z) (low q) ≡ true → has z (low q) t ≡ true → ⊥
no_record z ex q t none o a h =
    let outer = and_parts (ex && not (kept z ex (low q))) (not (kept_cut_above z ex (low q))) o in
    let gone : kept z ex (low q) ≡ false = not-true (kept z ex (low q)) (and_parts ex (not (kept z ex (low q))) outer.0).1 in
    let signed = signed_there z q t none a h in
    let parts = and_parts (is_live z (low q) && (not (is_delegation z (low q)) || (t == 43))) (has z (low q) t) signed in
    let live = and_parts (is_live z (low q)) (not (is_delegation z (low q)) || (t == 43)) parts.0 in
    let plain : (is_delegation z (low q) ≡ false) ⊎ (has z (low q) 43 ≡ true) = elim (or_cases (not (is_delegation z (low q))) (t == 43) live.1) [
      | inl n ↦ inl (not-true (is_delegation z (low q)) n)
      | inr e ↦ inr (ap (has z (low q)) (sym (eqb-true t 43 e)) ∙ h)
    ] in
    false≢true (sym gone ∙ owner_kept z ex (low q) (has_owner z (low q) t h) (live_kept z ex (low q) live.0 plain))

-- no delegation refers away
pub not_referred : {A : Type 0} (z : Zone) (q : Name) (t : ℕ) (x : A) (f : Name → A) → NoneRefers z q t → (c : Option Name) → cut z q ≡ c → elim c as (λ _. A) [ None ↦ x | Some c ↦ (if labels_eq c q && (t == 43) then x else f c) ] ≡ x
not_referred z q t x f none None e = refl
not_referred z q t x f none (Some c) e = ap (λ b. if b then x else f c) (none c e)

-- an RRset without its signatures
pub unsigned_presents : (g h : GroupView) (of : ServedRrset) → h ≡ record g { signed = false } → Presents g of → Presents h (record of { signed = false })
unsigned_presents g h of e p = subst (λ v. Presents v (record of { signed = false })) (sym e) (record {
  owner_is = p.owner_is;
  labels_are = p.labels_are;
  rtype_is = p.rtype_is;
  ttl_is = p.ttl_is;
  written_is = p.written_is;
  canonical_is = p.canonical_is;
  signed_is = refl;
})
