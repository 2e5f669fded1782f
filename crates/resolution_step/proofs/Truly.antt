-- What a message tells is so of the zone.
use Rattle.std.proofs.Common.{◌≡◌, ℕ, zero, suc, Bool, true, false, ◌&&◌, List, [], ◌∷◌, Option, Some, None, Result, Ok, Err, IfOk, refl, sym, ap, subst, ◌∙◌, inl, inr, arith}
use Rattle.std.specs.Prelude.{◌==◌, Contains, if◌then◌else◌}
use Rattle.std.specs.declared.alloc.AllocError.{AllocError}
use Rattle.std.proofs.lemmas.Bool.{and_from, and_parts, false≢true}
use Rattle.definitions.specs.Name.{Name, low, same, at_or_above, strictly_above, wire}
use Rattle.definitions.specs.Zone.{Zone, Verdict, Records, NoType, NoName, StarRecords, StarNoType, Delegated, Open, Unsigned, apex_of, cut, has, verdict}
use Rattle.definitions.specs.ZoneChain.{optout_of}
use Rattle.definitions.proofs.ZoneNames.{low-low, above_lowered, lowered_above}
use Rattle.denial_laws.specs.Aliases.{IsOrderly, is_aliased}
use Rattle.denial_laws.specs.Leading.{Lead, LeadsTo}
use Rattle.denial_laws.specs.Leading as leading
use Rattle.denial_laws.specs.Saying.{IsMissing}
use Rattle.denial_laws.proofs.NameFacts.{above-low, above_either, above_trans, strictly-low, strictly_above_at, strictly_at}
use Rattle.denial_laws.proofs.Unaliased.{cut_unredirected, no_redirector}
use Rattle.denial_laws.proofs.ZoneCuts.{IsCut, cut_is, cut_live, delegation_owner, kept_up, owner_kept}
use Rattle.denial_laws.proofs.ZoneCuts as cuts
use Rattle.answer_findings.specs.Honest.{IsSaidByOne}
use Rattle.answer_findings.specs.Versions.{Version, zone_in}
use Rattle.answer_judge.specs.Judging.{JudgeInput}
use Rattle.answer_judge_facts.specs.declared.validity.Validity.{Validity}
use Rattle.answer_findings.specs.Table.{Checked}
use Rattle.answer_findings.specs.declared.meaning.AnswerOutcome.{AnswerOutcome}
use Rattle.answer_findings.specs.declared.meaning.AnswerOutcome.TheVariants as f
use Rattle.answer_findings.specs.Found.{IsFound}
use Rattle.answer_findings.specs.Judgements.{aside, asking}
use Rattle.answer_findings.specs.Laws.{HasRecords}
use Rattle.answer_findings.specs.Seen.{Seen, SeesVerdict, SeesDelegated, SeesNoDs, SeesAlias, SeesStarAlias, SeesOpen, SeesDname, SeesReferral, seen}
use Rattle.answer_findings.specs.Truth.{HasDsInOne, IsSo}
use Rattle.answer_findings.proofs.Searched.{found_truly}
use Rattle.tree_laws.specs.Tree.{TreeZone, refers_to}
use Rattle.tree_laws.specs.Orderly.{IsOrderlyZone}
use Rattle.tree_laws.proofs.Trees.{lead_uncut, no_data, referred, refers}
use Rattle.tree_laws.proofs.Verdicts.{cut_down, delegated_refers, ds_cut, no_ds_cut, no_ds_uncut, open_down, own_cut, own_verdict, unaliased_down, unbound, verdict_told}
use Rattle.resolution_step.specs.KnownDs.{knows}
use Rattle.resolution_step.specs.Work.{work_of}
use Rattle.resolution_step.specs.Told.{StepSeen, TellsVerdict, TellsLead, TellsDown, TellsUnsigned, TellsOpen, TellsNoCut, TellsNoneBelow, TellsNothing, AsksFor, Search, Sees, Refuses, Wants, IsCutFound, IsJudgedCut, IsCutTold, IsStepOfOutcome, IsSearched, IsSearchTold, IsSeenTold, IsJudgedStep, IsTold, IsToldAt, at_cut, counts_of, cut_said, cut_searched, cut_told, validity_of_outcome, referral_told, search_of, seen_told, told, bound_told}
use Rattle.resolution_step.specs.Told as tells
use Rattle.resolution_step.specs.declared.judged_step.Counts.{Counts}
use Rattle.resolution_step.specs.declared.judged_step.JudgedStep.{JudgedStep}
use Rattle.resolution_step.specs.Truth.{AreOfZone, HasNoCutBelow, IsCutSo, IsToldSo, TellsCutTruly, TellsTruly, zone_of_version}
use Rattle.resolution_step.proofs.Bound.{bound_at_cut, bound_below}

only : {A : Type 0} (x y : A) → Contains (x ∷ []) y → x ≡ y
only x y (zero, l, e) = e
only x y (suc n, l, e) = absurd (omega (arith, l))

-- ---- names with no delegation below them

-- a delegation at or above a name below a missing one stands above that one, or makes it exist
missing_below : (z : Zone) (n : Name) → IsMissing z (low n) → HasNoCutBelow z n
missing_below z n m = record { uncut = m.uncut; below = λ q inside down. go q inside down (cut z (low q)) refl }
  where
    go : (q : Name) → at_or_above (apex_of z) n ≡ true → at_or_above n q ≡ true → (o : Option Name) → cut z (low q) ≡ o → o ≡ None
    go q inside down None e = refl
    go q inside down (Some c) e =
        let k : IsCut z (low q) c = cut_is z (low q) c (low-low q) e in
        absurd (elim (above_either (low n) c (low q) (above-low n q ∙ down) k.above) [
          | inl up ↦
              let there = owner_kept z false c (delegation_owner z c k.delegation) (and_from _ _ (cut_live z (low q) c k) refl) in
              false≢true (sym m.gone ∙ kept_up z false (low n) c there up (above_lowered (apex_of z) n ∙ inside))
          | inr up ↦ cuts.uncut z (low n) (low-low n) m.uncut c k.delegation up
        ])

-- nor does one stand above what a DNAME redirects
redirected_below : (z : Zone) (n owner : Name) (datas : List (List ℕ)) → IsOrderly z → HasRecords z owner 39 datas → strictly_above owner n ≡ true → HasNoCutBelow z n
redirected_below z n owner datas s r above = record { uncut = uncut_at n above; below = λ q inside down. uncut_at q (strictly_above_at owner n q above down) }
  where
    go : (q : Name) → strictly_above owner q ≡ true → (o : Option Name) → cut z (low q) ≡ o → o ≡ None
    go q a None e = refl
    go q a (Some c) e =
        let k : IsCut z (low q) c = cut_is z (low q) c (low-low q) e in
        let plain = cut_unredirected z s (low q) c k.delegation (cut_live z (low q) c k) k.above in
        absurd (no_redirector z (low q) (low owner) (low-low q) plain (record { redirects = r.there; live = r.live; above = strictly-low owner q ∙ a }))

    uncut_at : (q : Name) → strictly_above owner q ≡ true → cut z (low q) ≡ None
    uncut_at q a = go q a (cut z (low q)) refl

module _ (algorithms : List ℕ) (h : JudgeInput) (v : Version) (o : IsOrderlyZone (zone_of_version h.apex v)) where
  abbrev z : TreeZone
  z = zone_of_version h.apex v

  abbrev q : Name
  q = h.asked.name

  abbrev t : ℕ
  t = h.asked.rtype

  -- ---- what is said of the one version

  said_is : (w : Verdict) → IsSaidByOne h (v ∷ []) w → verdict z.zone z.optout q t ≡ w
  said_is w s = ap (λ u. verdict (zone_in h.apex u) (optout_of u.mode) q t) (only v s.version s.there) ∙ s.verdict_is

  said_plain : (w : Verdict) → IsSaidByOne h (v ∷ []) w → is_aliased z.zone z.optout q t ≡ false
  said_plain w s = ap (λ u. is_aliased (zone_in h.apex u) (optout_of u.mode) q t) (only v s.version s.there) ∙ s.no_alias

  leads_is : (u : Version) (lead : Lead) → Contains (v ∷ []) u → LeadsTo (zone_in h.apex u) (optout_of u.mode) q t lead → LeadsTo z.zone z.optout q t lead
  leads_is u lead there leads = subst (λ x. LeadsTo (zone_in h.apex x) (optout_of x.mode) q t lead) (sym (only v u there)) leads

  uncut : (u : Version) (lead : Lead) → Contains (v ∷ []) u → LeadsTo (zone_in h.apex u) (optout_of u.mode) q t lead → cut z.zone (low q) ≡ None
  uncut u lead there leads = lead_uncut z.zone z.optout q t lead o.servable.aliases (leads_is u lead there leads)

  -- ---- DS at a name

  ds_said : t ≡ 43 → (w : Verdict) → IsSaidByOne h (v ∷ []) w → verdict z.zone z.optout q 43 ≡ w
  ds_said ds w s = ap (verdict z.zone z.optout q) (sym ds) ∙ said_is w s

  ds_plain : t ≡ 43 → (w : Verdict) → IsSaidByOne h (v ∷ []) w → is_aliased z.zone z.optout q 43 ≡ false
  ds_plain ds w s = ap (is_aliased z.zone z.optout q) (sym ds) ∙ said_plain w s

  verdict_so : t ≡ 43 → (w : Verdict) → IsSaidByOne h (v ∷ []) w → IsCutSo algorithms z q (cut_said algorithms q w)
  verdict_so ds (Records datas) s =
      let at = ds_cut z.zone z.optout q datas o.ds (ds_said ds (Records datas) s) in
      bound_at_cut algorithms z datas q at.0 at.1
  verdict_so ds NoType s = tt
  verdict_so ds NoName s = missing_below z.zone q (verdict_told z.zone z.optout q 43 NoName (ds_said ds NoName s)).1.missing
  verdict_so ds (StarRecords datas) s = missing_below z.zone q (verdict_told z.zone z.optout q 43 (StarRecords datas) (ds_said ds (StarRecords datas) s)).1.1.missing
  verdict_so ds StarNoType s = missing_below z.zone q (verdict_told z.zone z.optout q 43 StarNoType (ds_said ds StarNoType s)).1.1.missing
  verdict_so ds Delegated s = tt
  verdict_so ds Open s = (verdict_told z.zone z.optout q 43 Open (ds_said ds Open s), ds_plain ds Open s)
  verdict_so ds Unsigned s = tt

  cut_so : t ≡ 43 → (x : Seen) → IsSo h (v ∷ []) x → IsCutSo algorithms z q (cut_told algorithms q x)
  cut_so ds (SeesVerdict w) s = verdict_so ds w s
  cut_so ds (SeesDelegated c) s = tt
  cut_so ds (SeesNoDs true) s =
      let at = no_ds_cut z.zone z.optout q (ds_said ds NoType s.0) ((s.1 v refl).0 refl) in
      (refl, at.0, record { unbound = unbound (knows algorithms) z.zone (low q) at.1; datas_are = sym (no_data z.zone (low q) 43 at.1) })
  cut_so ds (SeesNoDs false) s = no_ds_uncut z.zone z.optout q (ds_said ds NoType s.0) (λ d. false≢true ((s.1 v refl).1 d))
  cut_so ds (SeesAlias target) s = uncut s.version (leading.To target) s.there s.leads
  cut_so ds (SeesStarAlias target) s =
      let is = ap (λ u. verdict (zone_in h.apex u) (optout_of u.mode) q 5) (only v s.version s.there) ∙ s.says in
      missing_below z.zone q (verdict_told z.zone z.optout q 5 (StarRecords (wire target ∷ [])) is).1.1.missing
  cut_so ds SeesOpen s = verdict_so ds Open s
  cut_so ds (SeesDname owner lead) s =
      let has = subst (λ u. HasRecords (zone_in h.apex u) owner 39 (wire s.target ∷ [])) (sym (only v s.version s.there)) s.has in
      redirected_below z.zone q owner (wire s.target ∷ []) o.servable.aliases has s.above
  cut_so ds (SeesReferral c datas) s = tt

  -- ---- the question itself

  own_so : (w : Verdict) → IsSaidByOne h (v ∷ []) w → IsToldSo algorithms z q t (tells.verdict_told w)
  own_so (Records datas) s = own_verdict (knows algorithms) q t z (Records datas) tt (said_is (Records datas) s) (said_plain (Records datas) s)
  own_so NoType s = own_verdict (knows algorithms) q t z NoType tt (said_is NoType s) (said_plain NoType s)
  own_so NoName s = own_verdict (knows algorithms) q t z NoName tt (said_is NoName s) (said_plain NoName s)
  own_so (StarRecords datas) s = own_verdict (knows algorithms) q t z (StarRecords datas) tt (said_is (StarRecords datas) s) (said_plain (StarRecords datas) s)
  own_so StarNoType s = own_verdict (knows algorithms) q t z StarNoType tt (said_is StarNoType s) (said_plain StarNoType s)
  own_so Delegated s = tt
  own_so Open s = (refl, verdict_told z.zone z.optout q t Open (said_is Open s), said_plain Open s)
  own_so Unsigned s = tt

  referral_so : (c : Name) (datas : List (List ℕ)) → HasDsInOne h (v ∷ []) c datas → IsToldSo algorithms z q t (referral_told algorithms h.asked c datas)
  referral_so c datas s = go (same c q && (t == 43)) refl
    where
      go : (b : Bool) → (same c q && (t == 43)) ≡ b → IsToldSo algorithms z q t (if b then TellsNothing None else bound_told algorithms c datas)
      go true e = tt
      go false e =
          let has = subst (λ u. HasRecords (zone_in h.apex u) c 43 datas) (sym (only v s.version s.there)) s.has in
          let own : cut z.zone (low c) ≡ Some (low c) = own_cut z.zone c (o.ds (low c) has.there has.live) has.live in
          bound_below algorithms z datas q t c (refers z.zone q t (low c) (cut_down z.zone c q own s.above) e) has.datas_are

  seen_so : (x : Seen) → IsSo h (v ∷ []) x → IsToldSo algorithms z q t (seen_told algorithms h.asked x)
  seen_so (SeesVerdict w) s = own_so w s
  seen_so (SeesDelegated c) s = tt
  seen_so (SeesNoDs d) s = own_so NoType s.0
  seen_so (SeesAlias target) s = leads_is s.version (leading.To target) s.there s.leads
  seen_so (SeesStarAlias target) s = leads_is s.version (leading.To target) s.there s.leads
  seen_so SeesOpen s = own_so Open s
  seen_so (SeesDname owner lead) s = leads_is s.version lead s.there s.leads
  seen_so (SeesReferral c datas) s = referral_so c datas s

  -- ---- below a name

  -- what is so of a delegation at or above the name, and of names that are left open, is so of the question
  pub lowered_so : (n : Name) (x : StepSeen) → at_or_above (apex_of z.zone) n ≡ true → at_or_above n q ≡ true → (same n q && (t == 43)) ≡ false → IsCutSo algorithms z n x → IsToldSo algorithms z q t (at_cut x)
  lowered_so n (TellsDown c ds) inside a other s =
      (refers z.zone q t (low n) (cut_down z.zone n q s.1 a) other ∙ ap (λ d. Some d) (sym s.0), s.2)
  lowered_so n (TellsUnsigned c datas) inside a other s =
      (refers z.zone q t (low n) (cut_down z.zone n q s.1 a) other ∙ ap (λ d. Some d) (sym s.0), s.2)
  lowered_so n TellsOpen inside a other s =
      let at : at_or_above (apex_of z.zone) (low n) ≡ true = above_lowered (apex_of z.zone) n ∙ inside in
      let up : at_or_above (low n) (low q) ≡ true = above-low n q ∙ a in
      (refl, open_down z.zone z.optout n q at up s.0, unaliased_down z.zone z.optout n q at up t o.servable.aliases s.0 s.1)
  lowered_so n TellsNoCut inside a other s = tt
  lowered_so n TellsNoneBelow inside a other s = tt
  lowered_so n (TellsNothing e) inside a other s = tt
  lowered_so n (AsksFor asks) inside a other s = tt
  lowered_so n (TellsVerdict w) inside a other s = tt
  lowered_so n (TellsLead lead) inside a other s = tt

-- ---- searches

sees_so : (table : List Checked) (h : JudgeInput) (v : Version) (x : Seen) (l : Option Validity) (n : Counts) → IsSearched table h (Sees x) l n → AreOfZone table h v → IsSo h (v ∷ []) x
sees_so table h v x l n s of = go s.found s.is_found s.is
  where
    go : (found : AnswerOutcome) → IsFound table h found → Sees x ≡ search_of found → IsSo h (v ∷ []) x
    go (f.Means meaning validity verifications hashes) is e =
        let same_is : seen meaning ≡ x = (let both : Sees x ≡ Sees (seen meaning) = e in cc) in
        subst (IsSo h (v ∷ [])) same_is (found_truly table h (f.Means meaning validity verifications hashes) is of.passes (v ∷ []) of.true_are of.honest)
    go (f.Refused refusal verifications hashes) is e = absurd cc
    go (f.Asks asks verifications hashes) is e = absurd cc

-- what is so of a delegation
pub cut_truly : (algorithms : List ℕ) (table : List Checked) (h : JudgeInput) (said : StepSeen) (l : Option Validity) (n : Counts) → IsCutTold algorithms table h said l n → TellsCutTruly algorithms table h said
cut_truly algorithms table h said l n is v ds of = subst (IsCutSo algorithms (zone_of_version h.apex v) h.asked.name) (sym is.is) (go is.came is.searched)
  where
    go : (came : Search) → IsSearched table h came l n → IsCutSo algorithms (zone_of_version h.apex v) h.asked.name (cut_searched algorithms h.asked.name came)
    go (Sees x) s = cut_so algorithms h v of.in_order ds x (sees_so table h v x l n s of)
    go (Refuses e) s = tt
    go (Wants asks) s = tt

-- a question at or above the case's name
pub aside_of : (table : List Checked) (h : JudgeInput) (v : Version) (c : Name) → at_or_above c h.asked.name ≡ true → at_or_above h.apex c ≡ true → AreOfZone table h v → AreOfZone table (aside h (asking h c 43)) v
aside_of table h v c above inside of = record {
  passes = of.passes;
  true_are = of.true_are;
  honest = record {
    itself = of.honest.beside (asking h c 43) (record { above = above; inside = inside; class = refl; rtype = inr (inr (inr refl)) });
    beside = λ asked b. of.honest.beside asked (record { above = above_trans asked.name c h.asked.name b.above above; inside = b.inside; class = b.class; rtype = b.rtype });
  };
  in_order = of.in_order;
}

module _ (algorithms : List ℕ) (table : List Checked) (h : JudgeInput) (v : Version) (validity : Option Validity) (counts : Counts) (said : StepSeen) (l : Option Validity) (n : Counts) where
  told_at_cut : (c : Name) → IsSo h (v ∷ []) (SeesDelegated (Some c)) → AreOfZone table h v → IsToldAt algorithms table h c validity counts said l n
      → IsToldSo algorithms (zone_of_version h.apex v) h.asked.name h.asked.rtype said
  told_at_cut c s of is =
      let z : TreeZone = zone_of_version h.apex v in
      let q : Name = h.asked.name in
      let at : cut z.zone (low q) ≡ Some (low c) = s.1 v refl in
      let k : IsCut z.zone (low q) (low c) = cut_is z.zone (low q) (low c) (low-low q) at in
      let above : at_or_above c q ≡ true = sym (above-low c q) ∙ k.above in
      let below : strictly_above (apex_of z.zone) (low c) ≡ true = (and_parts (has z.zone (low c) 2) (strictly_above (apex_of z.zone) (low c)) k.delegation).1 in
      let inside : at_or_above h.apex c ≡ true = sym (above-low h.apex c) ∙ strictly_at (apex_of z.zone) (low c) below in
      let refer : refers_to z.zone q h.asked.rtype ≡ Some (low c) = delegated_refers z.zone z.optout q h.asked.rtype (low c) (said_is algorithms h v of.in_order Delegated s.0) at in
      let other : (same c q && (h.asked.rtype == 43)) ≡ false = (referred z.zone q h.asked.rtype (low c) refer).other in
      let so : IsCutSo algorithms z c is.below = cut_truly algorithms table (aside h (asking h c 43)) is.below is.below_validity is.below_counts is.told_is v refl (aside_of table h v c above inside of) in
      subst (IsToldSo algorithms z q h.asked.rtype) (sym is.is) (lowered_so algorithms h v of.in_order c is.below (lowered_above h.apex c ∙ inside) above other so)

  by_seen : (x : Seen) → IsSo h (v ∷ []) x → IsOrderlyZone (zone_of_version h.apex v) → said ≡ seen_told algorithms h.asked x
      → IsToldSo algorithms (zone_of_version h.apex v) h.asked.name h.asked.rtype said
  by_seen x s o is = subst (IsToldSo algorithms (zone_of_version h.apex v) h.asked.name h.asked.rtype) (sym is) (seen_so algorithms h v o x s)

  seen_truly : (x : Seen) → IsSo h (v ∷ []) x → AreOfZone table h v → IsSeenTold algorithms table h x validity counts said l n
      → IsToldSo algorithms (zone_of_version h.apex v) h.asked.name h.asked.rtype said
  seen_truly (SeesDelegated (Some c)) s of is = told_at_cut c s of is
  seen_truly (SeesDelegated None) s of is = by_seen (SeesDelegated None) s of.in_order is.0
  seen_truly (SeesVerdict w) s of is = by_seen (SeesVerdict w) s of.in_order is.0
  seen_truly (SeesNoDs d) s of is = by_seen (SeesNoDs d) s of.in_order is.0
  seen_truly (SeesAlias target) s of is = by_seen (SeesAlias target) s of.in_order is.0
  seen_truly (SeesStarAlias target) s of is = by_seen (SeesStarAlias target) s of.in_order is.0
  seen_truly SeesOpen s of is = by_seen SeesOpen s of.in_order is.0
  seen_truly (SeesDname owner lead) s of is = by_seen (SeesDname owner lead) s of.in_order is.0
  seen_truly (SeesReferral c datas) s of is = by_seen (SeesReferral c datas) s of.in_order is.0

-- what is so of a question
pub told_truly : (algorithms : List ℕ) (table : List Checked) (h : JudgeInput) (said : StepSeen) (l : Option Validity) (n : Counts) → IsTold algorithms table h said l n → TellsTruly algorithms table h said
told_truly algorithms table h said l n is v of = go is.came is.searched is.is
  where
    go : (came : Search) → IsSearched table h came is.found_validity is.found_counts → IsSearchTold algorithms table h came is.found_validity is.found_counts said l n → IsToldSo algorithms (zone_of_version h.apex v) h.asked.name h.asked.rtype said
    go (Sees x) s to = seen_truly algorithms table h v is.found_validity is.found_counts said l n x (sees_so table h v x is.found_validity is.found_counts s of) of to
    go (Refuses e) s to = subst (IsToldSo algorithms (zone_of_version h.apex v) h.asked.name h.asked.rtype) (sym to.0) tt
    go (Wants asks) s to = subst (IsToldSo algorithms (zone_of_version h.apex v) h.asked.name h.asked.rtype) (sym to.0) tt

-- ---- as it is kept

found_searched : (table : List Checked) (h : JudgeInput) (found : AnswerOutcome) → IsFound table h found → IsSearched table h (search_of found) (validity_of_outcome found) (counts_of (work_of h) found)
found_searched table h found is = record { found = found; is_found = is; is = refl; lasts = refl; counted = refl }

-- what a search found, as how long it lasts and its counts are kept
kept_searched : (table : List Checked) (h : JudgeInput) (found : AnswerOutcome) (l : Option Validity) (n : Counts) → IsFound table h found → l ≡ validity_of_outcome found → n ≡ counts_of (work_of h) found → IsSearched table h (search_of found) l n
kept_searched table h found l n is lasts counted = record { found = found; is_found = is; is = refl; lasts = lasts; counted = counted }

pub cut_in : (algorithms : List ℕ) (table : List Checked) (h : JudgeInput) (found : AnswerOutcome) → IsFound table h found → (n : Name) → n ≡ h.asked.name → (work : ℕ) → work ≡ work_of h → (r : Result JudgedStep AllocError)
    → IfOk r (IsCutFound algorithms n work found) → IfOk r (IsJudgedCut algorithms table h)
cut_in algorithms table h found is n at work of (Ok t) e = record {
  came = search_of found;
  searched = kept_searched table h found t.validity t.counts is e.1 (e.2 ∙ ap (λ k. counts_of k found) of);
  is = e.0 ∙ ap (λ m. cut_searched algorithms m (search_of found)) at;
}
cut_in algorithms table h found is n at work of (Err e) k = tt

pub cut_honest : (algorithms : List ℕ) (table : List Checked) (h : JudgeInput) (r : Result JudgedStep AllocError) → IfOk r (IsJudgedCut algorithms table h) → IfOk r (λ t. TellsCutTruly algorithms table h (told t.step))
cut_honest algorithms table h (Ok t) is = cut_truly algorithms table h (told t.step) t.validity t.counts is
cut_honest algorithms table h (Err e) is = tt

pub told_in : (algorithms : List ℕ) (table : List Checked) (h : JudgeInput) (found : AnswerOutcome) → IsFound table h found → (r : Result JudgedStep AllocError)
    → IfOk r (IsStepOfOutcome algorithms table h found) → IfOk r (IsJudgedStep algorithms table h)
told_in algorithms table h found is (Ok t) e = record {
  came = search_of found;
  found_validity = validity_of_outcome found;
  found_counts = counts_of (work_of h) found;
  searched = found_searched table h found is;
  is = e;
}
told_in algorithms table h found is (Err e) k = tt

pub told_honest : (algorithms : List ℕ) (table : List Checked) (h : JudgeInput) (r : Result JudgedStep AllocError) → IfOk r (IsJudgedStep algorithms table h) → IfOk r (λ t. TellsTruly algorithms table h (told t.step))
told_honest algorithms table h (Ok t) is = told_truly algorithms table h (told t.step) t.validity t.counts is
told_honest algorithms table h (Err e) is = tt
