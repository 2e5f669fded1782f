-- No delegation is where a zone's answers for DS tell so.
use Rattle.std.proofs.Common.{◌≡◌, ℕ, ◌<◌, ◌≤◌, length, true, List, [], ◌∷◌, drop, Option, Some, None, refl, sym, ap, subst, ◌∙◌, ◌⊎◌, inl, inr, arith}
use Rattle.std.specs.Prelude.{◌==◌}
use Rattle.std.proofs.lemmas.Bool.{and_from, and_parts, false≢true}
use Rattle.definitions.specs.Dnskey.{Ds}
use Rattle.definitions.specs.Name.{Name, at_or_above, labels_eq, low, same, strictly_above}
use Rattle.definitions.specs.Zone.{Zone, apex_of, has, is_delegation}
use Rattle.definitions.proofs.NameLaws.{labels_decide}
use Rattle.definitions.proofs.ZoneNames.{above_itself, above_longer, above_lowered, low-low, lowered_above, same-length}
use Rattle.denial_laws.proofs.NameFacts.{above_cases, same_names, strictly-low, strictly_above_at, strictly_at, strictly_lowered}
use Rattle.denial_laws.proofs.ZoneCuts.{IsCut, cut_is, delegation_low, uncut}
use Rattle.messages.specs.Message.{Asked}
use Rattle.answer_judge.specs.Judging.{JudgeInput}
use Rattle.answer_judge_facts.specs.declared.validity.Validity.{Validity}
use Rattle.tree_laws.specs.Orderly.{IsOrderlyZone}
use Rattle.tree_laws.specs.Tree.{refers_to}
use Rattle.tree_laws.proofs.Trees.{IsReferred, referred}
use Rattle.resolution_step.specs.Truth.{AreOfZone, IsCutSo, zone_of_version}
use Rattle.resolution_step.proofs.Truly.{cut_truly}
use Rattle.evidence_laws.specs.Counts.{Counts}
use Rattle.evidence_laws.specs.Given.{Given}
use Rattle.evidence_laws.specs.Told.{StepSeen, TellsNoCut, TellsNoneBelow}
use Rattle.evidence_laws.specs.Truth.{IsAnchored, IsOfTree, SignedZone, zone_of}
use Rattle.evidence_laws.specs.Walking.{IsNameStep, ds_at}
use Rattle.resolution_walk.specs.Between.{AreAllUncut, DownToName, DownToMissing, AreUncut, AtZone, Itself, Next, IsReached}

module _ (e : Given) (class : ℕ) (zones : List SignedZone) (anchor : SignedZone) (of : IsOfTree e class zones anchor) (asked : Asked) (in_class : asked.class ≡ class)
    (s : SignedZone) (ds : List Ds) (a : IsAnchored e zones anchor s ds) where
  abbrev z : Zone
  z = (zone_of s).zone

  -- what an answer for DS tells is so of the zone
  name_so : (n : Name) (said : StepSeen) (l : Option Validity) (m : Counts) → IsNameStep e s.apex ds (ds_at asked n) said l m → IsCutSo e.algorithms (zone_of s) n said
  name_so n said l m k =
      let of_zone : AreOfZone e.table k.judged s.version = record {
        passes = of.passes;
        true_are = of.true_are;
        honest = of.honest s ds (ds_at asked n) k.judged in_class a k.of;
        in_order = subst (λ (x : Name). IsOrderlyZone (zone_of_version x s.version)) (sym (ap (λ (h : JudgeInput). h.apex) k.of.is)) (of.in_order s a.there);
      } in
      let so = cut_truly e.algorithms e.table k.judged said l m k.told_is s.version (ap (λ (h : JudgeInput). h.asked.rtype) k.of.is) of_zone in
      subst (λ (h : JudgeInput). IsCutSo e.algorithms (zone_of_version h.apex s.version) h.asked.name said) k.of.is so

  -- a delegation is below the apex, and so is what is at or below it
  inside : (c p : Name) → is_delegation z c ≡ true → at_or_above c p ≡ true → strictly_above s.apex p ≡ true
  inside c p deleg above =
      sym (strictly-low s.apex p) ∙ strictly_lowered (low s.apex) p ∙ strictly_above_at (low s.apex) c p (and_parts (has z c 2) (strictly_above (apex_of z) c) deleg).1 above

  -- none stands at or above a name that is shorter than the question's
  above_uncut : (before after : Counts) (p c : Name) → length p < length asked.name → is_delegation z c ≡ true → at_or_above c p ≡ true → AreUncut e asked s.apex ds before p after → ⊥
  above_uncut before after p c short deleg above (AtZone none is) = false≢true (sym none ∙ inside c p deleg above)
  above_uncut before after p c short deleg above (Itself is rest) =
      let long : length p ≡ length asked.name = same-length p asked.name (and_parts (same p asked.name) (asked.rtype == 43) is).0 in
      omega (arith, short, long)
  above_uncut before after p c short deleg above (Next lies other rest told) =
      uncut z (low p) (low-low p) (name_so p TellsNoCut told.validity told.counts told.step) c deleg (above_lowered c p ∙ above)

  parent_uncut : (before after : Counts) (n c : Name) → at_or_above n asked.name ≡ true → is_delegation z c ≡ true → strictly_above c n ≡ true → AreUncut e asked s.apex ds before (drop 1 n) after → ⊥
  parent_uncut before after [] c up deleg above u = false≢true above
  parent_uncut before after (l ∷ p) c up deleg above u =
      let long : length {A = List ℕ} (l ∷ p) ≤ length asked.name = above_longer (l ∷ p) asked.name up in
      above_uncut before after p c (omega (arith, long)) deleg above u

  -- a question that is referred on is so by a delegation above its name, but for DS at the name itself
  above_name : (n c : Name) (t : ℕ) → (t == 43) ≡ true → IsReferred z n t c → IsCut z (low n) c → strictly_above c n ≡ true
  above_name n c t ds_is r k = go (above_cases c (low n) k.above)
    where
      go : (same c (low n) ≡ true) ⊎ (strictly_above c (low n) ≡ true) → strictly_above c n ≡ true
      go (inl alike) =
          let names : c ≡ low n = sym (delegation_low z c k.delegation) ∙ same_names c (low n) alike ∙ low-low n in
          absurd (false≢true (sym r.other ∙ and_from (labels_eq c (low n)) (t == 43) ((labels_decide c (low n)).1 names) ds_is))
      go (inr above) = sym (strictly_lowered c n) ∙ above

  -- where no delegation is at any name between, none refers the question on
  pub all_uncut : (before after : Counts) (c : Name) → refers_to z asked.name asked.rtype ≡ Some c → AreAllUncut e asked s.apex ds before after → ⊥
  all_uncut before after c refers all = go (referred z asked.name asked.rtype c refers) all
    where
      at_name : IsReferred z asked.name asked.rtype c → IsCut z (low asked.name) c → AreUncut e asked s.apex ds before asked.name after → ⊥
      at_name r k (AtZone none is) =
          false≢true (sym none ∙ sym (strictly_lowered s.apex asked.name) ∙ inside c (low asked.name) k.delegation k.above)
      at_name r k (Itself is rest) =
          let ds_is : (asked.rtype == 43) ≡ true = (and_parts (same asked.name asked.name) (asked.rtype == 43) is).1 in
          parent_uncut before after asked.name c (above_itself asked.name) k.delegation (above_name asked.name c asked.rtype ds_is r k) rest
      at_name r k (Next lies other rest told) =
          absurd (let both : None ≡ Some c = sym (name_so asked.name TellsNoCut told.validity told.counts told.step) ∙ r.cut_is in cc)

      go : IsReferred z asked.name asked.rtype c → AreAllUncut e asked s.apex ds before after → ⊥
      go r (DownToName u) = at_name r (cut_is z (low asked.name) c (low-low asked.name) r.cut_is) u
      go r (DownToMissing m) =
          let so = name_so m.name TellsNoneBelow m.told.validity m.told.counts m.told.step in
          let up : at_or_above (apex_of z) m.name ≡ true = lowered_above s.apex m.name ∙ strictly_at s.apex m.name m.lies.0 in
          absurd (let both : None ≡ Some c = sym (so.below asked.name up m.lies.1) ∙ r.cut_is in cc)

  -- the zone refers DS at a name that is asked for on the way nowhere
  pub ds_unreferred : (n : Name) → IsReached e asked s.apex ds n → refers_to z n 43 ≡ None
  ds_unreferred n k = go (refers_to z n 43) refl
    where
      go : (o : Option Name) → refers_to z n 43 ≡ o → refers_to z n 43 ≡ None
      go None is = is
      go (Some c) is =
          let r : IsReferred z n 43 c = referred z n 43 c is in
          let d : IsCut z (low n) c = cut_is z (low n) c (low-low n) r.cut_is in
          absurd (parent_uncut k.before k.after n c k.lies.1 d.delegation (above_name n c 43 refl r d) k.above)
