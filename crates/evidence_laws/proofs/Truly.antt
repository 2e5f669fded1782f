-- What evidence tells is what the tree says.
use Rattle.std.proofs.Common.{◌≡◌, ℕ, true, false, ◌&&◌, not, List, [], Option, Some, refl, sym, ap, subst, ◌∙◌, inl, inr}
use Rattle.std.specs.Prelude.{◌==◌}
use Rattle.std.proofs.lemmas.Bool.{and_parts, and_from}
use Rattle.definitions.specs.Dnskey.{Ds}
use Rattle.definitions.specs.Name.{Name, low, same, at_or_above, strictly_above}
use Rattle.definitions.specs.Zone.{apex_of, cut}
use Rattle.definitions.proofs.ZoneNames.{above_itself, low-low, lowered_above}
use Rattle.denial_laws.specs.Leading.{To}
use Rattle.denial_laws.proofs.NameFacts.{strictly_at}
use Rattle.denial_laws.proofs.ZoneCuts.{IsCut, cut_from, cut_is, cut_live, delegation_low}
use Rattle.messages.specs.Message.{Asked}
use Rattle.answer_judge.specs.Judging.{JudgeInput}
use Rattle.answer_judge_facts.specs.declared.validity.Validity.{Validity}
use Rattle.tree_laws.specs.Tree.{Said, Leads, Says, SaysItself, Itself, Below, Resolves, is_bound, is_within, refers_to, zone_at}
use Rattle.tree_laws.specs.Tree as tree
use Rattle.tree_laws.specs.Orderly.{IsOrderlyZone}
use Rattle.tree_laws.proofs.Trees.{IsReferred, referred}
use Rattle.resolution_step.specs.KnownDs.{knows}
use Rattle.resolution_step.specs.declared.judged_step.Counts.{Counts}
use Rattle.resolution_step.specs.Told.{StepSeen, TellsVerdict, TellsLead, TellsDown, TellsUnsigned, TellsOpen, TellsNoCut, TellsNoneBelow, TellsNothing, AsksFor, at_cut}
use Rattle.resolution_step.specs.Truth.{AreOfZone, IsCutSo, IsToldSo, IsWayDown, zone_of_version}
use Rattle.resolution_step.proofs.Truly.{cut_truly, lowered_so, told_truly}
use Rattle.evidence_laws.specs.Given.{Given, IsOf, judge_input}
use Rattle.evidence_laws.specs.Walking.{Onward, GoesDown, EndsIn, Stops, IsOnward, ByQuestion, ByName, IsOwnStep, IsNameStep, Tells, Ends, Goes, Follows, AtOnce, Led, ds_at, is_asked_of, onward, renamed}
use Rattle.evidence_laws.specs.Truth.{HandsOut, IsAnchored, IsOfTree, SignedZone, EvidenceTellsTruly, tree_of, zone_of}

-- a zone of the tree to which another refers a question, by a delegation that has DS records; it hands out this DS set
pub record IsDown (e : Given) (zones : List SignedZone) (anchor : SignedZone) (asked : Asked) (s : SignedZone) (c : Name) (ds : List Ds) : Type 0 where
  pub child : SignedZone
  pub child_is : child.apex ≡ c
  pub anchored : IsAnchored e zones anchor child ds
  pub refers : refers_to (zone_of s).zone asked.name asked.rtype ≡ Some c
  pub bound : is_bound (knows e.algorithms) (zone_of s).zone c ≡ true
  pub found : zone_at (tree_of zones) c ≡ Some (zone_of child)

module _ (e : Given) (class : ℕ) (zones : List SignedZone) (anchor : SignedZone) (of : IsOfTree e class zones anchor) where
  of_zone : (asked : Asked) → asked.class ≡ class → (s : SignedZone) (ds : List Ds) (h : JudgeInput) → IsAnchored e zones anchor s ds → IsOf e s.apex ds asked h → AreOfZone e.table h s.version
  of_zone asked in_class s ds h a is = record {
    passes = of.passes;
    true_are = of.true_are;
    honest = of.honest s ds asked h in_class a is;
    in_order = subst (λ (n : Name). IsOrderlyZone (zone_of_version n s.version)) (sym (ap (λ (x : JudgeInput). x.apex) is.is)) (of.in_order s a.there);
  }

  -- ---- one zone

  pub own_so : (asked : Asked) → asked.class ≡ class → (s : SignedZone) (ds : List Ds) (said : StepSeen) (l : Option Validity) (n : Counts) → IsAnchored e zones anchor s ds → IsOwnStep e s.apex ds asked said l n → IsToldSo e.algorithms (zone_of s) asked.name asked.rtype said
  own_so asked in_class s ds said l n a k =
      let so = told_truly e.algorithms e.table k.judged said l n k.told_is s.version (of_zone asked in_class s ds k.judged a k.of) in
      subst (λ (h : JudgeInput). IsToldSo e.algorithms (zone_of_version h.apex s.version) h.asked.name h.asked.rtype said) k.of.is so

  name_so : (asked : Asked) → asked.class ≡ class → (n : Name) (s : SignedZone) (ds : List Ds) (said : StepSeen) (l : Option Validity) (m : Counts) → IsAnchored e zones anchor s ds → IsNameStep e s.apex ds (ds_at asked n) said l m → IsCutSo e.algorithms (zone_of s) n said
  name_so asked in_class n s ds said l m a k =
      let ds_is = ap (λ (h : JudgeInput). h.asked.rtype) k.of.is in
      let so = cut_truly e.algorithms e.table k.judged said l m k.told_is s.version ds_is (of_zone (ds_at asked n) in_class s ds k.judged a k.of) in
      subst (λ (h : JudgeInput). IsCutSo e.algorithms (zone_of_version h.apex s.version) h.asked.name said) k.of.is so

  -- what an answer for DS at a name at or above the question's tells of a delegation there is so of the question
  pub named_so : (asked : Asked) → asked.class ≡ class → (n : Name) (s : SignedZone) (ds : List Ds) (said : StepSeen) (l : Option Validity) (m : Counts)
      → strictly_above s.apex n ≡ true → at_or_above n asked.name ≡ true → (same n asked.name && (asked.rtype == 43)) ≡ false
      → IsAnchored e zones anchor s ds → IsNameStep e s.apex ds (ds_at asked n) said l m → IsToldSo e.algorithms (zone_of s) asked.name asked.rtype (at_cut said)
  named_so asked in_class n s ds said l m below above other a k =
      let inside : at_or_above (apex_of (zone_of s).zone) n ≡ true = lowered_above s.apex n ∙ strictly_at s.apex n below in
      lowered_so e.algorithms (judge_input e s.apex ds asked [] []) s.version (of.in_order s a.there) n said inside above other (name_so asked in_class n s ds said l m a k)

  abbrev IsOnwardSo : Asked → SignedZone → Onward → Type 0
  IsOnwardSo asked s (GoesDown c ds) = (refers_to (zone_of s).zone asked.name asked.rtype ≡ Some c) × IsWayDown e.algorithms (zone_of s) c ds
  IsOnwardSo asked s (EndsIn said) = SaysItself (knows e.algorithms) asked.name asked.rtype (zone_of s) said
  IsOnwardSo asked s Stops = Unit {0}

  told_onward : (asked : Asked) (s : SignedZone) (x : StepSeen) → IsToldSo e.algorithms (zone_of s) asked.name asked.rtype x → IsOnwardSo asked s (onward s.apex x)
  told_onward asked s (TellsVerdict v) so = so
  told_onward asked s (TellsLead lead) so = so
  told_onward asked s (TellsDown c ds) so = so
  told_onward asked s (TellsUnsigned c datas) so = (so.0, so.1.unbound)
  told_onward asked s TellsOpen so = so
  told_onward asked s TellsNoCut so = tt
  told_onward asked s TellsNoneBelow so = tt
  told_onward asked s (TellsNothing r) so = tt
  told_onward asked s (AsksFor asks) so = tt

  onward_so : (asked : Asked) → asked.class ≡ class → (s : SignedZone) (ds : List Ds) (o : Onward) (l : Option Validity) → IsAnchored e zones anchor s ds → IsOnward e asked s.apex ds o l → IsOnwardSo asked s o
  onward_so asked in_class s ds o l a (ByQuestion said m k is) = subst (IsOnwardSo asked s) (sym is) (told_onward asked s said (own_so asked in_class s ds said l m a k))
  onward_so asked in_class s ds o l a (ByName n said m below above other k is) =
      subst (IsOnwardSo asked s) (sym is) (told_onward asked s (at_cut said) (named_so asked in_class n s ds said l m below above other a k))

  -- ---- down

  pub down_so : (asked : Asked) → asked.class ≡ class → (zone c : Name) (ds below : List Ds) (l : Option Validity) (s : SignedZone) → s.apex ≡ zone → IsAnchored e zones anchor s ds → IsOnward e asked zone ds (GoesDown c below) l
      → IsDown e zones anchor asked s c below
  down_so asked in_class zone c ds below l s at a x =
      let so = onward_so asked in_class s ds (GoesDown c below) l a (subst (λ n. IsOnward e asked n ds (GoesDown c below) l) (sym at) x) in
      let k : IsReferred (zone_of s).zone asked.name asked.rtype c = referred (zone_of s).zone asked.name asked.rtype c so.0 in
      let there : IsCut (zone_of s).zone (low asked.name) c = cut_is (zone_of s).zone (low asked.name) c (low-low asked.name) k.cut_is in
      let own : cut (zone_of s).zone c ≡ Some c = cut_from (zone_of s).zone c c (delegation_low (zone_of s).zone c there.delegation) there.delegation (cut_live (zone_of s).zone (low asked.name) c there) (above_itself c) in
      let child = of.whole s (low asked.name) c a.there k.cut_is so.1.bound in
      let out : HandsOut e.algorithms zones child.0.apex below = subst (λ n. HandsOut e.algorithms zones n below) (sym child.2) (record { parent = s; there = a.there; delegates = own; bound = so.1.bound; ds_are = so.1.ds_are }) in
      record {
        child = child.0;
        child_is = child.2;
        anchored = record { there = child.1; by = inr out };
        refers = so.0;
        bound = so.1.bound;
        found = child.3;
      }

  pub tells_so : (asked : Asked) → asked.class ≡ class → (said : Said) (zone : Name) (ds : List Ds) (l : Option Validity) (s : SignedZone) → s.apex ≡ zone → IsAnchored e zones anchor s ds → Tells e asked said zone ds l → Says (knows e.algorithms) (tree_of zones) asked.name asked.rtype said (zone_of s)
  tells_so asked in_class said zone ds l s at a (Ends x) = Itself (onward_so asked in_class s ds (EndsIn said) l a (subst (λ n. IsOnward e asked n ds (EndsIn said) l) (sym at) x))
  tells_so asked in_class said zone ds l s at a (Goes {c = c} {below = below} {first = first} {rest = rest} x more lasts) =
      let d : IsDown e zones anchor asked s c below = down_so asked in_class zone c ds below first s at a x in
      Below d.refers d.bound d.found (tells_so asked in_class said c below rest d.child d.child_is d.anchored more)

  -- ---- through aliases

  within : (asked : Asked) → is_asked_of e.anchor asked ≡ true → is_within (zone_of anchor).zone asked.name asked.rtype ≡ true
  within asked w =
      let both = and_parts (at_or_above e.anchor asked.name) (not (same e.anchor asked.name && (asked.rtype == 43))) w in
      and_from _ _ (lowered_above anchor.apex asked.name ∙ ap (λ n. at_or_above n asked.name) of.anchor_is ∙ both.0)
      (ap (λ n. not (same n asked.name && (asked.rtype == 43))) of.anchor_is ∙ both.1)

  told_by_anchor : (asked : Asked) → asked.class ≡ class → (said : Said) (l : Option Validity) → Tells e asked said e.anchor e.ds l → Says (knows e.algorithms) (tree_of zones) asked.name asked.rtype said (zone_of anchor)
  told_by_anchor asked in_class said l x = tells_so asked in_class said e.anchor e.ds l anchor of.anchor_is (record { there = of.anchor_there; by = inl (refl, refl) }) x

  pub follows_so : (said : Said) (asked : Asked) → asked.class ≡ class → (ns : List Name) (l : Option Validity) → Follows e said asked ns l → Resolves (knows e.algorithms) (tree_of zones) (zone_of anchor) asked.rtype said asked.name ns
  follows_so said asked in_class ns l (AtOnce w x leads) = tree.Ends (within asked w) (told_by_anchor asked in_class said l x) leads
  follows_so said asked in_class ns l (Led {n = n} {ns = ms} {first = first} {rest = rest} w x more lasts) =
      tree.Led (within asked w) (told_by_anchor asked in_class (Leads (To n)) first x) (follows_so said (renamed asked n) in_class ms rest more)

pub evidence_tells_truly : EvidenceTellsTruly
evidence_tells_truly e zones anchor asked said ns l of follows = follows_so e asked.class zones anchor of said asked refl ns l follows
