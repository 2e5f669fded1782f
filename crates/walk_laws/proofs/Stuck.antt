-- A walk over evidence of a tree is not stuck where its zones tell nothing only for want of memory, but where keys are refused.
use Rattle.std.proofs.Common.{◌≡◌, ℕ, true, false, List, [], ◌∷◌, Option, Some, None, refl, sym, ap, subst, ◌∙◌, inl, inr}
use Rattle.std.proofs.lemmas.Bool.{false≢true}
use Rattle.std.specs.Prelude.{Contains}
use Rattle.definitions.specs.Dnskey.{Ds}
use Rattle.definitions.specs.Name.{Name, strictly_above}
use Rattle.definitions.proofs.Members.{In}
use Rattle.denial_laws.proofs.NameFacts.{strictly_at}
use Rattle.messages.specs.Message.{Asked}
use Rattle.answer_judge_facts.specs.declared.validity.Validity.{Validity}
use Rattle.answer_judge.specs.declared.verdict.Refusal.{Refusal}
use Rattle.answer_judge.specs.declared.verdict.Refusal.TheVariants as r
use Rattle.tree_laws.specs.Tree.{Said, refers_to}
use Rattle.evidence_laws.specs.Counts.{Counts}
use Rattle.evidence_laws.specs.Given.{Given}
use Rattle.evidence_laws.specs.Told.{StepSeen, TellsVerdict, TellsLead, TellsDown, TellsUnsigned, TellsOpen, TellsNoCut, TellsNoneBelow, TellsNothing, AsksFor, at_cut}
use Rattle.evidence_laws.specs.Truth.{IsAnchored, IsOfTree, SignedZone, zone_of}
use Rattle.evidence_laws.specs.Walking.{IsNameStep, IsOwnStep, renamed}
use Rattle.resolution_walk.specs.Between.{IsBetween, IsNothing, are_keys_refused, lacked_memory}
use Rattle.resolution_walk.specs.Judged.{IsHeard, OfAnswer, OfName, IsLast}
use Rattle.resolution_walk.specs.declared.ending.Walk.{Walk}
use Rattle.resolution_walk.specs.declared.walk.Limits.{Limits}
use Rattle.walk_laws.specs.Ending.{EndsInTree, SaysSo, WantsMore, AsksMore, IsFull, IsStuck, IsUntoldOf}
use Rattle.walk_laws.specs.Served.{AnswersItself, KeysAreRefused, asking}
use Rattle.walk_laws.proofs.Found.{in_list}
use Rattle.walk_laws.proofs.Uncut.{all_uncut, ds_unreferred}

-- memory enough is no want of it
in_memory : (said : StepSeen) (refusal : Option Refusal) → lacked_memory said ≡ false → IsNothing said refusal → refusal ≡ Some r.Memory → ⊥
in_memory (TellsNothing x) refusal memory nothing is = false≢true (sym memory ∙ ap (λ (o : Option Refusal). lacked_memory (TellsNothing o)) (sym nothing ∙ is))
in_memory TellsNoCut refusal memory nothing is = absurd (let both : None ≡ Some r.Memory = sym nothing ∙ is in cc)
in_memory TellsNoneBelow refusal memory nothing is = absurd (let both : None ≡ Some r.Memory = sym nothing ∙ is in cc)
in_memory (TellsVerdict v) refusal memory nothing is = nothing
in_memory (TellsLead lead) refusal memory nothing is = nothing
in_memory (TellsDown c ds) refusal memory nothing is = nothing
in_memory (TellsUnsigned c datas) refusal memory nothing is = nothing
in_memory TellsOpen refusal memory nothing is = nothing
in_memory (AsksFor asks) refusal memory nothing is = nothing

-- What a zone's answer tells, to the question where it refers that nowhere, or for DS at a name below it: if that is nothing, memory ran
-- out.
pub record OnlyForMemory (e : Given) (asked : Asked) (zones : List SignedZone) (anchor : SignedZone) : Type 0 where
  pub own : (s : SignedZone) (ds : List Ds) (n : Name) → IsAnchored e zones anchor s ds → AnswersItself s n asked.rtype
      → (said : StepSeen) (l : Option Validity) (counts : Counts) (refusal : Option Refusal) → IsOwnStep e s.apex ds (asking asked n asked.rtype) said l counts → IsNothing said refusal → refusal ≡ Some r.Memory
  pub name : (s : SignedZone) (ds : List Ds) (n : Name) → IsAnchored e zones anchor s ds → AnswersItself s n 43 → strictly_above s.apex n ≡ true
      → (said : StepSeen) (l : Option Validity) (counts : Counts) (refusal : Option Refusal) → IsNameStep e s.apex ds (asking asked n 43) said l counts → said ≡ at_cut said → IsNothing said refusal
      → refusal ≡ Some r.Memory

module _ (e : Given) (asked : Asked) (cuts : ℕ) (zones : List SignedZone) (anchor : SignedZone) (names : List Name) (of : IsOfTree e asked.class zones anchor) (only : OnlyForMemory e asked zones anchor)
    (w : Walk) (u : IsUntoldOf asked cuts zones anchor names e w) where
  abbrev last : Asked
  last = renamed asked u.name

  answered : (between : IsBetween e last u.zone.apex u.ds u.untold.sought) → AnswersItself u.zone between.name 43
  answered between = (strictly_at u.zone.apex between.name between.reached.lies.0, ds_unreferred e asked.class zones anchor of last refl u.zone u.ds u.anchored between.name between.reached)

  -- an answer for DS at a name between tells something
  by_name : (said : StepSeen) (n : Counts) → IsNothing said u.refusal → IsBetween e last u.zone.apex u.ds u.untold.sought → lacked_memory said ≡ false → IsNameStep e u.zone.apex u.ds u.untold.sought said u.untold.validity n → said ≡ at_cut said → ⊥
  by_name said n nothing between memory step cut =
      in_memory said u.refusal memory nothing (only.name u.zone u.ds between.name u.anchored (answered between) between.reached.lies.0 said u.untold.validity n u.refusal
      (subst (λ (q : Asked). IsNameStep e u.zone.apex u.ds q said u.untold.validity n) between.is step) cut nothing)

  -- so does the own one of a zone that refers the question nowhere
  never_at_end : refers_to (zone_of u.zone).zone u.name asked.rtype ≡ None → ⊥
  never_at_end none = go u.untold.said u.untold.heard u.untold.nothing
    where
      go : (said : StepSeen) → IsHeard e last u.zone.apex u.ds u.untold.sought said u.untold.validity → IsNothing said u.refusal → ⊥
      go said (OfAnswer n same memory step) nothing = in_memory said u.refusal memory nothing (only.own u.zone u.ds u.name u.anchored (u.above, none) said u.untold.validity n u.refusal step nothing)
      go said (OfName n between memory step cut) nothing = by_name said n nothing between memory step cut

  -- of a zone that refers the name on
  refused : (c : Name) → refers_to (zone_of u.zone).zone u.name asked.rtype ≡ Some c → are_keys_refused u.refusal ≡ true
  refused c refers = go u.untold.said u.untold.heard u.untold.nothing
    where
      by_last : IsLast e last u.zone.apex u.ds u.refusal → are_keys_refused u.refusal ≡ true
      by_last (inl keys) = keys
      by_last (inr (before, after, all)) = absurd (all_uncut e asked.class zones anchor of last refl u.zone u.ds u.anchored before after c refers all)

      go : (said : StepSeen) → IsHeard e last u.zone.apex u.ds u.untold.sought said u.untold.validity → IsNothing said u.refusal → are_keys_refused u.refusal ≡ true
      go said (OfAnswer n same memory step) nothing = by_last (u.untold.last same)
      go said (OfName n between memory step cut) nothing = absurd (by_name said n nothing between memory step cut)

  pub keys_refused : KeysAreRefused asked cuts zones anchor names e w
  keys_refused = go (refers_to (zone_of u.zone).zone u.name asked.rtype) refl
    where
      go : (o : Option Name) → refers_to (zone_of u.zone).zone u.name asked.rtype ≡ o → KeysAreRefused asked cuts zones anchor names e w
      go (Some c) is = record { untold = u; cut = c; refers = is; refused = refused c is }
      go None is = absurd (never_at_end is)

-- why a walk is stuck
pub stuck_for : {A B : Given → Walk → Type 0} (e : Given) (limits : Limits) (said : Said) (names : List Name) (w : Walk) (why : A e w → B e w) → EndsInTree A e limits said names w → EndsInTree B e limits said names w
stuck_for e limits said names w why (SaysSo s is alike through) = SaysSo s is alike through
stuck_for e limits said names w why (WantsMore ws is) = WantsMore ws is
stuck_for e limits said names w why (AsksMore asks is) = AsksMore asks is
stuck_for e limits said names w why (IsFull is full) = IsFull is full
stuck_for e limits said names w why (IsStuck stuck) = IsStuck (why stuck)

pub only_one : {X : Type 0} (x y : X) → Contains (x ∷ []) y → y ≡ x
only_one x y there = go (in_list (x ∷ []) y there)
  where
    go : In y (x ∷ []) → y ≡ x
    go (inl is) = is
    go (inr later) = absurd later
