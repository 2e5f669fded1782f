-- Where evidence leads down, it leads to a zone at or above the question's name.
use Rattle.std.proofs.Common.{◌≡◌, true, List, Option, subst, ◌∙◌}
use Rattle.definitions.specs.Dnskey.{Ds}
use Rattle.definitions.specs.Name.{Name, at_or_above}
use Rattle.definitions.proofs.ZoneNames.{lowered_above}
use Rattle.messages.specs.Message.{AreOctets, Asked}
use Rattle.answer_judge.specs.Judging.{JudgeInput}
use Rattle.answer_judge_facts.specs.declared.validity.Validity.{Validity}
use Rattle.resolution_step.specs.Told.{StepSeen, TellsVerdict, TellsLead, TellsDown, TellsUnsigned, TellsOpen, TellsNoCut, TellsNoneBelow, TellsNothing, AsksFor, IsCutTold, IsTold, at_cut}
use Rattle.resolution_step.specs.declared.judged_step.Counts.{Counts}
use Rattle.resolution_step.proofs.Downward.{cut_told_down, told_down}
use Rattle.evidence_laws.specs.Given.{Given, judge_input}
use Rattle.evidence_laws.specs.Staying.{HasOctets}
use Rattle.evidence_laws.specs.Walking.{GoesDown, IsOnward, ByQuestion, ByName, IsOwnStep, IsNameStep, ds_at, onward}
use Rattle.evidence_laws.proofs.Staying.{sent_octets}

goes_down : (zone c : Name) (ds : List Ds) (said : StepSeen) → GoesDown c ds ≡ onward zone said → said ≡ TellsDown c ds
goes_down zone c ds (TellsDown d es) e = cc
goes_down zone c ds (TellsVerdict v) e = absurd cc
goes_down zone c ds (TellsLead lead) e = absurd cc
goes_down zone c ds (TellsUnsigned d datas) e = absurd cc
goes_down zone c ds TellsOpen e = absurd cc
goes_down zone c ds TellsNoCut e = absurd cc
goes_down zone c ds TellsNoneBelow e = absurd cc
goes_down zone c ds (TellsNothing r) e = absurd cc
goes_down zone c ds (AsksFor asks) e = absurd cc

at_cut_down : (c : Name) (ds : List Ds) (said : StepSeen) → at_cut said ≡ TellsDown c ds → said ≡ TellsDown c ds
at_cut_down c ds (TellsDown d es) e = e
at_cut_down c ds (TellsVerdict v) e = absurd cc
at_cut_down c ds (TellsLead lead) e = absurd cc
at_cut_down c ds (TellsUnsigned d datas) e = absurd cc
at_cut_down c ds TellsOpen e = absurd cc
at_cut_down c ds TellsNoCut e = absurd cc
at_cut_down c ds TellsNoneBelow e = absurd cc
at_cut_down c ds (TellsNothing r) e = absurd cc
at_cut_down c ds (AsksFor asks) e = absurd cc

module _ (e : Given) (octets : HasOctets e) (zone : Name) (ds : List Ds) (c : Name) (below : List Ds) (l : Option Validity) (counts : Counts) where
  own_down : (asked : Asked) → IsOwnStep e zone ds asked (TellsDown c below) l counts → at_or_above c asked.name ≡ true
  own_down asked k =
      let h : JudgeInput = judge_input e zone ds asked k.of.keys k.of.answer in
      let told : IsTold e.algorithms e.table h (TellsDown c below) l counts = subst (λ (x : JudgeInput). IsTold e.algorithms e.table x (TellsDown c below) l counts) k.of.is k.told_is in
      let keys : AreOctets k.of.keys = sent_octets _ e.messages k.of.keys octets k.of.keys_are in
      let answer : AreOctets k.of.answer = sent_octets _ e.messages k.of.answer octets k.of.answer_is in
      told_down e.algorithms e.table e.at h keys answer c below l counts told

  name_down : (asked : Asked) (n : Name) → at_or_above n asked.name ≡ true → IsNameStep e zone ds (ds_at asked n) (TellsDown c below) l counts → at_or_above c asked.name ≡ true
  name_down asked n above k =
      let h : JudgeInput = judge_input e zone ds (ds_at asked n) k.of.keys k.of.answer in
      let told : IsCutTold e.algorithms e.table h (TellsDown c below) l counts = subst (λ (x : JudgeInput). IsCutTold e.algorithms e.table x (TellsDown c below) l counts) k.of.is k.told_is in
      let keys : AreOctets k.of.keys = sent_octets _ e.messages k.of.keys octets k.of.keys_are in
      let answer : AreOctets k.of.answer = sent_octets _ e.messages k.of.answer octets k.of.answer_is in
      subst (λ m. at_or_above m asked.name ≡ true) (cut_told_down e.algorithms e.table e.at h keys answer c below l counts told) (lowered_above n asked.name ∙ above)

pub onward_down : (e : Given) → HasOctets e → (asked : Asked) (zone : Name) (ds : List Ds) (c : Name) (below : List Ds) (l : Option Validity) → IsOnward e asked zone ds (GoesDown c below) l → at_or_above c asked.name ≡ true
onward_down e octets asked zone ds c below l (ByQuestion said counts step is) =
    own_down e octets zone ds c below l counts asked (subst (λ (x : StepSeen). IsOwnStep e zone ds asked x l counts) (goes_down zone c below said is) step)
onward_down e octets asked zone ds c below l (ByName n said counts inside above other step is) =
    let down : said ≡ TellsDown c below = at_cut_down c below said (goes_down zone c below (at_cut said) is) in
    name_down e octets zone ds c below l counts asked n above (subst (λ (x : StepSeen). IsNameStep e zone ds (ds_at asked n) x l counts) down step)
