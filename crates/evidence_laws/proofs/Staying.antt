-- What evidence tells stays proved as long as it lasts, and agrees with what other evidence of the tree tells.
use Rattle.std.proofs.Common.{◌≡◌, ℕ, ◌+◌, ◌≤◌, Bool, true, false, List, [], ◌∷◌, Option, Some, refl, sym, ap, subst, ◌∙◌, inl, inr, arith}
use Rattle.std.specs.Prelude.{◌/◌, if◌then◌else◌}
use Rattle.std.specs.List.{AllByRecursion, find}
use Rattle.std.specs.Option.{option_map}
use Rattle.std.proofs.lemmas.Bool.{false≢true}
use Rattle.definitions.specs.Dnskey.{Ds}
use Rattle.definitions.specs.Name.{Name}
use Rattle.definitions.proofs.Members.{In, contained}
use Rattle.denial_laws.specs.Leading.{To}
use Rattle.messages.specs.Message.{AreOctets, Asked}
use Rattle.answer_judge.specs.Judging.{JudgeInput}
use Rattle.answer_judge_facts.specs.declared.validity.Validity.{Validity}
use Rattle.tree_laws.specs.Laws.{TreesResolveToOne}
use Rattle.tree_laws.specs.Orderly.{IsOrderlyTree, IsOrderlyZone}
use Rattle.tree_laws.specs.Tree.{Said, Leads, Resolves}
use Rattle.resolution_step.specs.KnownDs.{knows}
use Rattle.resolution_step.specs.Proved.{tells}
use Rattle.resolution_step.specs.Told.{StepSeen, TellsVerdict, TellsLead, TellsDown, TellsUnsigned, TellsOpen, TellsNoCut, TellsNoneBelow, TellsNothing, AsksFor, IsCutTold, IsTold, at_cut}
use Rattle.resolution_step.specs.declared.judged_step.Counts.{Counts}
use Rattle.resolution_step.proofs.Staying.{LastsFor, at_cut_tells, both_last, cut_told_stays, told_stays}
use Rattle.evidence_laws.specs.Given.{Given, Message, judge_input}
use Rattle.evidence_laws.specs.Staying.{HasOctets, IsOwnProved, IsNameProved, IsOnwardProved, ByQuestionProved, ByNameProved, ProvesDown, EndsProved, GoesProved, ProvesThrough, AtOnceProved, LedProved, EvidenceStaysProved, EvidenceAgrees, at_time}
use Rattle.evidence_laws.specs.Truth.{SignedZone, tree_of, zone_of}
use Rattle.evidence_laws.specs.Walking.{Onward, GoesDown, EndsIn, Stops, IsOnward, ByQuestion, ByName, IsOwnStep, IsNameStep, Tells, Ends, Goes, Follows, AtOnce, Led, ds_at, onward, renamed}
use Rattle.evidence_laws.proofs.Truly.{follows_so}

-- a message that is found is octets
pub sent_octets : (p : Message → Bool) (ms : List Message) (m : List ℕ) → AllByRecursion (λ m. AreOctets m.octets) ms → option_map (λ (x : Message). x.octets) (find p ms) ≡ Some m → AreOctets m
sent_octets p [] m all is = absurd cc
sent_octets p (x ∷ ms) m all is = go (p x) is (sent_octets p ms m all.1)
  where
    go : (b : Bool) → option_map (λ (x : Message). x.octets) (if b then Some x else find p ms) ≡ Some m → (option_map (λ (x : Message). x.octets) (find p ms) ≡ Some m → AreOctets m) → AreOctets m
    go true e rest = let same : x.octets ≡ m = (let both : Some x.octets ≡ Some m = e in cc) in subst AreOctets same all.0
    go false e rest = rest e

abbrev goes : Onward → Bool
goes (GoesDown c ds) = true
goes (EndsIn said) = true
goes Stops = false

-- what leads somewhere tells something
goes_tells : (zone : Name) (said : StepSeen) (o : Onward) → goes o ≡ true → o ≡ onward zone said → tells said ≡ true
goes_tells zone (TellsVerdict v) o k e = refl
goes_tells zone (TellsLead lead) o k e = refl
goes_tells zone (TellsDown c ds) o k e = refl
goes_tells zone (TellsUnsigned c datas) o k e = refl
goes_tells zone TellsOpen o k e = refl
goes_tells zone TellsNoCut o k e = refl
goes_tells zone TellsNoneBelow o k e = refl
goes_tells zone (TellsNothing r) o k e = absurd (false≢true (ap goes (sym e) ∙ k))
goes_tells zone (AsksFor asks) o k e = absurd (false≢true (ap goes (sym e) ∙ k))

module _ (e : Given) (later n : ℕ) (after : e.at ≤ later) (late : later / 1000000000 ≤ e.at / 1000000000 + n) (octets : HasOctets e) where
  abbrev moved : Given
  moved = at_time later e

  own_stays : (zone : Name) (ds : List Ds) (asked : Asked) (said : StepSeen) (l : Option Validity) (counts : Counts) → IsOwnStep e zone ds asked said l counts → tells said ≡ true → LastsFor n l → IsOwnProved moved zone ds asked said
  own_stays zone ds asked said l counts k some lasts =
      let h : JudgeInput = judge_input e zone ds asked k.of.keys k.of.answer in
      let told : IsTold e.algorithms e.table h said l counts = subst (λ (x : JudgeInput). IsTold e.algorithms e.table x said l counts) k.of.is k.told_is in
      let keys : AreOctets k.of.keys = sent_octets _ e.messages k.of.keys octets k.of.keys_are in
      let answer : AreOctets k.of.answer = sent_octets _ e.messages k.of.answer octets k.of.answer_is in
      record {
        judged = judge_input moved zone ds asked k.of.keys k.of.answer;
        of = record { keys = k.of.keys; answer = k.of.answer; keys_are = k.of.keys_are; answer_is = k.of.answer_is; is = refl };
        proved = told_stays e.algorithms e.table e.at later n after late h keys answer said l counts told some lasts;
      }

  name_stays : (zone : Name) (ds : List Ds) (asked : Asked) (said : StepSeen) (l : Option Validity) (counts : Counts) → IsNameStep e zone ds asked said l counts → tells said ≡ true → LastsFor n l → IsNameProved moved zone ds asked said
  name_stays zone ds asked said l counts k some lasts =
      let h : JudgeInput = judge_input e zone ds asked k.of.keys k.of.answer in
      let told : IsCutTold e.algorithms e.table h said l counts = subst (λ (x : JudgeInput). IsCutTold e.algorithms e.table x said l counts) k.of.is k.told_is in
      let keys : AreOctets k.of.keys = sent_octets _ e.messages k.of.keys octets k.of.keys_are in
      let answer : AreOctets k.of.answer = sent_octets _ e.messages k.of.answer octets k.of.answer_is in
      record {
        judged = judge_input moved zone ds asked k.of.keys k.of.answer;
        of = record { keys = k.of.keys; answer = k.of.answer; keys_are = k.of.keys_are; answer_is = k.of.answer_is; is = refl };
        proved = cut_told_stays e.table e.at later n after late h keys answer e.algorithms said l counts told some lasts;
      }

  onward_stays : (asked : Asked) (zone : Name) (ds : List Ds) (o : Onward) (l : Option Validity) → goes o ≡ true → IsOnward e asked zone ds o l → LastsFor n l → IsOnwardProved moved asked zone ds o
  onward_stays asked zone ds o l k (ByQuestion said counts step is) lasts = ByQuestionProved said (own_stays zone ds asked said l counts step (goes_tells zone said o k is) lasts) is
  onward_stays asked zone ds o l k (ByName m said counts below above other step is) lasts =
      let some : tells said ≡ true = at_cut_tells said (goes_tells zone (at_cut said) o k is) in
      ByNameProved m said below above other (name_stays zone ds (ds_at asked m) said l counts step some lasts) is

  tells_stays : (asked : Asked) (said : Said) (zone : Name) (ds : List Ds) (l : Option Validity) → Tells e asked said zone ds l → LastsFor n l → ProvesDown moved asked said zone ds
  tells_stays asked said zone ds l (Ends x) lasts = EndsProved (onward_stays asked zone ds (EndsIn said) l refl x lasts)
  tells_stays asked said zone ds l (Goes {c = c} {below = below} {first = first} {rest = rest} x more is) lasts =
      let both = both_last n first rest (subst (LastsFor n) is lasts) in
      GoesProved (onward_stays asked zone ds (GoesDown c below) first refl x both.0) (tells_stays asked said c below rest more both.1)

  pub follows_stays : (said : Said) (asked : Asked) (ns : List Name) (l : Option Validity) → Follows e said asked ns l → LastsFor n l → ProvesThrough moved said asked ns
  follows_stays said asked ns l (AtOnce w x leads) lasts = AtOnceProved w (tells_stays asked said e.anchor e.ds l x lasts) leads
  follows_stays said asked ns l (Led {n = m} {ns = ms} {first = first} {rest = rest} w x more is) lasts =
      let both = both_last n first rest (subst (LastsFor n) is lasts) in
      LedProved w (tells_stays asked (Leads (To m)) e.anchor e.ds first x both.0) (follows_stays said (renamed asked m) ms rest more both.1)

no_more : (n : ℕ) → n ≤ n
no_more n = omega arith

pub evidence_stays_proved : EvidenceStaysProved
evidence_stays_proved e asked said ns l later octets follows within = follows_stays e later l.seconds within.0 within.1 octets said asked ns (Some l) follows (no_more l.seconds)

-- ---- other evidence of the tree

orderly : (zones : List SignedZone) → ((s : SignedZone) → In s zones → IsOrderlyZone (zone_of s)) → IsOrderlyTree (tree_of zones)
orderly [] f = tt
orderly (s ∷ zones) f = (f s (inl refl), orderly zones (λ x k. f x (inr k)))

pub evidence_agrees : TreesResolveToOne → EvidenceAgrees
evidence_agrees one e f zones anchor asked said other ns ms l m of of_f same follows follows_f =
    let in_order : IsOrderlyTree (tree_of zones) = orderly zones (λ s k. of.in_order s (contained zones s k)) in
    let second = follows_so f asked.class zones anchor of_f other asked refl ms m follows_f in
    one (knows e.algorithms) (tree_of zones) (zone_of anchor) asked.name asked.rtype ns ms said other in_order (of.in_order anchor of.anchor_there)
    (follows_so e asked.class zones anchor of said asked refl ns l follows)
    (subst (λ (a : List ℕ). Resolves (knows a) (tree_of zones) (zone_of anchor) asked.rtype other asked.name ms) same second)
