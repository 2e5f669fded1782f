-- What a simulation of a zone's life answers, event by event.
use Rattle.std.specs.Prelude.{◌≡◌, ℕ, Bool, true, false, List, [], ◌∷◌, ◌++◌, length, map, Option, Some, None, Ok, Err, slice_get}
use Rattle.std.specs.List.{AllByRecursion}
use Rattle.std.specs.declared.result.Result.{Result}
use Rattle.definitions.specs.Dnskey.{Ds}
use Rattle.definitions.specs.Limits.{pointer_limit}
use Rattle.answer_events.specs.declared.event.Event.{Event}
use Rattle.answer_events.specs.declared.event.Act.{Act}
use Rattle.answer_events.specs.declared.event.Act.TheVariants as act
use Rattle.answer_events.specs.Calls.{call_of}
use Rattle.answer_outcomes.specs.declared.outcome.Outcome.{Outcome}
use Rattle.answer_outcomes.specs.declared.outcome.Outcome.TheVariants as outcome
use Rattle.answer_publisher.specs.declared.fault.AnswerFault.{AnswerFault}
use Rattle.answer_publisher.specs.declared.fault.AnswerFault.TheVariants as refusal
use Rattle.answer_publisher.specs.declared.fault.ReplaceFault.{ReplaceFault}
use Rattle.messages.specs.Handed.{IsHanded}
use Rattle.messages.specs.HandedRr.{HandedRr, handed_of}
use Rattle.messages.specs.Message.{Asked}
use Rattle.messages.specs.Questions.{asked_of}
use Rattle.answer_publisher_keys.specs.Bindings.{ZoneKeys, no_keys, cdnskey_set, cds_set, ds_set}
use Rattle.answer_publisher_keys.specs.KeyCalls.{Acts}
use Rattle.answer_publisher.specs.Publishing.{digest_at}
use Rattle.answer_publisher.specs.Replacing.{RefusesReplacement, is_too_soon, noted}
use Rattle.answer_publisher.specs.World.{World, AnswersKeysQuestion, AnswersQuestion, HashesNames, RefusesKeysQuestion, RefusesQuestion, SpellsAnswer, SpellsKeys}
use Rattle.answer_judge.specs.Meeting.{IsJudgement}
use Rattle.messages.specs.WrittenLaws.{IsQuestion}
use Rattle.answer_judge.specs.Judging.{JudgeInput, answer_of, handed, verifications_of, hashes_of}
use Rattle.answer_terms.specs.Accepted.{IsAccepted}
use Rattle.answer_terms.specs.Accepting.{sorted_records}
use Rattle.answer_terms.specs.Asking.{is_allowed}
use Rattle.answer_terms.specs.ZoneView.{AcceptedZone}

-- what was shown
pub data Shown : Type 0 where
  OfParent : List Ds → Shown
  OfKeys : List ℕ → Shown
  OfZone : Asked → List ℕ → Shown

-- the keys and the zone's records now, in order, the greatest whole second at which an answer was given, and the things shown
-- so far
pub record Sofar : Type 0 where
  pub keys : ZoneKeys
  pub records : List HandedRr
  pub latest : Option ℕ
  pub shown : List Shown

abbrev pub begin : AcceptedZone → Sofar
begin z = record { keys = no_keys z.apex; records = z.records; latest = None; shown = [] }

-- the same world, with other records of its zone, in order
abbrev pub with_records : World → List HandedRr → World
with_records w sorted = record w { zone = record w.zone { records = sorted } }

-- with those that the zone has now
abbrev pub now_in : World → Sofar → World
now_in w s = with_records w s.records

-- what a judgement is handed; the signatures of an answer must be of one moment
abbrev pub judge_input : World → List Ds → List ℕ → List ℕ → Asked → ℕ → JudgeInput
judge_input w ds keys answer asked at = handed w.zone.apex ds keys answer asked at w.zone.limit true

-- a judgement of these things, or no such things
abbrev pub JudgesThings : World → ℕ → Option Shown → Option Shown → Option Shown → Outcome → Type 0
JudgesThings w at (Some (OfParent ds)) (Some (OfKeys keys)) (Some (OfZone asked answer)) (outcome.Judged j) = IsJudgement pointer_limit w.answers (judge_input w ds keys answer asked at) (answer_of j) (verifications_of j) (hashes_of j)
JudgesThings w at (Some (OfParent ds)) (Some (OfKeys keys)) (Some (OfZone asked answer)) _ = ⊥
JudgesThings w at _ _ _ o = o ≡ outcome.BadPlace

abbrev pub JudgesBytes : World → ℕ → Option Shown → List ℕ → List ℕ → Asked → Outcome → Type 0
JudgesBytes w at (Some (OfParent ds)) keys answer asked (outcome.Judged j) = IsJudgement pointer_limit w.answers (judge_input w ds keys answer asked at) (answer_of j) (verifications_of j) (hashes_of j)
JudgesBytes w at (Some (OfParent ds)) keys answer asked _ = ⊥
JudgesBytes w at _ keys answer asked o = o ≡ outcome.BadPlace

-- the DNSKEY answer of these keys at a moment, whose bytes spell the keys and their signatures
abbrev pub ShowsKeys : World → ZoneKeys → ℕ → List ℕ → Type 0
ShowsKeys w keys at bytes = AnswersKeysQuestion w keys at bytes × SpellsKeys w keys at bytes

-- the zone's answer to a question at a moment, signed by these keys, whose bytes spell its RRsets and their signatures; each name
-- that its proof speaks of has a hash
abbrev pub ShowsAnswer : World → ZoneKeys → ℕ → Asked → List ℕ → Type 0
ShowsAnswer w keys at asked bytes = AnswersQuestion w keys at asked bytes × SpellsAnswer w keys at asked bytes × HashesNames w asked

-- a question that isn't allowed is refused so, and no other
abbrev pub RefusesAsked : Bool → AnswerFault → Type 0
RefusesAsked allowed refusal.QuestionNotAllowed = allowed ≡ false
RefusesAsked allowed _ = allowed ≡ true

-- Other records in the place of the zone's: accepted, of the same apex, chain and limit as they are, or refused, and then nothing
-- changes.
abbrev pub Replaces : World → Sofar → ℕ → List HandedRr → Result (Unit {0}) ReplaceFault → Sofar → Type 0
Replaces w s at rs (Ok u) t =
    (is_too_soon s.latest at ≡ false)
    × AllByRecursion IsHanded rs
    × IsAccepted w.answers.hash w.zone.apex w.zone.mode w.zone.limit rs
    × (t ≡ record s { records = sorted_records rs })
Replaces w s at rs (Err e) t = RefusesReplacement w.answers.hash w.zone s.latest at rs e × (t ≡ s)

-- One event, its outcome, and what there is after it: a key call gives what the table says; a replacement changes the zone's
-- records alone; a thing that is shown takes the next place, but for what the parent is asked for, which isn't judged; a
-- judgement is of what stands at its places. What is refused takes no place.
abbrev pub StepOf : World → Sofar → ℕ → Act → Outcome → Sofar → Type 0
StepOf w s at (act.Key c) (outcome.Key r) t =
    Acts (digest_at w.answers.digest w.zone.apex) (call_of c) at s.keys t.keys r × (t ≡ record s { keys = t.keys })
StepOf w s at (act.Replace records) (outcome.Replaced r) t = Replaces w s at (map handed_of records.items) r t
StepOf w s at act.ShowDs (outcome.Ds place set) t =
    (place ≡ length s.shown) × (set.items ≡ ds_set s.keys) × (t ≡ record s { shown = s.shown ++ OfParent set.items ∷ [] })
StepOf w s at act.ShowCds (outcome.Cds set) t = (set.items ≡ cds_set s.keys) × (t ≡ s)
StepOf w s at act.ShowCdnskey (outcome.Cdnskey set) t = (set.items ≡ cdnskey_set s.keys) × (t ≡ s)
StepOf w s at act.ShowDnskey (outcome.Message place octets) t =
    (place ≡ length s.shown) × ShowsKeys (now_in w s) s.keys at octets.items × (t ≡ record s { shown = s.shown ++ OfKeys octets.items ∷ [] })
StepOf w s at act.ShowDnskey (outcome.Refused e) t = RefusesKeysQuestion (now_in w s) s.keys at e × (t ≡ s)
StepOf w s at (act.Ask q) (outcome.Message place octets) t =
    (place ≡ length s.shown)
    × (is_allowed w.zone.apex (asked_of q) ≡ true)
    × IsQuestion (asked_of q)
    × ShowsAnswer (now_in w s) s.keys at (asked_of q) octets.items
    × (t ≡ record s { latest = noted s.latest at; shown = s.shown ++ OfZone (asked_of q) octets.items ∷ [] })
StepOf w s at (act.Ask q) (outcome.Refused e) t =
    RefusesAsked (is_allowed w.zone.apex (asked_of q)) e
    × RefusesQuestion (now_in w s) s.keys at (asked_of q) e
    × (t ≡ s)
StepOf w s at (act.Judge ds keys answer) o t = JudgesThings w at (slice_get s.shown ds) (slice_get s.shown keys) (slice_get s.shown answer) o × (t ≡ s)
StepOf w s at (act.JudgeBytes ds keys answer q) o t = JudgesBytes w at (slice_get s.shown ds) keys.items answer.items (asked_of q) o × IsQuestion (asked_of q) × (t ≡ s)
StepOf w s at _ _ t = ⊥

-- one outcome an event, up to what there is in the end
abbrev pub Simulates : World → Sofar → List Event → List Outcome → Sofar → Type 0
Simulates w s [] [] u = u ≡ s
Simulates w s (e ∷ es) (o ∷ os) u = (t : Sofar) × StepOf w s e.at e.act o t × Simulates w t es os u
Simulates w s [] (o ∷ os) u = ⊥
Simulates w s (e ∷ es) [] u = ⊥
