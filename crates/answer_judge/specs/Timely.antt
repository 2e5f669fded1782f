-- A judge refuses where no signature of a message holds at the moment.
use Rattle.std.specs.Prelude.{◌≡◌, ℕ, Bool, false, ◌&&◌, List, [], Some, None, Ok, Err}
use Rattle.std.specs.List.{list_any}
use Rattle.definitions.specs.Signing.{in_time}
use Rattle.messages.specs.Message.{Spelled, message, rrsig_at}
use Rattle.answer_scheme.specs.Answers.{Answers}
use Rattle.answer_judge_facts.specs.Trusted.{is_signature}
use Rattle.answer_judge.specs.Judging.{Answer, Says, Refuses, JudgeInput}
use Rattle.answer_judge.specs.Judged.{AnswersAs, judged}

-- a signature that holds at a moment
abbrev pub holds_now : ℕ → ℕ → List ℕ → Spelled → Bool
holds_now k now m r = is_signature r && elim (rrsig_at k m r) [ None ↦ false | Some f ↦ in_time f.0 now ]

-- a message that reads has one
abbrev pub has_timely : ℕ → ℕ → List ℕ → Bool
has_timely k now m = elim (message k m) [ Err e ↦ false | Ok read ↦ list_any (holds_now k now m) read.records ]

-- a refusal
abbrev pub IsRefused : Answer → Type 0
IsRefused (Says v) = ⊥
IsRefused (Refuses e) = Unit {0}

-- beside a DS set that isn't empty a judge refuses where no signature of the one message holds, or none of the other
abbrev pub RefusesUntimely : ℕ → JudgeInput → Answer → Type 0
RefusesUntimely k h answer =
    (h.ds ≡ [] → ⊥) → (has_timely k h.now h.dnskey_bytes && has_timely k h.now h.answer_bytes) ≡ false → IsRefused answer

abbrev pub UntimelyIsRefused : Type 0
UntimelyIsRefused = (a : Answers) (k : ℕ) (h : JudgeInput) (answer : Answer) → AnswersAs answer (judged a k h) → RefusesUntimely k h answer
