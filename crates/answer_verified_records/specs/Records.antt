-- Which records of an answer are verified (RFC 4035, 5.3).
use Rattle.std.specs.Prelude.{◌≡◌, ℕ, suc, Bool, not, ◌&&◌, ◌||◌, ◌==◌, List, [], ◌∷◌, filter, length, Option, Some, None, Result, Ok, Err, is_some, nat_eq, if◌then◌else◌}
use Rattle.definitions.specs.Dnskey.{Dnskey}
use Rattle.definitions.specs.Name.{Name}
use Rattle.definitions.specs.Zone.{Verdict}
use Rattle.messages.specs.Message.{Message, Spelled, canonical_data, message}
use Rattle.messages.specs.declared.error.MessageError.{MessageError}
use Rattle.answer_scheme.specs.Answers.{Answers}
use Rattle.answer_judge.specs.Judging.{JudgeInput, Says, is_judged, message_refusal}
use Rattle.answer_judge_keys.specs.Trusted.{is_usable}
use Rattle.answer_judge.specs.Stages.{are_signed}
use Rattle.answer_judge.specs.Judged.{judged, keys_of, trusting}
use Rattle.answer_judge_facts.specs.Sought.{answer_sought}
use Rattle.answer_judge_facts.specs.Verified.{Trusting, is_verified, rrset_in}

-- the numbers of the items that pass a test, counted from a number on
abbrev pub numbers_from : {X : Type 0} → (X → Bool) → ℕ → List X → List ℕ
numbers_from passes n [] = []
numbers_from passes n (x ∷ xs) = if passes x then n ∷ numbers_from passes (suc n) xs else numbers_from passes (suc n) xs

-- ---- under some keys

-- A record of class IN whose data read, of an RRset that is sought for a question and that a signature verifies: of the RRset that
-- was asked for, or of an NSEC or NSEC3 RRset of one record.
abbrev pub is_verified_record : Trusting → ℕ → List ℕ → List Spelled → Name → ℕ → Spelled → Bool
is_verified_record w k m rs q t r =
    (r.class == 1) && is_some (canonical_data k m r)
    && ((answer_sought k m w.apex rs q t).is r.owner r.rtype && is_verified w k m rs r.owner r.rtype (rrset_in k m rs r.owner r.rtype))

-- their numbers, counted from 0 over the records of all sections
abbrev pub verified_in_answer : Trusting → ℕ → List ℕ → List Spelled → Name → ℕ → List ℕ
verified_in_answer w k m rs q t = numbers_from (is_verified_record w k m rs q t) 0 rs

-- ---- of what is handed to a judge

-- what two messages spell
abbrev pub both_spelled : Result Message MessageError → Result Message MessageError → Option (Message × Message)
both_spelled keys answer = elim keys [ Err e ↦ None | Ok keys ↦ elim answer [ Err e ↦ None | Ok answer ↦ Some (keys, answer) ] ]

-- where the messages bring no refusal
abbrev pub unrefused : ℕ → JudgeInput → Option (Message × Message)
unrefused k h = elim (message_refusal k h) [ Some e ↦ None | None ↦ both_spelled (message k h.dnskey_bytes) (message k h.answer_bytes) ]

-- and beside them stand a question that is judged and a DS set that isn't empty: so no first refusal stands in what is handed in
abbrev pub messages_in : ℕ → JudgeInput → Option (Message × Message)
messages_in k h = if not (is_judged h) || nat_eq (length h.ds) 0 then None else unrefused k h

-- The keys that may sign the zone: the usable ones of the keys in some records, where one that a DS record names signs all of
-- them (RFC 4035, 5.2).
abbrev pub signing_keys : Answers → ℕ → JudgeInput → List Spelled → List Dnskey → Option (List Dnskey)
signing_keys a k h rs keys = if are_signed a k h rs keys then Some (filter is_usable keys) else None

-- the numbers of the answer's records that these verify
abbrev pub verified_in_messages : Answers → ℕ → JudgeInput → Message → Message → List ℕ
verified_in_messages a k h keys answer = elim (signing_keys a k h keys.records (keys_of h keys)) [
  | None ↦ []
  | Some usable ↦ verified_in_answer (trusting a h usable) k h.answer_bytes answer.records h.asked.name h.asked.rtype
]

-- the numbers of the verified records of an answer
abbrev pub verified_records : Answers → ℕ → JudgeInput → List ℕ
verified_records a k h = elim (messages_in k h) [ None ↦ [] | Some messages ↦ verified_in_messages a k h messages.0 messages.1 ]

-- ---- beside a verdict

-- a judge says some verdict
pub record SaysVerdict (a : Answers) (k : ℕ) (h : JudgeInput) : Type 0 where
  pub verdict : Verdict
  pub says : judged a k h ≡ Says verdict
