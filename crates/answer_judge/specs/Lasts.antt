-- How long a verdict lasts, from its two messages.
use Rattle.std.specs.Prelude.{◌≡◌, ℕ, ◌+◌, ◌/◌, ◌≤◌, ◌++◌, filter, length, Option, Some, None, Result, Ok, Err, nat_eq, if◌then◌else◌}
use Rattle.messages.specs.Message.{AreOctets, Message, message}
use Rattle.answer_scheme.specs.Answers.{Answers}
use Rattle.answer_scheme.specs.Moments.{second_of}
use Rattle.answer_judge_facts.specs.Trusted.{is_trusted, is_usable}
use Rattle.answer_judge.specs.Judging.{JudgeInput}
use Rattle.answer_judge.specs.declared.verdict.Judgement.{Judgement}
use Rattle.answer_judge_facts.specs.declared.validity.Validity.{Validity}
use Rattle.answer_judge.specs.declared.verdict.Refused.{Refused}
use Rattle.answer_judge.specs.Judged.{judged, keys_of, trusting}
use Rattle.answer_judge_facts.specs.Validity.{least_or_max, answer_ttls, key_seconds, answer_seconds}

-- what is verified of an answer, and of the keys that may sign it
abbrev pub validity_in_messages : Answers → ℕ → JudgeInput → Message → Message → Validity
validity_in_messages a k h keys answer =
    let ks = keys_of h keys in
    let usable = trusting a h (filter is_usable ks) in
    record {
      ttl = least_or_max (answer_ttls usable k h.answer_bytes answer.records h.asked.name h.asked.rtype);
      seconds = least_or_max (key_seconds (trusting a h (filter (is_trusted a h.apex h.ds) ks)) k h.dnskey_bytes keys.records ks
          ++ answer_seconds usable k h.answer_bytes answer.records h.asked.name h.asked.rtype);
    }

abbrev pub validity_in_bytes : Answers → ℕ → JudgeInput → Option Validity
validity_in_bytes a k h = elim (message k h.dnskey_bytes) [
  | Err e ↦ None
  | Ok keys ↦ elim (message k h.answer_bytes) [ Err e ↦ None | Ok answer ↦ Some (validity_in_messages a k h keys answer) ]
]

-- beside an empty DS set nothing is verified, so nothing says how long that lasts
abbrev pub validity_of_input : Answers → ℕ → JudgeInput → Option Validity
validity_of_input a k h = if nat_eq (length h.ds) 0 then None else validity_in_bytes a k h

-- what is said of a judgement
abbrev pub LastsSo : ℕ → Answers → JudgeInput → Result Judgement Refused → Type 0
LastsSo k a h (Ok j) = j.validity ≡ validity_of_input a k h
LastsSo k a h (Err e) = Unit {0}

-- what is handed in, at a moment in nanoseconds
abbrev pub at_moment : ℕ → JudgeInput → JudgeInput
at_moment at h = record h { now = second_of at }

-- At each moment from a judgement's up to the last second of its lasting, the same octets are judged alike, under the same answers
-- of a scheme.
abbrev pub VerdictsLast : Type 0
VerdictsLast =
    (a : Answers) (k : ℕ) (h : JudgeInput) (at later : ℕ) (l : Validity) → AreOctets h.dnskey_bytes → AreOctets h.answer_bytes
    → validity_of_input a k (at_moment at h) ≡ Some l → at ≤ later → later / 1000000000 ≤ at / 1000000000 + l.seconds
    → judged a k (at_moment later h) ≡ judged a k (at_moment at h)
