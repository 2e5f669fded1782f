-- How many signatures a judge verifies, and how many names it hashes, memory aside (RFC 4035, 5.3).
use Rattle.std.specs.Prelude.{◌≡◌, ◌⊎◌, ℕ, ◌+◌, Bool, true, false, ◌&&◌, ◌||◌, List, [], filter, length, Some, None, Ok, Err, nat_eq, if◌then◌else◌}
use Rattle.definitions.specs.Dnskey.{Dnskey}
use Rattle.messages.specs.Message.{Message, message}
use Rattle.answer_scheme.specs.Answers.{Answers}
use Rattle.answer_judge_facts.specs.Trusted.{is_trusted, is_usable}
use Rattle.denial_laws.specs.Facts.{Facts}
use Rattle.answer_judge_rules.specs.Hashes.{hashed_for}
use Rattle.answer_judge.specs.Judged.{are_mixed, has_unlike_times, are_over, facts_in, ds_authenticates_keys, keys_of, trusting}
use Rattle.answer_judge.specs.Judging.{Answer, JudgeInput, Refuses, first_refusal, message_refusal}
use Rattle.answer_judge.specs.declared.verdict.Refusal.TheVariants as r
use Rattle.answer_judge_facts.specs.Sought.{answer_sought, keys_sought}
use Rattle.answer_judge_facts.specs.Counted.{tries}

-- those of the DNSKEY answer, under the keys that DS records name
abbrev pub key_tries : Answers → ℕ → JudgeInput → Message → ℕ
key_tries a k h keys =
    let ks = keys_of h keys in
    tries (trusting a h (filter (is_trusted a h.apex h.ds) ks)) k h.dnskey_bytes (keys_sought h.apex ks) [] keys.records

-- those of the zone answer, under the usable keys
abbrev pub answer_tries : Answers → ℕ → JudgeInput → Message → Message → ℕ
answer_tries a k h keys answer =
    tries (trusting a h (filter is_usable (keys_of h keys))) k h.answer_bytes
    (answer_sought k h.answer_bytes h.apex answer.records h.asked.name h.asked.rtype) [] answer.records

-- the zone answer is looked at only where the keys are verified
abbrev pub tries_in_messages : Answers → ℕ → JudgeInput → Message → Message → ℕ
tries_in_messages a k h keys answer =
    key_tries a k h keys + elim (ds_authenticates_keys a k h keys) [ true ↦ answer_tries a k h keys answer | false ↦ 0 ]

abbrev pub tries_in_bytes : Answers → ℕ → JudgeInput → ℕ
tries_in_bytes a k h = elim (message k h.dnskey_bytes) [
  | Err e ↦ 0
  | Ok keys ↦ elim (message k h.answer_bytes) [ Err e ↦ 0 | Ok answer ↦ tries_in_messages a k h keys answer ]
]

-- beside a DS set that isn't empty
abbrev pub tries_beyond : Answers → ℕ → JudgeInput → ℕ
tries_beyond a k h = elim (message_refusal k h) [ Some e ↦ 0 | None ↦ tries_in_bytes a k h ]

-- the signatures that a judgement verifies, memory aside
abbrev pub verifications_due : Answers → ℕ → JudgeInput → ℕ
verifications_due a k h = elim (first_refusal k h) [
  | Some e ↦ 0
  | None ↦ if nat_eq (length h.ds) 0 then 0 else tries_in_bytes a k h
]

-- ---- names that are hashed: until one fails, beside signatures of one moment, links of one kind and within the limit

abbrev pub hashes_of_facts : Answers → JudgeInput → Facts → ℕ
hashes_of_facts a h f = if are_mixed f.hash_links || are_over h.limit f.hash_links then 0 else length (hashed_for a.hash h.apex f h.asked.name)

abbrev pub hashes_of_proof : Answers → JudgeInput → Facts → Bool → ℕ
hashes_of_proof a h f unlike_times = if h.one_moment && unlike_times then 0 else hashes_of_facts a h f

abbrev pub hashes_of_answer : Answers → ℕ → JudgeInput → List Dnskey → Message → ℕ
hashes_of_answer a k h usable answer = hashes_of_proof a h (facts_in a k h usable answer) (has_unlike_times a k h usable answer)

abbrev pub hashes_in_messages : Answers → ℕ → JudgeInput → Message → Message → ℕ
hashes_in_messages a k h keys answer = elim (ds_authenticates_keys a k h keys) [
  | true ↦ hashes_of_answer a k h (filter is_usable (keys_of h keys)) answer
  | false ↦ 0
]

abbrev pub hashes_in_bytes : Answers → ℕ → JudgeInput → ℕ
hashes_in_bytes a k h = elim (message k h.dnskey_bytes) [
  | Err e ↦ 0
  | Ok keys ↦ elim (message k h.answer_bytes) [ Err e ↦ 0 | Ok answer ↦ hashes_in_messages a k h keys answer ]
]

abbrev pub hashes_beyond : Answers → ℕ → JudgeInput → ℕ
hashes_beyond a k h = elim (message_refusal k h) [ Some e ↦ 0 | None ↦ hashes_in_bytes a k h ]

-- the names that a judgement hashes, memory aside
abbrev pub hashes_due : Answers → ℕ → JudgeInput → ℕ
hashes_due a k h = elim (first_refusal k h) [
  | Some e ↦ 0
  | None ↦ if nat_eq (length h.ds) 0 then 0 else hashes_in_bytes a k h
]

-- this is the count, or memory ran out
abbrev pub Counts : Answer → ℕ → ℕ → Type 0
Counts answer count due = (answer ≡ Refuses r.Memory) ⊎ (count ≡ due)
