-- Which signatures a judge verifies, memory aside (RFC 4035, 5.2 and 5.3).
use Rattle.std.specs.Prelude.{ℕ, false, ◌&&◌, ◌||◌, [], filter, length, Some, None, Ok, Err, nat_eq, if◌then◌else◌}
use Rattle.messages.specs.Message.{Message, message}
use Rattle.answer_scheme.specs.Answers.{Answers, SignatureTest}
use Rattle.answer_judge_facts.specs.Trusted.{is_trusted, is_usable}
use Rattle.answer_judge.specs.Judged.{ds_authenticates_keys, keys_of, trusting}
use Rattle.answer_judge.specs.Judging.{JudgeInput, first_refusal, message_refusal}
use Rattle.answer_judge_facts.specs.Sought.{answer_sought, keys_sought}
use Rattle.answer_judge_facts.specs.Asked.{is_tried_among}

-- of the DNSKEY answer, under the keys that DS records name
abbrev pub is_tried_of_keys : Answers → ℕ → JudgeInput → Message → SignatureTest
is_tried_of_keys a k h keys =
    let ks = keys_of h keys in
    is_tried_among (trusting a h (filter (is_trusted a h.apex h.ds) ks)) k h.dnskey_bytes (keys_sought h.apex ks) [] keys.records

-- of the zone answer, under the usable keys
abbrev pub is_tried_of_answer : Answers → ℕ → JudgeInput → Message → Message → SignatureTest
is_tried_of_answer a k h keys answer =
    is_tried_among (trusting a h (filter is_usable (keys_of h keys))) k h.answer_bytes
    (answer_sought k h.answer_bytes h.apex answer.records h.asked.name h.asked.rtype) [] answer.records

-- the zone answer is looked at only where the keys are verified
abbrev pub is_tried_in_messages : Answers → ℕ → JudgeInput → Message → Message → SignatureTest
is_tried_in_messages a k h keys answer key octets signature =
    is_tried_of_keys a k h keys key octets signature || (ds_authenticates_keys a k h keys && is_tried_of_answer a k h keys answer key octets signature)

abbrev pub is_tried_in_bytes : Answers → ℕ → JudgeInput → SignatureTest
is_tried_in_bytes a k h key octets signature = elim (message k h.dnskey_bytes) [
  | Err e ↦ false
  | Ok keys ↦ elim (message k h.answer_bytes) [ Err e ↦ false | Ok answer ↦ is_tried_in_messages a k h keys answer key octets signature ]
]

-- beside a DS set that isn't empty
abbrev pub is_tried_beyond : Answers → ℕ → JudgeInput → SignatureTest
is_tried_beyond a k h key octets signature = elim (message_refusal k h) [ Some e ↦ false | None ↦ is_tried_in_bytes a k h key octets signature ]

-- A signature that a judgement verifies, memory aside: of those that `verifications_due` counts.
abbrev pub is_tried_signature : Answers → ℕ → JudgeInput → SignatureTest
is_tried_signature a k h key octets signature = elim (first_refusal k h) [
  | Some e ↦ false
  | None ↦ if nat_eq (length h.ds) 0 then false else is_tried_in_bytes a k h key octets signature
]
