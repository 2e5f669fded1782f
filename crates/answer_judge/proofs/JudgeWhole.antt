-- What a judge says, from what it read and verified.
use Rattle.std.proofs.Common.{◌≡◌, ℕ, Bool, true, false, not, ◌&&◌, List, filter, length, inr, sym, ap, subst, ◌∙◌}
use Rattle.std.specs.Prelude.{Option, Some, None, Ok, Err, nat_eq, if◌then◌else◌}
use Rattle.std.specs.Option.{option_map, ok_or}
use Rattle.definitions.specs.Dnskey.{Dnskey}
use Rattle.definitions.specs.Limits.{pointer_limit}
use Rattle.answer_scheme.specs.Answers.{Answers}
use Rattle.answer_judge.specs.Stages.{are_signed}
use Rattle.answer_judge_facts.specs.Trusted.{is_usable}
use Rattle.denial_laws.specs.Facts.{Facts}
use Rattle.answer_judge_rules.specs.declared.verdict.Verdict.{Verdict as CodeVerdict}
use Rattle.answer_judge.specs.declared.verdict.Refusal.{Refusal}
use Rattle.answer_judge.specs.declared.verdict.Refusal.TheVariants as r
use Rattle.answer_judge.specs.Judging.{Answer, Refuses, RefusesFirst, JudgeInput, first_refusal, is_judged, may_ask, message_refusal, same_question, AnswersFirst}
use Rattle.answer_judge_facts.specs.DnskeyAnswer.{keys_in}
use Rattle.answer_terms.specs.EqualTags.{has_equal_tags}
use Rattle.answer_judge_rules.specs.Rules.{verdict_of}
use Rattle.messages.specs.Message.{Asked, Message, Spelled, message}
use Rattle.answer_judge_facts.specs.Verified.{verified_facts}
use Rattle.answer_judge_facts.specs.Times.{are_unlike, proof_times}
use Rattle.answer_judge.specs.Judged.{trusting, keys_of, ds_authenticates_keys, by_facts, judged_answer, judged_proof, judged_messages, judged_bytes, judged_beyond, said, AnswersAs}

-- both messages were read, and they bring no refusal
pub beyond : (a : Answers) (k : ℕ) (h : JudgeInput) (keys answer : Message) → message k h.dnskey_bytes ≡ Ok keys → message k h.answer_bytes ≡ Ok answer → message_refusal k h ≡ None → judged_beyond a k h ≡ judged_messages a k h keys answer
beyond a k h keys answer d z none =
    (λ i. elim (none i) as (λ _. Answer) [ Some e ↦ Refuses e | None ↦ judged_bytes a k h ])
    ∙ (λ i. elim (d i) as (λ _. Answer) [
      | Err e ↦ Refuses r.BadDnskeyMessage
      | Ok keys ↦ elim (z i) as (λ _. Answer) [ Err e ↦ Refuses r.BadAnswerMessage | Ok answer ↦ judged_messages a k h keys answer ]
    ])

-- the keys' question, as it is asked of a zone
abbrev asked_for_keys : JudgeInput → Asked
asked_for_keys h = record { name = h.apex; rtype = 48; class = 1 }

-- what the messages bring once both are read
abbrev brought : Bool → Bool → Bool → Option Refusal
brought p q t = if not (p && q) then Some r.QuestionMismatch else if t then Some r.EqualTags else None

-- both messages are read, ask what they should, and no keys have one tag: they bring no refusal
unrefused : (k : ℕ) (h : JudgeInput) (keys answer : Message) → message k h.dnskey_bytes ≡ Ok keys → message k h.answer_bytes ≡ Ok answer
    → same_question keys.asked (asked_for_keys h) ≡ true → may_ask h answer.asked ≡ true
    → has_equal_tags (keys_in h.dnskey_bytes h.apex keys.records) ≡ false → message_refusal k h ≡ None
unrefused k h keys answer d z p q t =
    (λ i. elim (d i) as (λ _. Option Refusal) [
      | Err e ↦ Some r.BadDnskeyMessage
      | Ok keys ↦ elim (z i) as (λ _. Option Refusal) [
        | Err e ↦ Some r.BadAnswerMessage
        | Ok answer ↦ brought (same_question keys.asked (asked_for_keys h)) (may_ask h answer.asked) (has_equal_tags (keys_in h.dnskey_bytes h.apex keys.records))
      ]
    ])
    ∙ (λ i. brought (p i) (q i) (t i))

-- both messages were read, the records of the one and the keys in them, and nothing stands in the messages that is refused
pub record BothRead (h : JudgeInput) (keys answer : Message) (rs : List Spelled) (ks : List Dnskey) : Type 0 where
  pub dnskey : message pointer_limit h.dnskey_bytes ≡ Ok keys
  pub zone : message pointer_limit h.answer_bytes ≡ Ok answer
  pub records_are : rs ≡ keys.records
  pub keys_are : ks ≡ keys_in h.dnskey_bytes h.apex rs
  pub none : message_refusal pointer_limit h ≡ None

pub both_read : (h : JudgeInput) (keys answer : Message) (rs : List Spelled) (ks : List Dnskey) → message pointer_limit h.dnskey_bytes ≡ Ok keys → message pointer_limit h.answer_bytes ≡ Ok answer → same_question keys.asked (asked_for_keys h) ≡ true → may_ask h answer.asked ≡ true
    → rs ≡ keys.records → ks ≡ keys_in h.dnskey_bytes h.apex rs → has_equal_tags ks ≡ false → BothRead h keys answer rs ks
both_read h keys answer rs ks d z p q e f unlike = record {
  dnskey = d;
  zone = z;
  records_are = e;
  keys_are = f;
  none = unrefused pointer_limit h keys answer d z p q (ap has_equal_tags (sym (f ∙ ap (keys_in h.dnskey_bytes h.apex) e)) ∙ unlike);
}

-- what was found out of the keys, said of the message
pub chained_as : (a : Answers) (h : JudgeInput) (keys : Message) (rs : List Spelled) (ks : List Dnskey) → rs ≡ keys.records → ks ≡ keys_in h.dnskey_bytes h.apex rs → are_signed a pointer_limit h rs ks ≡ ds_authenticates_keys a pointer_limit h keys
chained_as a h keys rs ks e f = λ i. are_signed a pointer_limit h (e i) ((f ∙ ap (keys_in h.dnskey_bytes h.apex) e) i)

-- the keys that may sign the zone
pub usable_as : (h : JudgeInput) (keys : Message) (rs : List Spelled) (ks usable : List Dnskey) → rs ≡ keys.records → ks ≡ keys_in h.dnskey_bytes h.apex rs → usable ≡ filter is_usable ks → usable ≡ filter is_usable (keys_of h keys)
usable_as h keys rs ks usable e f g = g ∙ ap (filter is_usable) f ∙ ap (λ ss. filter is_usable (keys_in h.dnskey_bytes h.apex ss)) e

-- the keys aren't signed
pub untrusted : (a : Answers) (h : JudgeInput) (keys answer : Message) → judged_beyond a pointer_limit h ≡ judged_messages a pointer_limit h keys answer → false ≡ ds_authenticates_keys a pointer_limit h keys → AnswersAs (Refuses r.NoTrustedKey) (judged_beyond a pointer_limit h)
untrusted a h keys answer e chained =
    inr (sym (e ∙ ap (λ b. elim b as (λ _. Answer) [ true ↦ judged_answer a pointer_limit h (filter is_usable (keys_of h keys)) answer | false ↦ Refuses r.NoTrustedKey ]) (sym chained)))

-- they are, and what was verified of the answer decides
pub decided_as : (a : Answers) (h : JudgeInput) (keys answer : Message) (usable : List Dnskey) (rs : List Spelled) (facts : Facts) (unlike_times : Bool) → judged_beyond a pointer_limit h ≡ judged_messages a pointer_limit h keys answer → true ≡ ds_authenticates_keys a pointer_limit h keys
    → usable ≡ filter is_usable (keys_of h keys) → rs ≡ answer.records → facts ≡ verified_facts (trusting a h usable) pointer_limit h.answer_bytes rs h.asked.name h.asked.rtype
    → unlike_times ≡ are_unlike (proof_times (trusting a h usable) pointer_limit h.answer_bytes rs h.asked.name h.asked.rtype) → judged_proof a h facts unlike_times ≡ judged_beyond a pointer_limit h
decided_as a h keys answer usable rs facts unlike_times e chained u s f t =
    (λ i. judged_proof a h (f i) (t i))
    ∙ (λ i. judged_proof a h (verified_facts (trusting a h (u i)) pointer_limit h.answer_bytes (s i) h.asked.name h.asked.rtype) (are_unlike (proof_times (trusting a h (u i)) pointer_limit h.answer_bytes (s i) h.asked.name h.asked.rtype)))
    ∙ ap (λ b. elim b as (λ _. Answer) [ true ↦ judged_answer a pointer_limit h (filter is_usable (keys_of h keys)) answer | false ↦ Refuses r.NoTrustedKey ]) chained
    ∙ sym e

-- a verdict, or none
pub answered : (o : Option CodeVerdict) (e : Answer) → by_facts (option_map verdict_of o) ≡ e → AnswersAs (said (ok_or o r.NotProven)) e
answered None e h = inr h
answered (Some v) e h = inr h

-- ---- first refusals

-- beside a question that is judged and a DS set that isn't empty
first_kept : (e : Refusal) (m : Option Refusal) → RefusesFirst e m → AnswersFirst (Refuses e) m
first_kept r.QuestionNotAllowed m h = h
first_kept r.BadDnskeyMessage m h = h
first_kept r.BadAnswerMessage m h = h
first_kept r.QuestionMismatch m h = h
first_kept r.EqualTags m h = h
first_kept r.NoTrustedKey m h = h
first_kept r.MixedNsec3Parameters m h = h
first_kept r.IterationsOverLimit m h = h
first_kept r.HashFailed m h = h
first_kept r.NotProven m h = h
first_kept r.Memory m h = h
first_kept r.MixedVersions m h = h

pub refuses_first : (k : ℕ) (h : JudgeInput) (e : Refusal) → is_judged h ≡ true → nat_eq (length h.ds) 0 ≡ false → RefusesFirst e (message_refusal k h) → AnswersFirst (Refuses e) (first_refusal k h)
refuses_first k h e allowed some first =
    let is : first_refusal k h ≡ message_refusal k h = (λ i. if not (allowed i) then Some r.QuestionNotAllowed else if some i then None else message_refusal k h) in
    subst (AnswersFirst (Refuses e)) (sym is) (first_kept e (message_refusal k h) first)
