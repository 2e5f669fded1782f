-- What was read of both messages, and what they bring.
use Rattle.std.proofs.Common.{◌≡◌, ℕ, Bool, true, false, not, ◌&&◌, ◌||◌, ◌==◌, List, filter, length, refl, sym, ap, ◌∙◌}
use Rattle.std.specs.Prelude.{Option, Some, None, Result, Ok, Err, nat_eq, if◌then◌else◌}
use Rattle.std.specs.Result.{result_ok}
use Rattle.std.proofs.lemmas.Bool.{or_parts}
use Rattle.messages.specs.Message.{Message, message}
use Rattle.messages.specs.declared.error.MessageError.{MessageError}
use Rattle.answer_terms.specs.EqualTags.{has_equal_tags}
use Rattle.answer_judge.specs.Judging.{JudgeInput, is_judged, may_ask, same_question, signatures_in}
use Rattle.answer_judge_keys.specs.DnskeyAnswer.{keys_in}
use Rattle.answer_judge_keys.specs.Trusted.{is_signature}
use Rattle.answer_judge.specs.declared.verdict.Refusal.{Refusal}
use Rattle.answer_judge.specs.declared.verdict.Refusal.TheVariants as r
use Rattle.answer_judge_facts.specs.Marked.{is_chain_type}
use Rattle.answer_judge.proofs.JudgedTypes.{judged_type}
use Rattle.answer_verified_records.specs.Records.{both_spelled, messages_in, unrefused}

pub ok_from : (read : Result Message MessageError) (v : Message) → Some v ≡ result_ok read → read ≡ Ok v
ok_from (Ok w) v e = ap (λ (x : Message). let o : Result Message MessageError = Ok x in o) (some_is v w e)
  where
    some_is : (v w : Message) → Some v ≡ Some w → w ≡ v
    some_is v w e = cc
ok_from (Err f) v e = absurd (some_none v e)
  where
    some_none : (v : Message) → Some v ≡ None → ⊥
    some_none v e = cc

module _ (k : ℕ) (h : JudgeInput) where
  abbrev keys_asked : Message → Bool
  keys_asked keys = same_question keys.asked (record { name = h.apex; rtype = 48; class = 1 })

  abbrev brought : Bool → Bool → Option Refusal
  brought asked equal = if not asked then Some r.QuestionMismatch else if equal then Some r.EqualTags else None

  abbrev refusal_by : Result Message MessageError → Result Message MessageError → Option Refusal
  refusal_by keys answer = elim keys as (λ _. Option Refusal) [
    | Err e ↦ Some r.BadDnskeyMessage
    | Ok keys ↦ elim answer as (λ _. Option Refusal) [
      | Err e ↦ Some r.BadAnswerMessage
      | Ok answer ↦ brought (keys_asked keys && may_ask h answer.asked) (has_equal_tags (keys_in h.dnskey_bytes h.apex keys.records))
    ]
  ]

  abbrev unrefused_by : Option Refusal → Result Message MessageError → Result Message MessageError → Option (Message × Message)
  unrefused_by refusal keys answer = elim refusal as (λ _. Option (Message × Message)) [ Some e ↦ None | None ↦ both_spelled keys answer ]

  pub no_keys : None ≡ result_ok (message k h.dnskey_bytes) → None ≡ unrefused k h
  no_keys none = go (message k h.dnskey_bytes) none
    where
      none_some : (v : Message) → None ≡ Some v → ⊥
      none_some v e = cc

      go : (keys : Result Message MessageError) → None ≡ result_ok keys → None ≡ unrefused_by (refusal_by keys (message k h.answer_bytes)) keys (message k h.answer_bytes)
      go (Err e) n = refl
      go (Ok v) n = absurd (none_some v n)

  pub no_answer : (keys : Message) → message k h.dnskey_bytes ≡ Ok keys → None ≡ result_ok (message k h.answer_bytes) → None ≡ unrefused k h
  no_answer keys d none = go (message k h.answer_bytes) none ∙ sym (λ i. unrefused_by (refusal_by (d i) (message k h.answer_bytes)) (d i) (message k h.answer_bytes))
    where
      none_some : (v : Message) → None ≡ Some v → ⊥
      none_some v e = cc

      go : (answer : Result Message MessageError) → None ≡ result_ok answer → None ≡ unrefused_by (refusal_by (Ok keys) answer) (Ok keys) answer
      go (Err e) n = refl
      go (Ok v) n = absurd (none_some v n)

  -- both messages read
  module _ (keys answer : Message) (d : message k h.dnskey_bytes ≡ Ok keys) (z : message k h.answer_bytes ≡ Ok answer) where
    by_parts : (asked equal : Bool) → (keys_asked keys && may_ask h answer.asked) ≡ asked → has_equal_tags (keys_in h.dnskey_bytes h.apex keys.records) ≡ equal
        → unrefused_by (brought asked equal) (Ok keys) (Ok answer) ≡ unrefused k h
    by_parts asked equal p q = sym ((λ i. unrefused_by (refusal_by (d i) (z i)) (d i) (z i)) ∙ (λ i. unrefused_by (brought (p i) (q i)) (Ok keys) (Ok answer)))

    pub mismatched : (keys_asked keys && may_ask h answer.asked) ≡ false → None ≡ unrefused k h
    mismatched p = by_parts false (has_equal_tags (keys_in h.dnskey_bytes h.apex keys.records)) p refl

    pub clashing : (keys_asked keys && may_ask h answer.asked) ≡ true → has_equal_tags (keys_in h.dnskey_bytes h.apex keys.records) ≡ true → None ≡ unrefused k h
    clashing p q = by_parts true true p q

    pub both_whole : (keys_asked keys && may_ask h answer.asked) ≡ true → has_equal_tags (keys_in h.dnskey_bytes h.apex keys.records) ≡ false → Some (keys, answer) ≡ unrefused k h
    both_whole p q = by_parts true false p q

  -- the question, and the DS set
  pub unjudged : (not (is_judged h) || nat_eq (length h.ds) 0) ≡ true → None ≡ messages_in k h
  unjudged e = sym (λ i. if e i then None else unrefused k h)

  pub judged_beyond : (not (is_judged h) || nat_eq (length h.ds) 0) ≡ false → messages_in k h ≡ unrefused k h
  judged_beyond e = λ i. if e i then None else unrefused k h

  pub signatures_are : (m : List ℕ) (view : Message) → message k m ≡ Ok view → signatures_in k m ≡ length (filter is_signature view.records)
  signatures_are m view d = λ i. elim (d i) as (λ _. ℕ) [ Err e ↦ 0 | Ok read ↦ length (filter is_signature read.records) ]

pub judged_other : (h : JudgeInput) → is_judged h ≡ true → is_chain_type h.asked.rtype ≡ false
judged_other h e =
    let t = h.asked.rtype in
    let c46 = or_parts (t == 46) _ (judged_type h e) in
    let c47 = or_parts (t == 47) _ c46.1 in
    let c48 = or_parts (t == 48) _ c47.1 in
    let c50 = or_parts (t == 50) _ c48.1 in
    λ i. c47.0 i || c50.0 i
