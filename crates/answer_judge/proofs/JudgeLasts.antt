-- How long a verdict lasts, from what was verified of both messages.
use Rattle.std.proofs.Common.{◌≡◌, ℕ, false, List, ◌++◌, filter, length, sym, ap, ◌∙◌}
use Rattle.std.specs.Prelude.{min, Option, Some, None, Result, Ok, Err, OnOk, nat_eq, if◌then◌else◌}
use Rattle.definitions.specs.Dnskey.{Dnskey}
use Rattle.definitions.specs.Limits.{pointer_limit}
use Rattle.messages.specs.Message.{Message, Spelled, message}
use Rattle.answer_scheme.specs.Answers.{Answers, EachAgreeing, SignatureTest, with_test}
use Rattle.answer_judge.specs.Stages.{trusting_named}
use Rattle.answer_judge.specs.Judging.{JudgeInput}
use Rattle.answer_judge_facts.specs.DnskeyAnswer.{keys_in}
use Rattle.answer_judge_facts.specs.Trusted.{is_trusted, is_usable}
use Rattle.answer_judge_facts.specs.declared.validity.Validity.{Validity}
use Rattle.answer_judge.specs.Judged.{keys_of, trusting}
use Rattle.answer_judge_facts.specs.Validity.{answer_validity, answer_seconds, answer_ttls, key_seconds, least_or_max}
use Rattle.answer_judge.specs.Lasts.{validity_in_bytes, validity_in_messages, validity_of_input}
use Rattle.answer_judge_facts.proofs.JudgeAsked.{agreed_by}
use Rattle.answer_judge_facts.proofs.LeastOf.{least_twice}
use Rattle.answer_judge.proofs.JudgeWhole.{BothRead}

-- what holds whatever was answered
pub on_ok : {A E : Type 0} (r : Result A E) (P : Type 0) → P → OnOk r P
on_ok (Ok x) P h = h
on_ok (Err e) P h = tt

-- of both messages, whose keys are as they were read
module _ (a : Answers) (h : JudgeInput) (keys answer : Message) (rs : List Spelled) (ks : List Dnskey) (both : BothRead h keys answer rs ks) (usable : List Dnskey) (are : usable ≡ filter is_usable (keys_of h keys)) (zone : List Spelled) (read : zone ≡ answer.records) where
  all_keys : ks ≡ keys_of h keys
  all_keys = both.keys_are ∙ ap (keys_in h.dnskey_bytes h.apex) both.records_are

  abbrev of_keys : List ℕ
  of_keys = key_seconds (trusting_named a h ks) pointer_limit h.dnskey_bytes rs ks

  abbrev whole : List Spelled → List Dnskey → List Dnskey → List Spelled → Validity
  whole rs ks usable zone = record {
    ttl = least_or_max (answer_ttls (trusting a h usable) pointer_limit h.answer_bytes zone h.asked.name h.asked.rtype);
    seconds = least_or_max (key_seconds (trusting_named a h ks) pointer_limit h.dnskey_bytes rs ks ++ answer_seconds (trusting a h usable) pointer_limit h.answer_bytes zone h.asked.name h.asked.rtype);
  }

  pub lasts_as : (seconds : ℕ) (l : Validity) → seconds ≡ least_or_max of_keys → l ≡ answer_validity (trusting a h usable) pointer_limit h.answer_bytes zone h.asked.name h.asked.rtype
      → Some (record { ttl = l.ttl; seconds = min seconds l.seconds }) ≡ validity_in_bytes a pointer_limit h
  lasts_as seconds l s e =
      let first : min seconds l.seconds ≡ least_or_max (of_keys ++ answer_seconds (trusting a h usable) pointer_limit h.answer_bytes zone h.asked.name h.asked.rtype) =
      (λ i. min (s i) (e i).seconds) ∙ least_twice 4294967295 of_keys (answer_seconds (trusting a h usable) pointer_limit h.answer_bytes zone h.asked.name h.asked.rtype) in
      let some : Validity → Option Validity = λ l. Some l in
      (λ i. some (record { ttl = (e i).ttl; seconds = first i }))
      ∙ (λ i. some (whole (both.records_are i) (all_keys i) (are i) (read i)))
      ∙ sym (λ i. elim (both.dnskey i) as (λ _. Option Validity) [
        | Err e ↦ None
        | Ok keys ↦ elim (both.zone i) as (λ _. Option Validity) [ Err e ↦ None | Ok answer ↦ Some (validity_in_messages a pointer_limit h keys answer) ]
      ])

-- beside a DS set that isn't empty, what is said of both messages is said of the case
pub lasts_beyond : (own was : Answers) (agrees : SignatureTest → Type 0) (h : JudgeInput) (l : Option Validity) → was ≡ own → nat_eq (length h.ds) 0 ≡ false
    → EachAgreeing was agrees (λ a. l ≡ validity_in_bytes a pointer_limit h) → EachAgreeing own agrees (λ a. l ≡ validity_of_input a pointer_limit h)
lasts_beyond own was agrees h l same some said test fits =
    said test (agreed_by own was test (agrees test) same fits)
    ∙ ap (λ x. validity_in_bytes (with_test x test) pointer_limit h) same
    ∙ sym (λ i. if some i then None else validity_in_bytes (with_test own test) pointer_limit h)
