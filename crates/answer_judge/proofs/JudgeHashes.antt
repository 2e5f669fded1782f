-- How many names a judge hashes, of both messages.
use Rattle.std.proofs.Common.{◌≡◌, ℕ, Bool, true, false, List, filter, inl, inr, ⊎_elim, sym, ap, ◌∙◌}
use Rattle.std.specs.Prelude.{Some, None, Ok, Err}
use Rattle.definitions.specs.Dnskey.{Dnskey}
use Rattle.definitions.specs.Limits.{pointer_limit}
use Rattle.denial_laws.specs.Facts.{Facts}
use Rattle.messages.specs.Message.{Message, Spelled, message}
use Rattle.answer_scheme.specs.Answers.{Answers}
use Rattle.answer_judge.specs.Due.{Counts, hashes_beyond, hashes_in_bytes, hashes_in_messages, hashes_of_answer, hashes_of_proof}
use Rattle.answer_judge_facts.specs.Times.{are_unlike, proof_times}
use Rattle.answer_judge_facts.specs.Trusted.{is_usable}
use Rattle.answer_judge.specs.Judged.{ds_authenticates_keys, keys_of, trusting}
use Rattle.answer_judge.specs.Judging.{Answer, JudgeInput, message_refusal}
use Rattle.answer_judge_facts.specs.Verified.{verified_facts}

-- both messages were read, and they bring no refusal
beyond : (a : Answers) (h : JudgeInput) (keys answer : Message) → message_refusal pointer_limit h ≡ None → message pointer_limit h.dnskey_bytes ≡ Ok keys → message pointer_limit h.answer_bytes ≡ Ok answer → hashes_beyond a pointer_limit h ≡ hashes_in_messages a pointer_limit h keys answer
beyond a h keys answer none d z =
    (λ i. elim (none i) as (λ _. ℕ) [ Some e ↦ 0 | None ↦ hashes_in_bytes a pointer_limit h ])
    ∙ (λ i. elim (d i) as (λ _. ℕ) [ Err e ↦ 0 | Ok keys ↦ elim (z i) as (λ _. ℕ) [ Err e ↦ 0 | Ok answer ↦ hashes_in_messages a pointer_limit h keys answer ] ])

abbrev usable_hashes : Answers → JudgeInput → Message → Message → ℕ
usable_hashes a h keys answer = hashes_of_answer a pointer_limit h (filter is_usable (keys_of h keys)) answer

-- the keys aren't signed
pub none_hashed : (a : Answers) (h : JudgeInput) (keys answer : Message) → message_refusal pointer_limit h ≡ None → message pointer_limit h.dnskey_bytes ≡ Ok keys → message pointer_limit h.answer_bytes ≡ Ok answer
    → false ≡ ds_authenticates_keys a pointer_limit h keys → hashes_beyond a pointer_limit h ≡ 0
none_hashed a h keys answer none d z chained =
    beyond a h keys answer none d z ∙ ap (λ b. elim b as (λ _. ℕ) [ true ↦ usable_hashes a h keys answer | false ↦ 0 ]) (sym chained)

-- they are
pub facts_hashed : (a : Answers) (h : JudgeInput) (keys answer : Message) (usable : List Dnskey) (rs : List Spelled) (facts : Facts) (unlike_times : Bool) → message_refusal pointer_limit h ≡ None → message pointer_limit h.dnskey_bytes ≡ Ok keys → message pointer_limit h.answer_bytes ≡ Ok answer
    → true ≡ ds_authenticates_keys a pointer_limit h keys → usable ≡ filter is_usable (keys_of h keys) → rs ≡ answer.records
    → facts ≡ verified_facts (trusting a h usable) pointer_limit h.answer_bytes rs h.asked.name h.asked.rtype → unlike_times ≡ are_unlike (proof_times (trusting a h usable) pointer_limit h.answer_bytes rs h.asked.name h.asked.rtype) → hashes_of_proof a h facts unlike_times ≡ hashes_beyond a pointer_limit h
facts_hashed a h keys answer usable rs facts unlike_times none d z chained u s f t =
    (λ i. hashes_of_proof a h (f i) (t i))
    ∙ (λ i. hashes_of_proof a h (verified_facts (trusting a h (u i)) pointer_limit h.answer_bytes (s i) h.asked.name h.asked.rtype) (are_unlike (proof_times (trusting a h (u i)) pointer_limit h.answer_bytes (s i) h.asked.name h.asked.rtype)))
    ∙ ap (λ b. elim b as (λ _. ℕ) [ true ↦ usable_hashes a h keys answer | false ↦ 0 ]) chained
    ∙ sym (beyond a h keys answer none d z)

-- from a number that is the same
pub counts_as : (x : Answer) (count due all : ℕ) → due ≡ all → Counts x count due → Counts x count all
counts_as x count due all e h = ⊎_elim (λ m. inl m) (λ k. inr (k ∙ e)) h
