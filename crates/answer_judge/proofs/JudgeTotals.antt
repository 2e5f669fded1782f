-- How many signatures a judge tries, of both messages.
use Rattle.std.proofs.Common.{◌≡◌, ℕ, ◌+◌, true, false, List, [], filter, sym, ap, ◌∙◌, arith}
use Rattle.std.specs.Prelude.{Some, None, Ok, Err}
use Rattle.definitions.specs.Dnskey.{Dnskey}
use Rattle.definitions.specs.Limits.{pointer_limit}
use Rattle.messages.specs.Message.{Message, Spelled, message}
use Rattle.answer_scheme.specs.Answers.{Answers}
use Rattle.answer_judge.specs.Stages.{tries_of_keys}
use Rattle.answer_judge_facts.specs.Counted.{tries}
use Rattle.answer_judge.specs.Due.{answer_tries, key_tries, tries_beyond, tries_in_bytes, tries_in_messages}
use Rattle.answer_judge_facts.specs.Sought.{answer_sought}
use Rattle.answer_judge_facts.specs.Trusted.{is_usable}
use Rattle.answer_judge.specs.Judged.{ds_authenticates_keys, keys_of, trusting}
use Rattle.answer_judge.specs.Judging.{JudgeInput, message_refusal}
use Rattle.answer_judge_facts.specs.DnskeyAnswer.{keys_in}

-- both messages were read, and they bring no refusal
beyond : (a : Answers) (h : JudgeInput) (keys answer : Message) → message_refusal pointer_limit h ≡ None → message pointer_limit h.dnskey_bytes ≡ Ok keys → message pointer_limit h.answer_bytes ≡ Ok answer → tries_beyond a pointer_limit h ≡ tries_in_messages a pointer_limit h keys answer
beyond a h keys answer none d z =
    (λ i. elim (none i) as (λ _. ℕ) [ Some e ↦ 0 | None ↦ tries_in_bytes a pointer_limit h ])
    ∙ (λ i. elim (d i) as (λ _. ℕ) [ Err e ↦ 0 | Ok keys ↦ elim (z i) as (λ _. ℕ) [ Err e ↦ 0 | Ok answer ↦ tries_in_messages a pointer_limit h keys answer ] ])

pub key_tries_as : (a : Answers) (h : JudgeInput) (keys : Message) (rs : List Spelled) (ks : List Dnskey) → rs ≡ keys.records → ks ≡ keys_in h.dnskey_bytes h.apex rs → tries_of_keys a pointer_limit h rs ks ≡ key_tries a pointer_limit h keys
key_tries_as a h keys rs ks e f = λ i. tries_of_keys a pointer_limit h (e i) ((f ∙ ap (keys_in h.dnskey_bytes h.apex) e) i)

-- the keys aren't signed
pub keys_alone : (a : Answers) (h : JudgeInput) (keys answer : Message) (n : ℕ) → message_refusal pointer_limit h ≡ None → message pointer_limit h.dnskey_bytes ≡ Ok keys → message pointer_limit h.answer_bytes ≡ Ok answer
    → false ≡ ds_authenticates_keys a pointer_limit h keys → n ≡ key_tries a pointer_limit h keys → n ≡ tries_beyond a pointer_limit h
keys_alone a h keys answer n none d z chained first =
    let all : tries_in_messages a pointer_limit h keys answer ≡ key_tries a pointer_limit h keys + 0 =
    ap (λ b. key_tries a pointer_limit h keys + elim b as (λ _. ℕ) [ true ↦ answer_tries a pointer_limit h keys answer | false ↦ 0 ]) (sym chained) in
    omega (arith, first, all, beyond a h keys answer none d z)

-- they are
pub keys_and_answer : (a : Answers) (h : JudgeInput) (keys answer : Message) (usable : List Dnskey) (rs : List Spelled) (n m : ℕ) → message_refusal pointer_limit h ≡ None → message pointer_limit h.dnskey_bytes ≡ Ok keys → message pointer_limit h.answer_bytes ≡ Ok answer
    → true ≡ ds_authenticates_keys a pointer_limit h keys → n ≡ key_tries a pointer_limit h keys → usable ≡ filter is_usable (keys_of h keys) → rs ≡ answer.records
    → m ≡ n + tries (trusting a h usable) pointer_limit h.answer_bytes (answer_sought pointer_limit h.answer_bytes h.apex rs h.asked.name h.asked.rtype) [] rs → m ≡ tries_beyond a pointer_limit h
keys_and_answer a h keys answer usable rs n m none d z chained first u e more =
    let second : tries (trusting a h usable) pointer_limit h.answer_bytes (answer_sought pointer_limit h.answer_bytes h.apex rs h.asked.name h.asked.rtype) [] rs ≡ answer_tries a pointer_limit h keys answer =
    λ i. tries (trusting a h (u i)) pointer_limit h.answer_bytes (answer_sought pointer_limit h.answer_bytes h.apex (e i) h.asked.name h.asked.rtype) [] (e i) in
    let all : tries_in_messages a pointer_limit h keys answer ≡ key_tries a pointer_limit h keys + answer_tries a pointer_limit h keys answer =
    ap (λ b. key_tries a pointer_limit h keys + elim b as (λ _. ℕ) [ true ↦ answer_tries a pointer_limit h keys answer | false ↦ 0 ]) (sym chained) in
    omega (arith, first, second, more, all, beyond a h keys answer none d z)
