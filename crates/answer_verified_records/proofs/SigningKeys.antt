-- What the keys that may sign the zone verify is what is verified in the messages.
use Rattle.std.proofs.Common.{◌≡◌, ℕ, List, [], ap}
use Rattle.std.specs.Prelude.{Option, Some, None}
use Rattle.definitions.specs.Dnskey.{Dnskey}
use Rattle.messages.specs.Message.{Message}
use Rattle.answer_scheme.specs.Answers.{Answers}
use Rattle.answer_judge.specs.Judging.{JudgeInput}
use Rattle.answer_judge.specs.Judged.{keys_of, trusting}
use Rattle.answer_verified_records.specs.Records.{messages_in, signing_keys, verified_in_answer, verified_in_messages, verified_records}

module _ (a : Answers) (k : ℕ) (h : JudgeInput) where
  module _ (keys answer : Message) where
    abbrev by_keys : Option (List Dnskey) → List ℕ
    by_keys o = elim o as (λ _. List ℕ) [
      | None ↦ []
      | Some usable ↦ verified_in_answer (trusting a h usable) k h.answer_bytes answer.records h.asked.name h.asked.rtype
    ]

    pub unsigned : None ≡ signing_keys a k h keys.records (keys_of h keys) → [] ≡ verified_in_messages a k h keys answer
    unsigned none = ap by_keys none

    pub signed : (usable : List Dnskey) → Some usable ≡ signing_keys a k h keys.records (keys_of h keys)
        → verified_in_answer (trusting a h usable) k h.answer_bytes answer.records h.asked.name h.asked.rtype ≡ verified_in_messages a k h keys answer
    signed usable some = ap by_keys some

  abbrev by_messages : Option (Message × Message) → List ℕ
  by_messages o = elim o as (λ _. List ℕ) [ None ↦ [] | Some messages ↦ verified_in_messages a k h messages.0 messages.1 ]

  pub refused : None ≡ messages_in k h → [] ≡ verified_records a k h
  refused none = ap by_messages none

  pub looked_at : (keys answer : Message) → Some (keys, answer) ≡ messages_in k h → verified_in_messages a k h keys answer ≡ verified_records a k h
  looked_at keys answer some = ap by_messages some
