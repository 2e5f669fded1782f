-- The signatures that a judge verifies are those that are tried of the case.
use mathlib.Core.Path.{transport}
use Rattle.std.proofs.Common.{◌≡◌, ℕ, Bool, true, false, not, ◌&&◌, List, [], filter, length, sym, ap, ◌∙◌}
use Rattle.std.specs.Prelude.{Some, None, Ok, Err, nat_eq, if◌then◌else◌}
use Rattle.std.proofs.lemmas.Bool.{or_left, or_right}
use Rattle.definitions.specs.Dnskey.{Dnskey}
use Rattle.definitions.specs.Limits.{pointer_limit}
use Rattle.messages.specs.Message.{Message, Spelled, message}
use Rattle.answer_scheme.specs.Answers.{Answers, SignatureTest}
use Rattle.answer_judge.specs.Stages.{trusting_named}
use Rattle.answer_judge_facts.specs.Asked.{Implies, is_tried_among}
use Rattle.answer_judge.specs.Tried.{is_tried_beyond, is_tried_in_bytes, is_tried_in_messages, is_tried_of_answer, is_tried_signature}
use Rattle.answer_judge_facts.specs.Trusted.{is_usable}
use Rattle.answer_judge.specs.Judged.{ds_authenticates_keys, keys_of, trusting}
use Rattle.answer_judge.specs.Judging.{JudgeInput, is_judged, message_refusal}
use Rattle.answer_judge_facts.specs.DnskeyAnswer.{keys_in}
use Rattle.answer_judge.specs.declared.verdict.Refusal.TheVariants as r
use Rattle.answer_judge_facts.specs.Sought.{answer_sought, keys_sought}

-- both messages were read, and they bring no refusal
module _ (a : Answers) (h : JudgeInput) (keys answer : Message) (none : message_refusal pointer_limit h ≡ None) (d : message pointer_limit h.dnskey_bytes ≡ Ok keys) (z : message pointer_limit h.answer_bytes ≡ Ok answer) where
  tried_beyond : (key : Dnskey) (octets signature : List ℕ) → is_tried_in_messages a pointer_limit h keys answer key octets signature ≡ true → is_tried_beyond a pointer_limit h key octets signature ≡ true
  tried_beyond key octets signature tried =
      (λ i. elim (none i) as (λ _. Bool) [ Some e ↦ false | None ↦ is_tried_in_bytes a pointer_limit h key octets signature ])
      ∙ (λ i. elim (d i) as (λ _. Bool) [
        | Err e ↦ false
        | Ok keys ↦ elim (z i) as (λ _. Bool) [ Err e ↦ false | Ok answer ↦ is_tried_in_messages a pointer_limit h keys answer key octets signature ]
      ])
      ∙ tried

  -- of the keys
  pub keys_pass : (test : SignatureTest) (rs : List Spelled) (ks : List Dnskey) → Implies (is_tried_beyond a pointer_limit h) test → rs ≡ keys.records → ks ≡ keys_in h.dnskey_bytes h.apex rs
      → Implies (is_tried_among (trusting_named a h ks) pointer_limit h.dnskey_bytes (keys_sought h.apex ks) [] rs) test
  keys_pass test rs ks implies e f =
      let all : ks ≡ keys_of h keys = f ∙ ap (keys_in h.dnskey_bytes h.apex) e in
      transport (λ i. Implies (is_tried_among (trusting_named a h (sym all i)) pointer_limit h.dnskey_bytes (keys_sought h.apex (sym all i)) [] (sym e i)) test)
      (λ key octets signature tried. implies key octets signature (tried_beyond key octets signature (or_left _ _ tried)))

  -- and of the answer, where the keys are verified
  pub answer_pass : (test : SignatureTest) (later : Answers) (rs : List Spelled) (usable : List Dnskey) → Implies (is_tried_beyond a pointer_limit h) test → later ≡ a → true ≡ ds_authenticates_keys a pointer_limit h keys → rs ≡ answer.records → usable ≡ filter is_usable (keys_of h keys)
      → Implies (is_tried_among (trusting later h usable) pointer_limit h.answer_bytes (answer_sought pointer_limit h.answer_bytes h.apex rs h.asked.name h.asked.rtype) [] rs) test
  answer_pass test later rs usable implies same chained e u =
      transport (λ i. Implies (is_tried_among (trusting (sym same i) h (sym u i)) pointer_limit h.answer_bytes (answer_sought pointer_limit h.answer_bytes h.apex (sym e i) h.asked.name h.asked.rtype) [] (sym e i)) test)
      (λ key octets signature tried. implies key octets signature
      (tried_beyond key octets signature (or_right _ _ ((λ i. sym chained i && is_tried_of_answer a pointer_limit h keys answer key octets signature) ∙ tried))))

-- beside a DS set that isn't empty, of a question that is judged
pub case_passes : (own was : Answers) (h : JudgeInput) (test : SignatureTest) → was ≡ own → is_judged h ≡ true → nat_eq (length h.ds) 0 ≡ false → Implies (is_tried_signature own pointer_limit h) test → Implies (is_tried_beyond was pointer_limit h) test
case_passes own was h test same allowed some implies key octets signature tried =
    implies key octets signature
    ((λ i. elim (if not (allowed i) then Some r.QuestionNotAllowed else if some i then None else message_refusal pointer_limit h) as (λ _. Bool) [
      | Some e ↦ false
      | None ↦ if some i then false else is_tried_in_bytes own pointer_limit h key octets signature
    ])
    ∙ ap (λ (x : Answers). is_tried_beyond x pointer_limit h key octets signature) (sym same) ∙ tried)
