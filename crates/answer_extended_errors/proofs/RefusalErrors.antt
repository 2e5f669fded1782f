-- The error of each refusal, by what was read of the messages that were handed in.
use Rattle.std.proofs.Common.{◌≡◌, ℕ, List, filter, length, refl, sym, ap, ◌∙◌}
use Rattle.std.specs.Prelude.{Option, Some, None, Result, Ok, Err}
use Rattle.messages.specs.Message.{Message, Spelled, message}
use Rattle.messages.specs.declared.error.MessageError.{MessageError}
use Rattle.answer_scheme.specs.Answers.{Answers}
use Rattle.answer_judge.specs.Judging.{JudgeInput, signatures_in}
use Rattle.answer_judge_keys.specs.Trusted.{is_signature}
use Rattle.answer_judge.specs.declared.verdict.Refusal.{Refusal}
use Rattle.answer_judge.specs.declared.verdict.Refusal.TheVariants as r
use Rattle.answer_extended_errors.specs.Extended.{extended_error_of, plain_error, records_in, unproven, unproven_beside, untrusted, untrusted_keys}
use Rattle.answer_extended_errors.specs.declared.error.ExtendedError.{ExtendedError}
use Rattle.answer_extended_errors.specs.declared.error.ExtendedError.TheVariants as e

-- ---- refusals that say all themselves

pub plain_is : (a : Answers) (k : ℕ) (h : JudgeInput) (refusal : Refusal) → (refusal ≡ r.NoTrustedKey → ⊥) → (refusal ≡ r.NotProven → ⊥) → plain_error refusal ≡ extended_error_of a k h refusal
plain_is a k h r.QuestionNotAllowed n p = refl
plain_is a k h r.BadDnskeyMessage n p = refl
plain_is a k h r.BadAnswerMessage n p = refl
plain_is a k h r.QuestionMismatch n p = refl
plain_is a k h r.EqualTags n p = refl
plain_is a k h r.NoTrustedKey n p = absurd (n refl)
plain_is a k h r.MixedNsec3Parameters n p = refl
plain_is a k h r.IterationsOverLimit n p = refl
plain_is a k h r.HashFailed n p = refl
plain_is a k h r.NotProven n p = absurd (p refl)
plain_is a k h r.Memory n p = refl
plain_is a k h r.MixedVersions n p = refl

-- ---- records of a message

abbrev records_from : Result Message MessageError → Option (List Spelled)
records_from read = elim read [ Err e ↦ None | Ok read ↦ Some read.records ]

pub unread : (k : ℕ) (m : List ℕ) (error : MessageError) → message k m ≡ Err error → None ≡ records_in k m
unread k m error is = sym (ap records_from is)

pub are_read : (k : ℕ) (m : List ℕ) (view : Message) (rs : List Spelled) → message k m ≡ Ok view → rs ≡ view.records → Some rs ≡ records_in k m
are_read k m view rs is all = ap (λ (ss : List Spelled). Some ss) all ∙ sym (ap records_from is)

abbrev counted : Option (List Spelled) → ℕ
counted None = 0
counted (Some rs) = length (filter is_signature rs)

signatures_are : (k : ℕ) (m : List ℕ) → signatures_in k m ≡ counted (records_in k m)
signatures_are k m = go (message k m)
  where
    go : (read : Result Message MessageError) → elim read as (λ _. ℕ) [ Err e ↦ 0 | Ok view ↦ length (filter is_signature view.records) ] ≡ counted (records_from read)
    go (Err e) = refl
    go (Ok view) = refl

-- as many signatures as the records have that were read
pub signatures_read : (k : ℕ) (m : List ℕ) (rs : List Spelled) → Some rs ≡ records_in k m → signatures_in k m ≡ length (filter is_signature rs)
signatures_read k m rs some = signatures_are k m ∙ ap counted (sym some)

-- ---- no trusted key

module _ (a : Answers) (k : ℕ) (h : JudgeInput) where
  pub keys_unread : None ≡ records_in k h.dnskey_bytes → e.DnssecBogus ≡ untrusted a k h
  keys_unread none = ap (λ (o : Option (List Spelled)). elim o as (λ _. ExtendedError) [ None ↦ e.DnssecBogus | Some rs ↦ untrusted_keys a k h.apex h.ds h.dnskey_bytes rs h.now ]) none

  pub keys_read : (rs : List Spelled) → Some rs ≡ records_in k h.dnskey_bytes → untrusted_keys a k h.apex h.ds h.dnskey_bytes rs h.now ≡ untrusted a k h
  keys_read rs some = ap (λ (o : Option (List Spelled)). elim o as (λ _. ExtendedError) [ None ↦ e.DnssecBogus | Some rs ↦ untrusted_keys a k h.apex h.ds h.dnskey_bytes rs h.now ]) some

  -- ---- nothing proven

  abbrev unproven_by : Option (List Spelled) → Option (List Spelled) → ExtendedError
  unproven_by first second = elim first as (λ _. ExtendedError) [
    | None ↦ e.DnssecBogus
    | Some keys ↦ elim second as (λ _. ExtendedError) [ None ↦ e.DnssecBogus | Some rs ↦ unproven_beside a k h keys rs ]
  ]

  pub no_keys : None ≡ records_in k h.dnskey_bytes → e.DnssecBogus ≡ unproven a k h
  no_keys none = ap (λ o. unproven_by o (records_in k h.answer_bytes)) none

  pub no_answer : (keys : List Spelled) → Some keys ≡ records_in k h.dnskey_bytes → None ≡ records_in k h.answer_bytes → e.DnssecBogus ≡ unproven a k h
  no_answer keys some none = λ i. unproven_by (some i) (none i)

  pub both_read : (keys rs : List Spelled) → Some keys ≡ records_in k h.dnskey_bytes → Some rs ≡ records_in k h.answer_bytes → unproven_beside a k h keys rs ≡ unproven a k h
  both_read keys rs some all = λ i. unproven_by (some i) (all i)
