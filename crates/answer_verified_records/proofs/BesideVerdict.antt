-- Where a judge says a verdict of both messages, a key that the DS set trusts signs the zone's keys.
use Rattle.std.proofs.Common.{◌≡◌, ℕ, Bool, true, false, not, ◌||◌, length, refl, sym, ap, ◌∙◌}
use Rattle.std.specs.Prelude.{Some, None, Result, Ok, nat_eq, if◌then◌else◌}
use Rattle.std.proofs.lemmas.Bool.{false≢true}
use Rattle.messages.specs.Message.{Message, message}
use Rattle.messages.specs.declared.error.MessageError.{MessageError}
use Rattle.answer_scheme.specs.Answers.{Answers}
use Rattle.answer_judge.specs.Stages.{are_signed}
use Rattle.answer_judge.specs.Judging.{JudgeInput, is_judged}
use Rattle.answer_judge.specs.Judged.{ds_authenticates_keys, keys_of}
use Rattle.answer_judge.proofs.JudgedSays.{judged_says}
use Rattle.answer_verified_records.specs.Records.{SaysVerdict, messages_in, unrefused}

ok_is : (read : Result Message MessageError) (a b : Message) → read ≡ Ok a → read ≡ Ok b → a ≡ b
ok_is read a b e f = cc

-- both messages are looked at beside a DS set that isn't empty alone
not_empty : (k : ℕ) (h : JudgeInput) (both : Message × Message) → Some both ≡ messages_in k h → nat_eq (length h.ds) 0 ≡ false
not_empty k h both some = go (not (is_judged h)) (nat_eq (length h.ds) 0) some
  where
    go : (unjudged empty : Bool) → Some both ≡ (if unjudged || empty then None else unrefused k h) → empty ≡ false
    go true empty e = absurd (let no : Some both ≡ None = e in cc)
    go false true e = absurd (let no : Some both ≡ None = e in cc)
    go false false e = refl

pub keys_are_signed : (a : Answers) (k : ℕ) (h : JudgeInput) (keys answer : Message) → SaysVerdict a k h → Some (keys, answer) ≡ messages_in k h → message k h.dnskey_bytes ≡ Ok keys
    → are_signed a k h keys.records (keys_of h keys) ≡ true
keys_are_signed a k h keys answer says some read =
    let empty = not_empty k h (keys, answer) some in
    let said = judged_says a k h says.verdict (λ e. false≢true (sym empty ∙ ap (λ ds. nat_eq (length ds) 0) e)) says.says in
    ap (ds_authenticates_keys a k h) (ok_is (message k h.dnskey_bytes) keys said.keys read said.keys_read) ∙ said.chained
