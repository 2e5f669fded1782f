-- What is said of the keys of a DNSKEY answer before the answer is looked at.
use Rattle.std.specs.Prelude.{◌≡◌, ◌⊎◌, ℕ, Bool, true, false, List, [], filter, map}
use Rattle.definitions.specs.Dnskey.{Dnskey, dnskey_data}
use Rattle.definitions.specs.Zone.{sorted_data}
use Rattle.messages.specs.Message.{Spelled}
use Rattle.answer_scheme.specs.Answers.{Answers}
use Rattle.answer_judge_facts.specs.Counted.{tries}
use Rattle.answer_judge_facts.specs.Trusted.{is_trusted}
use Rattle.answer_judge.specs.Judged.{trusting}
use Rattle.answer_judge.specs.Judging.{JudgeInput}
use Rattle.answer_judge_facts.specs.Sought.{keys_sought}
use Rattle.answer_judge_facts.specs.Verified.{Trusting, is_verified}
use Rattle.answer_judge.specs.declared.verdict.Refusal.{Refusal}
use Rattle.answer_judge.specs.declared.verdict.Refusal.TheVariants as r

-- the keys that DS records name
abbrev pub trusting_named : Answers → JudgeInput → List Dnskey → Trusting
trusting_named a h keys = trusting a h (filter (is_trusted a h.apex h.ds) keys)

-- one of them signs all keys (RFC 4035, 5.2)
abbrev pub are_signed : Answers → ℕ → JudgeInput → List Spelled → List Dnskey → Bool
are_signed a k h rs keys = is_verified (trusting_named a h keys) k h.dnskey_bytes rs h.apex 48 (sorted_data (map dnskey_data keys))

-- how many signatures are tried to find that out
abbrev pub tries_of_keys : Answers → ℕ → JudgeInput → List Spelled → List Dnskey → ℕ
tries_of_keys a k h rs keys = tries (trusting_named a h keys) k h.dnskey_bytes (keys_sought h.apex keys) [] rs

-- they are, after so many tries
abbrev pub FindsSigned : Answers → ℕ → JudgeInput → List Spelled → List Dnskey → ℕ → Type 0
FindsSigned a k h rs keys count = (are_signed a k h rs keys ≡ true) × (count ≡ tries_of_keys a k h rs keys)

-- they are not, or memory ran out
abbrev pub FindsUnsigned : Answers → ℕ → JudgeInput → List Spelled → List Dnskey → ℕ → Refusal → Type 0
FindsUnsigned a k h rs keys count e = (e ≡ r.Memory) ⊎ ((e ≡ r.NoTrustedKey) × (are_signed a k h rs keys ≡ false) × (count ≡ tries_of_keys a k h rs keys))
