-- Keys that meet, and what is handed to a judge from one zone under such keys.
use Rattle.std.specs.Prelude.{◌≡◌, ℕ, ◌+◌, ◌%◌, ◌<◌, Bool, true, false, ◌&&◌, List, Contains, Some, Result}
use Rattle.std.specs.List.{AllByRecursion}
use Rattle.definitions.specs.Name.{Name, IsName}
use Rattle.definitions.specs.Dnskey.{Dnskey, Ds, key_tag, digested}
use Rattle.definitions.specs.Serial.{serial_le}
use Rattle.definitions.specs.Zone.{verdict}
use Rattle.definitions.specs.ZoneChain.{Mode, optout_of}
use Rattle.messages.specs.HandedRr.{HandedRr}
use Rattle.answer_terms.specs.Accepting.{sorted_records, zone_of}
use Rattle.answer_scheme.specs.Answers.{Answers}
use Rattle.answer_judge_facts.specs.Trusted.{is_usable}
use Rattle.answer_terms.specs.Told.{TellsKeys, TellsAnswer}
use Rattle.messages.specs.Handed.{IsHanded}
use Rattle.answer_judge.specs.Judging.{Answer, Says, JudgeInput, Judges, answer_of, verifications_of, hashes_of}
use Rattle.answer_terms.specs.Accepted.{IsAccepted}
use Rattle.answer_terms.specs.Asking.{is_allowed}
use Rattle.answer_terms.specs.EqualTags.{has_equal_tags}
use Rattle.answer_judge.specs.declared.verdict.Judgement.{Judgement}
use Rattle.answer_judge.specs.declared.verdict.Refused.{Refused}
use Rattle.answer_judge.specs.Honest.{AnswersHonest}
use Rattle.answer_judge.specs.Timely.{RefusesUntimely}
use Rattle.answer_judge.specs.Judged.{AnswersAs, judged}
use Rattle.answer_judge.specs.Due.{Counts, hashes_due, verifications_due}
use Rattle.answer_terms.specs.Hashing.{HashesHold, served}
use Rattle.answer_terms.specs.Served.{Served}
use Rattle.messages.specs.WrittenLaws.{IsQuestion}
use Rattle.answer_terms.specs.ZoneView.{AcceptedZone}

-- a DS record names the key, by a digest of a type that is made (RFC 4034, 5.1)
pub record HasDs (a : Answers) (apex : Name) (ds : List Ds) (k : Dnskey) : Type 0 where
  pub digest_type : ℕ
  pub digest : List ℕ
  pub made : a.digest digest_type (digested apex k) ≡ Some digest
  pub held : Contains ds (record { tag = key_tag k; algorithm = k.algorithm; digest_type = digest_type; digest = digest })

-- one key is at the parent, present, and signs the keys; one is present and signs the zone
pub record Meet (parents present keysigners zonesigners : List Dnskey) : Type 0 where
  pub anchor : Dnskey
  pub at_parent : Contains parents anchor
  pub anchor_present : Contains present anchor
  pub signs_keys : Contains keysigners anchor
  pub signer : Dnskey
  pub signer_present : Contains present signer
  pub signs_zone : Contains zonesigners signer

-- signatures of a moment hold at another (RFC 4034, 3.1.5)
abbrev pub holds : ℕ → ℕ → ℕ → Bool
holds at life now = serial_le (at % 4294967296) now && serial_le now ((at + life) % 4294967296)

-- the zone that records spell, as it is published with a chain
abbrev pub zone_from : Name → Mode → ℕ → List HandedRr → AcceptedZone
zone_from apex mode limit rs = record { apex = apex; mode = mode; limit = limit; records = sorted_records rs }

-- how it is served
abbrev pub served_from : Answers → JudgeInput → Mode → List HandedRr → Served
served_from a h mode rs = served a.hash (zone_from h.apex mode h.limit rs)

-- What is handed in was given by the zone of these records and this chain: the DS set of the keys at the parent, a DNSKEY
-- answer, which has of the zone's records a TTL alone, and a zone answer, of keys that meet, whose signatures hold. Other keys may
-- be present that a judge may not use.
pub record WasGiven (a : Answers) (k : ℕ) (h : JudgeInput) (mode : Mode) (rs : List HandedRr) : Type 0 where
  pub parents : List Dnskey
  pub present : List Dnskey
  pub keysigners : List Dnskey
  pub zonesigners : List Dnskey
  pub life : ℕ
  pub keys_ttl : ℕ
  pub keys_at : ℕ
  pub answer_at : ℕ
  pub apex_is : IsName h.apex
  pub records_are : AllByRecursion IsHanded rs
  pub accepted : IsAccepted a.hash h.apex mode h.limit rs
  pub hashes : HashesHold a.hash mode (zone_of h.apex rs) h.asked.name
  pub asked_is : IsQuestion h.asked
  pub allowed : is_allowed h.apex h.asked ≡ true
  pub flags_are : AllByRecursion (λ key. key.flags < 65536) present
  pub ds_is : AllByRecursion (HasDs a h.apex h.ds) parents
  pub meet : Meet parents present keysigners zonesigners
  pub anchor_usable : is_usable meet.anchor ≡ true
  pub signer_usable : is_usable meet.signer ≡ true
  pub present_tags : has_equal_tags present ≡ false
  pub keysigner_tags : has_equal_tags keysigners ≡ false
  pub zonesigner_tags : has_equal_tags zonesigners ≡ false
  pub keys_told : TellsKeys a.verifies k keys_ttl h.apex present keysigners keys_at life h.dnskey_bytes
  pub answer_told : TellsAnswer a.verifies k (served_from a h mode rs) h.apex zonesigners answer_at life h.asked h.answer_bytes
  pub keys_hold : holds keys_at life h.now ≡ true
  pub answer_holds : holds answer_at life h.now ≡ true

-- the answer is the zone's verdict
abbrev pub AnswersGiven : Answers → ℕ → JudgeInput → Answer → Type 0
AnswersGiven a k h answer =
    (mode : Mode) (rs : List HandedRr) → WasGiven a k h mode rs
    → AnswersAs answer (Says (verdict (zone_of h.apex rs) (optout_of mode) h.asked.name h.asked.rtype))

-- A judgement: what it keeps whatever is handed in, what it says of the two messages, the verdict of a zone that gave them,
-- no other verdict of honest ones, and a refusal where no signature holds. The first argument is how many pointers may be
-- followed in a name.
pub record IsJudgement (k : ℕ) (a : Answers) (h : JudgeInput) (answer : Answer) (verifications hashes : ℕ) : Type 0 where
  pub keeps : Judges k h answer verifications hashes
  pub exact : AnswersAs answer (judged a k h)
  pub counts : Counts answer verifications (verifications_due a k h)
  pub hash_counts : Counts answer hashes (hashes_due a k h)
  pub given : AnswersGiven a k h answer
  pub honest : AnswersHonest a k h answer
  pub timely : RefusesUntimely k h answer

-- the code's answer is one
abbrev pub JudgesSo : ℕ → Answers → JudgeInput → Result Judgement Refused → Type 0
JudgesSo k a h result = IsJudgement k a h (answer_of result) (verifications_of result) (hashes_of result)
