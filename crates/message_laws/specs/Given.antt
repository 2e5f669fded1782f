-- What a zone has given: keys under a DS set, and what it answers a question with, by an alias or not.
use Rattle.std.specs.Prelude.{◌≡◌, ℕ, ◌<◌, true, false, List, Contains}
use Rattle.std.specs.List.{AllByRecursion}
use Rattle.definitions.specs.Dnskey.{Dnskey, Ds}
use Rattle.definitions.specs.Name.{Name, IsName}
use Rattle.definitions.specs.ZoneChain.{Mode}
use Rattle.messages.specs.Handed.{IsHanded}
use Rattle.messages.specs.HandedRr.{HandedRr}
use Rattle.messages.specs.Message.{Asked}
use Rattle.messages.specs.WrittenLaws.{IsQuestion}
use Rattle.answer_scheme.specs.Answers.{Answers}
use Rattle.answer_terms.specs.Accepting.{zone_of}
use Rattle.answer_terms.specs.Asking.{is_allowed}
use Rattle.answer_terms.specs.EqualTags.{has_equal_tags}
use Rattle.answer_terms.specs.Hashing.{HashesHold}
use Rattle.answer_terms.specs.Served.{answer_groups, by_tag}
use Rattle.answer_terms.specs.Told.{Tells, TellsKeys}
use Rattle.answer_zone_records.specs.AliasFaults.{IsAcceptedWithAliases}
use Rattle.answer_judge_facts.specs.Trusted.{is_usable}
use Rattle.answer_judge.specs.Meeting.{HasDs, holds, served_from}
use Rattle.answer_judge.specs.Judging.{JudgeInput}
use Rattle.message_laws.specs.InPlace.{LeadsToOne, in_place}

-- Octets tell the DNSKEY answer of the keys that are present, each of another tag. One of these is named at the parent, by a DS record,
-- may be used, and signs them all; its signature holds at the moment.
pub record KeysWereGiven (a : Answers) (k : ℕ) (apex : Name) (ds : List Ds) (bytes : List ℕ) (now : ℕ) : Type 0 where
  pub present : List Dnskey
  pub keysigners : List Dnskey
  pub anchor : Dnskey
  pub life : ℕ
  pub ttl : ℕ
  pub at : ℕ
  pub flags_are : AllByRecursion (λ key. key.flags < 65536) present
  pub ds_is : HasDs a apex ds anchor
  pub anchor_present : Contains present anchor
  pub signs_keys : Contains keysigners anchor
  pub anchor_usable : is_usable anchor ≡ true
  pub present_tags : has_equal_tags present ≡ false
  pub keysigner_tags : has_equal_tags keysigners ≡ false
  pub told : TellsKeys a.verifies k ttl apex present keysigners at life bytes
  pub hold : holds at life now ≡ true

-- What is handed in was given by the zone of these records and this chain, aliases among the records or not: a DNSKEY answer, and the
-- RRsets that the zone answers the question with, whatever the message asks, of keys that meet, whose signatures hold.
pub record WasGivenWithAliases (a : Answers) (k : ℕ) (h : JudgeInput) (mode : Mode) (rs : List HandedRr) : Type 0 where
  pub keys : KeysWereGiven a k h.apex h.ds h.dnskey_bytes h.now
  pub zonesigners : List Dnskey
  pub signer : Dnskey
  pub at : ℕ
  pub life : ℕ
  pub question : Asked
  pub limit : h.limit < 65536
  pub apex_is : IsName h.apex
  pub records_are : AllByRecursion IsHanded rs
  pub accepted : IsAcceptedWithAliases a.hash h.apex mode h.limit rs
  pub asked_is : IsQuestion h.asked
  pub allowed : is_allowed h.apex h.asked ≡ true
  pub hashes : HashesHold a.hash mode (zone_of h.apex rs) h.asked.name
  pub hashes_there : HashesHold a.hash mode (zone_of h.apex rs) (in_place (zone_of h.apex rs) h.asked).name
  pub leads : LeadsToOne (zone_of h.apex rs) h.asked
  pub signer_present : Contains keys.present signer
  pub signs_zone : Contains zonesigners signer
  pub signer_usable : is_usable signer ≡ true
  pub zonesigner_tags : has_equal_tags zonesigners ≡ false
  pub told : Tells a.verifies k h.apex at life (by_tag zonesigners) question
      (answer_groups (served_from a h mode rs) (in_place (zone_of h.apex rs) h.asked).name (in_place (zone_of h.apex rs) h.asked).rtype) h.answer_bytes
  pub hold : holds at life h.now ≡ true
