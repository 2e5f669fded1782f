-- Messages that show what a zone answers, whatever else is in them: in any order, with signatures of any keys and times.
use Rattle.std.specs.Prelude.{◌≡◌, ◌⊎◌, ℕ, Bool, true, false, ◌&&◌, List, [], map, filter, Some, IfSome, Ok}
use Rattle.std.specs.List.{AllByRecursion}
use Rattle.definitions.specs.Dnskey.{Dnskey, Ds, dnskey_data}
use Rattle.definitions.specs.Name.{Name, low, strictly_above}
use Rattle.definitions.specs.Zone.{NoType, Zone, sorted_data, verdict}
use Rattle.definitions.specs.ZoneChain.{Mode, Nsec, Nsec3, optout_of}
use Rattle.denial_laws.specs.Facts.{Facts, HashLink}
use Rattle.denial_laws.specs.Truth.{IsTrueHashLink, IsTrueLink, IsTrueRrset}
use Rattle.fact_laws.specs.Due.{due_facts}
use Rattle.fact_laws.specs.Laws.{Includes}
use Rattle.messages.specs.HandedRr.{HandedRr}
use Rattle.messages.specs.Message.{Asked, Message, message}
use Rattle.messages.specs.WrittenLaws.{IsQuestion}
use Rattle.answer_scheme.specs.Answers.{Answers}
use Rattle.answer_terms.specs.Accepting.{zone_of}
use Rattle.answer_terms.specs.Asking.{is_allowed}
use Rattle.answer_terms.specs.EqualTags.{has_equal_tags}
use Rattle.answer_terms.specs.FactsCase.{low_facts}
use Rattle.answer_terms.specs.Hashing.{HashesHold, hash_in}
use Rattle.answer_zone_records.specs.AliasFaults.{IsAcceptedWithAliases}
use Rattle.answer_judge_facts.specs.DnskeyAnswer.{keys_in}
use Rattle.answer_judge_facts.specs.Times.{are_unlike, proof_times}
use Rattle.answer_judge_facts.specs.Trusted.{is_trusted, is_usable}
use Rattle.answer_judge_facts.specs.Verified.{is_verified, verified_facts}
use Rattle.answer_judge.specs.Judged.{trusting}
use Rattle.answer_judge.specs.Judging.{JudgeInput, same_question}
use Rattle.answer_findings.specs.Judgements.{alias_hint, asking}
use Rattle.message_laws.specs.InPlace.{LeadsToOne, in_place}

-- ---- keys

-- Octets show keys under a DS set: a DNSKEY answer, whose keys each have another tag; one of those that the DS set names signs them all,
-- and its signature holds at the moment (RFC 4035, 5.2).
pub record ShowsKeys (a : Answers) (k : ℕ) (apex : Name) (ds : List Ds) (bytes : List ℕ) (now : ℕ) : Type 0 where
  pub read : Message
  pub reads : message k bytes ≡ Ok read
  pub asks : same_question read.asked (record { name = apex; rtype = 48; class = 1 }) ≡ true
  pub ds_some : ds ≡ [] → ⊥
  pub tags : has_equal_tags (keys_in bytes apex read.records) ≡ false
  pub signed : is_verified (record { answers = a; apex = apex; keys = filter (is_trusted a apex ds) (keys_in bytes apex read.records); now = now }) k bytes read.records apex 48
      (sorted_data (map dnskey_data (keys_in bytes apex read.records))) ≡ true

-- those that may sign the zone
abbrev pub usable_of : {a : Answers} {k : ℕ} {apex : Name} {ds : List Ds} {bytes : List ℕ} {now : ℕ} → ShowsKeys a k apex ds bytes now → List Dnskey
usable_of {a} {k} {apex} {ds} {bytes} {now} keys = filter is_usable (keys_in bytes apex keys.read.records)

-- ---- an answer

-- what is verified of an answer under some keys, on a question; names of links in lower case
abbrev pub shown_facts : Answers → ℕ → JudgeInput → List Dnskey → Message → Asked → Facts
shown_facts a k h usable read asked = low_facts (verified_facts (trusting a h usable) k h.answer_bytes read.records asked.name asked.rtype)

-- a link of the chain of hashes that a zone is published with
abbrev pub IsChainLink : Zone → (Name → List ℕ) → ℕ → List ℕ → Bool → HashLink → Type 0
IsChainLink z hash iterations salt optout l = IsTrueHashLink z hash optout l × (l.iterations ≡ iterations) × (l.salt ≡ salt)

-- all links are of the chain that it is published with
abbrev pub AreOfChain : Zone → (Name → List ℕ) → Mode → Facts → Type 0
AreOfChain z hash Nsec f = AllByRecursion (IsTrueLink z) f.links × (f.hash_links ≡ [])
AreOfChain z hash (Nsec3 iterations salt optout) f = (f.links ≡ []) × AllByRecursion (IsChainLink z hash iterations salt optout) f.hash_links

-- What is verified on a question is true of the zone, and of one moment where it must be.
pub record IsTruthful (a : Answers) (k : ℕ) (h : JudgeInput) (usable : List Dnskey) (read : Message) (mode : Mode) (rs : List HandedRr) (asked : Asked) : Type 0 where
  pub rrset : IfSome (shown_facts a k h usable read asked).rrset (IsTrueRrset (zone_of h.apex rs) asked.name asked.rtype)
  pub chain : AreOfChain (zone_of h.apex rs) (hash_in a.hash mode) mode (shown_facts a k h usable read asked)
  pub moment : (h.one_moment && are_unlike (proof_times (trusting a h usable) k h.answer_bytes read.records asked.name asked.rtype)) ≡ false

-- And what is due of the zone's own answer is among it: its RRset, or none as there, and its links, beside any others of the chain.
pub record Shows (a : Answers) (k : ℕ) (h : JudgeInput) (usable : List Dnskey) (read : Message) (mode : Mode) (rs : List HandedRr) (asked : Asked) : Type 0 where
  pub truthful : IsTruthful a k h usable read mode rs asked
  pub includes : Includes (shown_facts a k h usable read asked) (due_facts (zone_of h.apex rs) (hash_in a.hash mode) mode asked.name asked.rtype)

-- ---- in answer to a question

-- The zone answers the question itself. Where there is no DS that is asked for, what is verified of NS at the name is true too: whether the
-- name is delegated is judged of the same answer.
pub record ShowsItself (a : Answers) (k : ℕ) (h : JudgeInput) (usable : List Dnskey) (read : Message) (mode : Mode) (rs : List HandedRr) : Type 0 where
  pub answered : in_place (zone_of h.apex rs) h.asked ≡ h.asked
  pub shows : Shows a k h usable read mode rs h.asked
  pub beside : h.asked.rtype ≡ 43 → verdict (zone_of h.apex rs) (optout_of mode) h.asked.name 43 ≡ NoType → strictly_above h.apex h.asked.name ≡ true
      → IsTruthful a k h usable read mode rs (asking h h.asked.name 2)

-- The zone answers another question in its place, by a CNAME or a DNAME that leads to one name, and the records of the answer suggest
-- that question. What is verified on the question itself is true too.
pub record ShowsAlias (a : Answers) (k : ℕ) (h : JudgeInput) (usable : List Dnskey) (read : Message) (mode : Mode) (rs : List HandedRr) : Type 0 where
  pub question : Asked
  pub hinted : alias_hint k h ≡ Some question
  pub name_is : low question.name ≡ low (in_place (zone_of h.apex rs) h.asked).name
  pub rtype_is : question.rtype ≡ (in_place (zone_of h.apex rs) h.asked).rtype
  pub leads : LeadsToOne (zone_of h.apex rs) h.asked
  pub hashes : HashesHold a.hash mode (zone_of h.apex rs) question.name
  pub shows : Shows a k h usable read mode rs question
  pub itself : IsTruthful a k h usable read mode rs h.asked

-- What is handed in shows what the zone of these records answers an allowed question, aliases among the records or not.
pub record IsShown (a : Answers) (k : ℕ) (h : JudgeInput) (mode : Mode) (rs : List HandedRr) : Type 0 where
  pub keys : ShowsKeys a k h.apex h.ds h.dnskey_bytes h.now
  pub read : Message
  pub reads : message k h.answer_bytes ≡ Ok read
  pub accepted : IsAcceptedWithAliases a.hash h.apex mode h.limit rs
  pub asked_is : IsQuestion h.asked
  pub allowed : is_allowed h.apex h.asked ≡ true
  pub hashes : HashesHold a.hash mode (zone_of h.apex rs) h.asked.name
  pub shown : ShowsItself a k h (usable_of keys) read mode rs ⊎ ShowsAlias a k h (usable_of keys) read mode rs
