-- What is verified in bytes that tell a zone's answer: the zone's own facts, up to case.
use Rattle.std.specs.Prelude.{◌≡◌, ℕ, ◌<◌, Bool, true, ◌&&◌, ◌==◌, List, Contains, Some}
use Rattle.std.specs.List.{AllByRecursion, find}
use Rattle.definitions.specs.Name.{IsName}
use Rattle.definitions.specs.Dnskey.{Dnskey, key_tag}
use Rattle.definitions.specs.ZoneChain.{Mode}
use Rattle.denial_laws.specs.OwnFacts.{own_facts}
use Rattle.messages.specs.Handed.{IsHanded}
use Rattle.messages.specs.HandedRr.{HandedRr}
use Rattle.messages.specs.Message.{Asked}
use Rattle.answer_terms.specs.Accepting.{sorted_records, zone_of}
use Rattle.answer_terms.specs.Accepted.{IsAccepted}
use Rattle.answer_terms.specs.Hashing.{hash_in}
use Rattle.answer_terms.specs.Asking.{is_allowed}
use Rattle.answer_terms.specs.FactsCase.{low_facts}
use Rattle.answer_terms.specs.Served.{answer_groups, served_of}
use Rattle.answer_terms.specs.Told.{Tells}
use Rattle.answer_judge.specs.Meeting.{holds}
use Rattle.answer_judge_facts.specs.Verified.{Trusting, verified_facts}

-- a key has the tag and the algorithm of another
abbrev pub passes_for : Dnskey → Dnskey → Bool
passes_for signer k = (key_tag k == key_tag signer) && (k.algorithm == signer.algorithm)

-- Bytes tell the answer of an accepted zone to an allowed question; one of the keys that sign it is the first trusted key of
-- its tag and algorithm, and the signatures hold. Iterations are numbers of 16 bits (RFC 5155, 3.1.3).
pub record TellsZone (w : Trusting) (k : ℕ) (mode : Mode) (rs : List HandedRr) (asked : Asked) (bytes : List ℕ) : Type 0 where
  pub limit : ℕ
  pub at : ℕ
  pub life : ℕ
  pub keys : List Dnskey
  pub signer : Dnskey
  pub apex_is : IsName w.apex
  pub records_are : AllByRecursion IsHanded rs
  pub accepted : IsAccepted w.answers.hash w.apex mode limit rs
  pub short_limit : limit < 65536
  pub allowed : is_allowed w.apex asked ≡ true
  pub told : Tells w.answers.verifies k w.apex at life keys asked (answer_groups (served_of w.apex mode (hash_in w.answers.hash mode) (sorted_records rs)) asked.name asked.rtype) bytes
  pub signs : Contains keys signer
  pub found : find (passes_for signer) w.keys ≡ Some signer
  pub hold : holds at life w.now ≡ true

-- Whatever is asked, what is verified in them are the facts of the zone's own answer, up to the case of the names in links.
abbrev pub ToldFactsAreOwn : Type 0
ToldFactsAreOwn =
    (w : Trusting) (k : ℕ) (mode : Mode) (rs : List HandedRr) (asked : Asked) (bytes : List ℕ)
    → (t : TellsZone w k mode rs asked bytes)
    → low_facts (verified_facts w k bytes t.told.read.records asked.name asked.rtype) ≡ own_facts (zone_of w.apex rs) (hash_in w.answers.hash mode) mode asked.name asked.rtype
