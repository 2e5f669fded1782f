-- Bytes that were given: they tell the RRsets of an answer, and spell each owner and each TTL as the zone has them.
use Rattle.std.specs.Prelude.{◌≡◌, ℕ, Bool, List, [], ◌∷◌, ◌++◌, Ok, if◌then◌else◌}
use Rattle.std.specs.List.{AllByRecursion, AllZip}
use Rattle.definitions.specs.Name.{Name, low}
use Rattle.definitions.specs.Dnskey.{Dnskey}
use Rattle.messages.specs.Written.{Written}
use Rattle.messages.specs.Message.{Message, Asked, Spelled, message}
use Rattle.answer_terms.specs.Served.{Served, ServedRrset, answer_groups, key_group, by_tag}
use Rattle.answer_terms.specs.Told.{AreRecords, AreSignatures, Tells}

-- a record keeps its own spelling of the owner, and its own TTL
pub record KeepsOwn (r : Spelled) (w : Written) : Type 0 where
  pub owner_is : r.owner ≡ w.owner
  pub ttl_is : r.ttl ≡ w.ttl

-- a signature has the TTL of its RRset (RFC 4034, 3)
abbrev pub HasTtl : ℕ → Spelled → Type 0
HasTtl ttl r = r.ttl ≡ ttl

-- the records of a message are these groups, each with its signatures behind it
abbrev pub AreGroups : (Dnskey → List ℕ → List ℕ → Bool) → ℕ → List ℕ → List Spelled → Name → ℕ → ℕ → List Dnskey → List ServedRrset → Type 0
AreGroups v k m rs apex at life keys [] = rs ≡ []
AreGroups v k m rs apex at life keys (g ∷ gs) =
    (own signatures rest : List Spelled) × (rs ≡ own ++ signatures ++ rest)
    × AreRecords k m own g g.datas
    × AreSignatures v k m signatures apex at life g (if g.signed then keys else [])
    × AreGroups v k m rest apex at life keys gs
    × AllZip KeepsOwn own g.written
    × AllByRecursion (HasTtl g.ttl) signatures

-- the bytes spell the groups in answer to a question, with signatures of these keys, made at a moment
pub record Gives (verifies : Dnskey → List ℕ → List ℕ → Bool) (k : ℕ) (apex : Name) (at life : ℕ) (keys : List Dnskey) (asked : Asked) (groups : List ServedRrset) (bytes : List ℕ) : Type 0 where
  pub read : Message
  pub reads : message k bytes ≡ Ok read
  pub name_is : low read.asked.name ≡ low asked.name
  pub rtype_is : read.asked.rtype ≡ asked.rtype
  pub class_is : read.asked.class ≡ asked.class
  pub groups_are : AreGroups verifies k bytes read.records apex at life keys groups

-- the DNSKEY answer of the keys that are present, with a TTL, signed by the KSK roles that sign
abbrev pub GivesKeys : (Dnskey → List ℕ → List ℕ → Bool) → ℕ → ℕ → Name → List Dnskey → List Dnskey → ℕ → ℕ → List ℕ → Type 0
GivesKeys v k ttl apex present signers at life bytes =
    Gives v k apex at life (by_tag signers) (record { name = apex; rtype = 48; class = 1 }) (key_group apex ttl present ∷ []) bytes

-- a zone answer, signed by these keys
abbrev pub GivesAnswer : (Dnskey → List ℕ → List ℕ → Bool) → ℕ → Served → Name → List Dnskey → ℕ → ℕ → Asked → List ℕ → Type 0
GivesAnswer v k s apex signers at life asked bytes =
    Gives v k apex at life (by_tag signers) asked (answer_groups s asked.name asked.rtype) bytes

-- what is given is told
abbrev pub GivenIsTold : Type 0
GivenIsTold = (verifies : Dnskey → List ℕ → List ℕ → Bool) (k : ℕ) (apex : Name) (at life : ℕ) (keys : List Dnskey) (asked : Asked) (groups : List ServedRrset) (bytes : List ℕ) → Gives verifies k apex at life keys asked groups bytes → Tells verifies k apex at life keys asked groups bytes
