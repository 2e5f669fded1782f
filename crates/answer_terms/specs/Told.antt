-- What bytes tell: the RRsets of an answer, each with its signatures behind it, in whatever case owners are spelled, however
-- names are compressed, and whatever TTLs the records have. A judge sees no more of them.
use Rattle.std.specs.Prelude.{◌≡◌, ℕ, Bool, true, List, [], ◌∷◌, ◌++◌, Some, Ok, if◌then◌else◌}
use Rattle.definitions.specs.Name.{Name, low}
use Rattle.definitions.specs.Dnskey.{Dnskey}
use Rattle.definitions.specs.Signing.{Fields, lowered_signer, signed_octets}
use Rattle.messages.specs.Message.{Message, Asked, Spelled, message, canonical_data, rrsig_at}
use Rattle.answer_terms.specs.GroupView.{fields_of, view_of}
use Rattle.answer_terms.specs.Served.{Served, ServedRrset, answer_groups, key_group, by_tag}

-- a record of an RRset: owner up to case, class IN, and canonical data
pub record IsRecord (k : ℕ) (m : List ℕ) (r : Spelled) (owner : Name) (t : ℕ) (d : List ℕ) : Type 0 where
  pub owner_is : low r.owner ≡ low owner
  pub type_is : r.rtype ≡ t
  pub class_is : r.class ≡ 1
  pub data_is : canonical_data k m r ≡ Some d

abbrev pub AreRecords : ℕ → List ℕ → List Spelled → ServedRrset → List (List ℕ) → Type 0
AreRecords k m [] g [] = Unit {0}
AreRecords k m (r ∷ rs) g (d ∷ ds) = IsRecord k m r g.owner g.rtype d × AreRecords k m rs g ds
AreRecords k m [] g (d ∷ ds) = ⊥
AreRecords k m (r ∷ rs) g [] = ⊥

-- what a signature of one key says of a group, as it reads: all of it but the octets (RFC 4034, 3.1)
abbrev pub fields_for : Name → ℕ → ℕ → ServedRrset → Dnskey → Fields
fields_for apex at life g k = lowered_signer (fields_of apex at life (view_of g) k)

-- what it is made over
abbrev pub octets_for : Name → ℕ → ℕ → ServedRrset → Dnskey → List ℕ
octets_for apex at life g k = signed_octets (fields_for apex at life g k) g.owner 1 g.datas

-- a signature of a group by a key, which passes
pub record IsValidSignature (verifies : Dnskey → List ℕ → List ℕ → Bool) (k : ℕ) (m : List ℕ) (r : Spelled) (apex : Name) (at life : ℕ) (g : ServedRrset) (key : Dnskey) : Type 0 where
  pub signature : List ℕ
  pub owner_is : low r.owner ≡ low g.owner
  pub type_is : r.rtype ≡ 46
  pub class_is : r.class ≡ 1
  pub fields_are : rrsig_at k m r ≡ Some (fields_for apex at life g key, signature)
  pub passes : verifies key (octets_for apex at life g key) signature ≡ true

abbrev pub AreSignatures : (Dnskey → List ℕ → List ℕ → Bool) → ℕ → List ℕ → List Spelled → Name → ℕ → ℕ → ServedRrset → List Dnskey → Type 0
AreSignatures v k m [] apex at life g [] = Unit {0}
AreSignatures v k m (r ∷ rs) apex at life g (key ∷ keys) = IsValidSignature v k m r apex at life g key × AreSignatures v k m rs apex at life g keys
AreSignatures v k m [] apex at life g (key ∷ keys) = ⊥
AreSignatures v k m (r ∷ rs) apex at life g [] = ⊥

-- the records of a message tell these groups, each with its signatures behind it
abbrev pub TellsGroups : (Dnskey → List ℕ → List ℕ → Bool) → ℕ → List ℕ → List Spelled → Name → ℕ → ℕ → List Dnskey → List ServedRrset → Type 0
TellsGroups v k m rs apex at life keys [] = rs ≡ []
TellsGroups v k m rs apex at life keys (g ∷ gs) =
    (own signatures rest : List Spelled) × (rs ≡ own ++ signatures ++ rest)
    × AreRecords k m own g g.datas
    × AreSignatures v k m signatures apex at life g (if g.signed then keys else [])
    × TellsGroups v k m rest apex at life keys gs

-- the bytes tell the groups in answer to a question, with signatures of these keys, made at a moment
pub record Tells (verifies : Dnskey → List ℕ → List ℕ → Bool) (k : ℕ) (apex : Name) (at life : ℕ) (keys : List Dnskey) (asked : Asked) (groups : List ServedRrset) (bytes : List ℕ) : Type 0 where
  pub read : Message
  pub reads : message k bytes ≡ Ok read
  pub name_is : low read.asked.name ≡ low asked.name
  pub rtype_is : read.asked.rtype ≡ asked.rtype
  pub class_is : read.asked.class ≡ asked.class
  pub groups_are : TellsGroups verifies k bytes read.records apex at life keys groups

-- the DNSKEY answer of the keys that are present, with a TTL, signed by the KSK roles that sign
abbrev pub TellsKeys : (Dnskey → List ℕ → List ℕ → Bool) → ℕ → ℕ → Name → List Dnskey → List Dnskey → ℕ → ℕ → List ℕ → Type 0
TellsKeys v k ttl apex present signers at life bytes =
    Tells v k apex at life (by_tag signers) (record { name = apex; rtype = 48; class = 1 }) (key_group apex ttl present ∷ []) bytes

-- a zone answer, signed by these keys
abbrev pub TellsAnswer : (Dnskey → List ℕ → List ℕ → Bool) → ℕ → Served → Name → List Dnskey → ℕ → ℕ → Asked → List ℕ → Type 0
TellsAnswer v k s apex signers at life asked bytes =
    Tells v k apex at life (by_tag signers) asked (answer_groups s asked.name asked.rtype) bytes
