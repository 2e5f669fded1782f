-- Messages that read alike: what may differ is what a judge does not see.
use Rattle.std.specs.Prelude.{◌≡◌, ℕ, Bool, List, Ok}
use Rattle.std.specs.List.{AllZip}
use Rattle.definitions.specs.Name.{Name, low}
use Rattle.definitions.specs.Dnskey.{Dnskey}
use Rattle.messages.specs.Message.{Message, Asked, Spelled, message, canonical_data, rrsig_at}
use Rattle.answer_terms.specs.Served.{ServedRrset}
use Rattle.answer_terms.specs.Told.{Tells}

-- records of two messages: alike are owners up to case, types, classes and data in canonical form, and what a signature's data
-- say; TTLs may be any
pub record IsLike (k : ℕ) (m n : List ℕ) (r s : Spelled) : Type 0 where
  pub owner_is : low r.owner ≡ low s.owner
  pub type_is : r.rtype ≡ s.rtype
  pub class_is : r.class ≡ s.class
  pub data_are : canonical_data k m r ≡ canonical_data k n s
  pub signature_is : r.rtype ≡ 46 → rrsig_at k m r ≡ rrsig_at k n s

-- both read, and their questions, up to case, and their records are alike, one by one
pub record ReadsAlike (k : ℕ) (m n : List ℕ) : Type 0 where
  pub one : Message
  pub other : Message
  pub reads_one : message k m ≡ Ok one
  pub reads_other : message k n ≡ Ok other
  pub name_is : low one.asked.name ≡ low other.asked.name
  pub rtype_is : one.asked.rtype ≡ other.asked.rtype
  pub class_is : one.asked.class ≡ other.asked.class
  pub records_are : AllZip (IsLike k m n) one.records other.records

-- what one of two such messages tells the other tells too
abbrev pub AlikeTellsAlike : Type 0
AlikeTellsAlike = (verifies : Dnskey → List ℕ → List ℕ → Bool) (k : ℕ) (apex : Name) (at life : ℕ) (keys : List Dnskey) (asked : Asked) (groups : List ServedRrset) (m n : List ℕ) → ReadsAlike k m n → Tells verifies k apex at life keys asked groups m → Tells verifies k apex at life keys asked groups n
