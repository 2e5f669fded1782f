-- What is written reads back, whatever stands before and behind it.
use Rattle.std.specs.Prelude.{◌≡◌, ℕ, ◌+◌, ◌<◌, ◌≤◌, List, [], ◌∷◌, ◌++◌, length, true, Ok, Some}
use Rattle.std.specs.Int.{w16, to_be_bytes}
use Rattle.std.specs.List.{AllByRecursion, AllZip}
use Rattle.definitions.specs.Name.{Name, IsName, wire, wire_len, low}
use Rattle.definitions.specs.Bitmap.{is_bitmap}
use Rattle.definitions.specs.Signing.{Fields}
use Rattle.definitions.specs.Limits.{pointer_limit}
use Rattle.messages.specs.Message.{Asked, HashedNext, Spelled, owner_at, message, data_of, rrsig_at, ns_data, soa_data, nsec_data, nsec3_of, nsec3_data}
use Rattle.messages.specs.Rrsig.{rrsig_data}
use Rattle.messages.specs.Written.{Written, message_octets}

-- a name reads back, whatever number of pointers may be followed
abbrev pub NamesReadBack : Type 0
NamesReadBack = (pointers : ℕ) (n : Name) (before behind : List ℕ) → IsName n → owner_at pointers (before ++ (wire n ++ behind)) (length before) ≡ Ok (n, length before + wire_len n)

-- a question whose fields hold what it says (RFC 1035, 4.1.2)
pub record IsQuestion (q : Asked) : Type 0 where
  pub name : IsName q.name
  pub rtype : q.rtype < 65536
  pub class : q.class < 65536

-- a record whose fields hold what it says (RFC 1035, 4.1.3)
pub record IsRecord (r : Written) : Type 0 where
  pub owner : IsName r.owner
  pub rtype : r.rtype < 65536
  pub class : r.class < 65536
  pub ttl : r.ttl < 4294967296
  pub octets : length r.octets < 65536

-- a record that is written at a place; its data stand behind ten octets of numbers
abbrev pub spelled_at : ℕ → Written → Spelled
spelled_at p r = record { owner = r.owner; rtype = r.rtype; class = r.class; ttl = r.ttl; start = p + wire_len r.owner + 10; length = length r.octets }

-- records that are written one behind another, from a place on
abbrev pub spelled_from : ℕ → List Written → List Spelled
spelled_from p [] = []
spelled_from p (r ∷ rs) = spelled_at p r ∷ spelled_from (p + wire_len r.owner + 10 + length r.octets) rs

-- where the first record stands: behind the header and the question
abbrev pub first_place : Asked → ℕ
first_place q = 12 + wire_len q.name + 4

-- the sections of a message to be written, whose counts hold them
pub record AreSections (answers authority : List Written) : Type 0 where
  pub answers_are : AllByRecursion IsRecord answers
  pub authority_are : AllByRecursion IsRecord authority
  pub answers_fit : length answers < 65536
  pub authority_fit : length authority < 65536

-- a reading gives the records, and their data as they were written
pub record ReadsBack (m : List ℕ) (asked : Asked) (records : List Written) : Type 0 where
  pub reads : message pointer_limit m ≡ Ok (record { asked = asked; records = spelled_from (first_place asked) records })
  pub octets : AllZip (λ s r. data_of m s ≡ r.octets) (spelled_from (first_place asked) records) records

abbrev pub MessagesReadBack : Type 0
MessagesReadBack = (flags : ℕ) (asked : Asked) (answers authority : List Written) → IsQuestion asked → AreSections answers authority → ReadsBack (message_octets flags asked answers authority) asked (answers ++ authority)

-- fields that a signature's record holds as they are (RFC 4034, 3.1)
pub record AreFields (f : Fields) : Type 0 where
  pub covered : f.covered < 65536
  pub ttl : f.ttl < 4294967296
  pub expiration : f.expiration < 4294967296
  pub inception : f.inception < 4294967296
  pub tag : f.tag < 65536
  pub signer : IsName f.signer

-- a signature's data read as its fields, the signer in canonical form, and its octets
abbrev pub SignaturesReadBack : Type 0
SignaturesReadBack = (f : Fields) (signature before behind : List ℕ) (r : Spelled) → AreFields f → length (rrsig_data f signature) ≤ 65535 → r.start ≡ length before → r.length ≡ length (rrsig_data f signature)
    → rrsig_at pointer_limit (before ++ (rrsig_data f signature ++ behind)) r ≡ Some (record f { signer = low f.signer }, signature)

-- an NSEC3 record's data as written: salt and next hash each behind their length (RFC 5155, 3.2)
abbrev pub hashed_octets : HashedNext → List ℕ
hashed_octets n = n.algorithm ∷ n.flags ∷ to_be_bytes w16 n.iterations ++ length n.salt ∷ n.salt ++ length n.next ∷ n.next ++ n.bits

-- The data of NS, SOA and NSEC records, written with their names uncompressed, read as their canonical form: the names
-- of the first two lowered (RFC 4034, 6.2; RFC 6840, 5.1). NSEC3 data read as what they say, and as they stand.
pub record DataReadBack : Type 0 where
  pub ns : (n : Name) (before behind : List ℕ) (r : Spelled) → IsName n → r.start ≡ length before → r.length ≡ length (wire n)
      → ns_data pointer_limit (before ++ (wire n ++ behind)) r ≡ Some (wire (low n))
  pub soa : (mname rname : Name) (numbers before behind : List ℕ) (r : Spelled) → IsName mname → IsName rname → length numbers ≡ 20 → r.start ≡ length before → r.length ≡ length (wire mname ++ wire rname ++ numbers)
      → soa_data pointer_limit (before ++ (wire mname ++ wire rname ++ numbers ++ behind)) r ≡ Some (wire (low mname) ++ wire (low rname) ++ numbers)
  pub nsec : (next : Name) (bits before behind : List ℕ) (r : Spelled) → IsName next → is_bitmap bits ≡ true → length (wire next ++ bits) ≤ 65535 → r.start ≡ length before → r.length ≡ length (wire next ++ bits)
      → nsec_data pointer_limit (before ++ (wire next ++ bits ++ behind)) r ≡ Some (wire next ++ bits)
  pub nsec3 : (n : HashedNext) (before behind : List ℕ) (r : Spelled) → n.iterations < 65536 → is_bitmap n.bits ≡ true → r.start ≡ length before → r.length ≡ length (hashed_octets n)
      → (nsec3_of (hashed_octets n) ≡ Some n) × (nsec3_data (before ++ (hashed_octets n ++ behind)) r ≡ Some (hashed_octets n))
