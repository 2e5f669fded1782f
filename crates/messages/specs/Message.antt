-- Messages by the field layout of RFC 1035, 4: one question, and the records of all sections in order. The
-- first argument is how many pointers may be followed in a name.
use Rattle.std.specs.Prelude.{ℕ, zero, suc, ◌+◌, ◌*◌, ◌<◌, Bool, true, false, ◌&&◌, List, [], ◌∷◌, ◌++◌, length, Option, Some, None, Result, Ok, Err, slice_get, slice_range, slice_index, nat_le, nat_eq}
use Rattle.std.specs.List.{AllByRecursion}
use Rattle.definitions.specs.Name.{Name, wire, low}
use Rattle.definitions.specs.Signing.{Fields}
use Rattle.definitions.specs.Bitmap.{is_bitmap}
use Rattle.definitions.specs.Reading.{ReadFault, Short, Malformed, name_at}
use Rattle.messages.specs.declared.error.MessageError.{MessageError}
use Rattle.messages.specs.declared.error.MessageError.TheVariants.{ShortInput, Form, NotOneQuestion}

-- what is asked for (RFC 1035, 4.1.2)
pub record Asked : Type 0 where
  pub name : Name
  pub rtype : ℕ
  pub class : ℕ

-- a record as spelled; its data are a number of octets of the message from a place on (RFC 1035, 4.1.3)
pub record Spelled : Type 0 where
  pub owner : Name
  pub rtype : ℕ
  pub class : ℕ
  pub ttl : ℕ
  pub start : ℕ
  pub length : ℕ

pub record Message : Type 0 where
  pub asked : Asked
  pub records : List Spelled

-- numbers that are octets
abbrev pub AreOctets : List ℕ → Type 0
AreOctets m = AllByRecursion (λ x. x < 256) m

infixl 10 ◌>>=◌
abbrev pub ◌>>=◌ : {A B : Type 0} → Result A MessageError → (A → Result B MessageError) → Result B MessageError
(Ok x) >>= f = f x
(Err e) >>= f = Err e

abbrev pub octet_at : List ℕ → ℕ → Result ℕ MessageError
octet_at m p = elim (slice_get m p) [ None ↦ Err ShortInput | Some b ↦ Ok b ]

-- numbers stand with the highest octet first (RFC 1035, 2.3.2): 16 bits in two octets, 32 bits in two such numbers
abbrev pub of_octets : ℕ → ℕ → ℕ
of_octets a b = a * 256 + b

abbrev pub of_pairs : ℕ → ℕ → ℕ
of_pairs a b = a * 65536 + b

-- a number that may not be there
abbrev pub u16_at : List ℕ → ℕ → Result ℕ MessageError
u16_at m p = do
  a ← octet_at m p
  b ← octet_at m (p + 1)
  Ok (of_octets a b)

abbrev pub u32_at : List ℕ → ℕ → Result ℕ MessageError
u32_at m p = do
  a ← u16_at m p
  b ← u16_at m (p + 2)
  Ok (of_pairs a b)

abbrev pub fault_of : ReadFault → MessageError
fault_of Short = ShortInput
fault_of Malformed = Form

-- a name and the place behind it
unfoldable pub owner_at : ℕ → List ℕ → ℕ → Result (Name × ℕ) MessageError
owner_at k m p = elim (name_at k m p) [ Ok r ↦ Ok r | Err f ↦ Err (fault_of f) ]

abbrev pub asked_at : ℕ → List ℕ → ℕ → Result (Asked × ℕ) MessageError
asked_at k m p = do
  n ← owner_at k m p
  t ← u16_at m n.1
  c ← u16_at m (n.1 + 2)
  Ok (record { name = n.0; rtype = t; class = c }, n.1 + 4)

-- a number of octets from a place on are there
abbrev pub within : List ℕ → ℕ → ℕ → Result ℕ MessageError
within m p len = elim (nat_le (p + len) (length m)) [ true ↦ Ok (p + len) | false ↦ Err ShortInput ]

abbrev pub record_at : ℕ → List ℕ → ℕ → Result (Spelled × ℕ) MessageError
record_at k m p = do
  n ← owner_at k m p
  t ← u16_at m n.1
  c ← u16_at m (n.1 + 2)
  ttl ← u32_at m (n.1 + 4)
  len ← u16_at m (n.1 + 8)
  e ← within m (n.1 + 10) len
  Ok (record { owner = n.0; rtype = t; class = c; ttl = ttl; start = n.1 + 10; length = len }, e)

abbrev pub records_at : ℕ → ℕ → List ℕ → ℕ → Result (List Spelled) MessageError
records_at zero k m p = Ok []
records_at (suc n) k m p = do
  r ← record_at k m p
  rs ← records_at n k m r.1
  Ok (r.0 ∷ rs)

abbrev pub one_question : ℕ → Result ℕ MessageError
one_question n = elim (nat_eq n 1) [ true ↦ Ok n | false ↦ Err NotOneQuestion ]

-- the header is read first; its flags take no part, nor do octets behind the last counted record
abbrev pub message : ℕ → List ℕ → Result Message MessageError
message k m = do
  questions ← u16_at m 4
  answers ← u16_at m 6
  authority ← u16_at m 8
  additional ← u16_at m 10
  only ← one_question questions
  q ← asked_at k m 12
  rs ← records_at (answers + authority + additional) k m q.1
  Ok (record { asked = q.0; records = rs })

-- the octets of a record's data
abbrev pub data_of : List ℕ → Spelled → List ℕ
data_of m r = slice_range m r.start (r.start + r.length)

abbrev pub if_true : {A : Type 0} → Bool → A → Option A
if_true true x = Some x
if_true false x = None

-- numbers within octets that are there
abbrev pub pair : List ℕ → ℕ → ℕ
pair m p = of_octets (slice_index m p) (slice_index m (p + 1))

abbrev pub quad : List ℕ → ℕ → ℕ
quad m p = of_pairs (pair m p) (pair m (p + 2))

abbrev pub rrsig_fields : List ℕ → ℕ → Name → Fields
rrsig_fields m s signer = record { covered = pair m s; algorithm = slice_index m (s + 2); labels = slice_index m (s + 3); ttl = quad m (s + 4); expiration = quad m (s + 8); inception = quad m (s + 12); tag = pair m (s + 16); signer = signer }

-- the place behind a record's data
abbrev pub behind : Spelled → ℕ
behind r = r.start + r.length

-- a name from a place on, and the place behind it, no further than a limit; what a pointer leads to may lie anywhere
abbrev pub name_upto : ℕ → List ℕ → ℕ → ℕ → Option (Name × ℕ)
name_upto k m p limit = elim (owner_at k m p) [ Err e ↦ None | Ok n ↦ if_true (nat_le n.1 limit) n ]

-- a name within a record's data, which the message has
abbrev pub name_in : ℕ → List ℕ → Spelled → ℕ → Option (Name × ℕ)
name_in k m r p = elim (nat_le (behind r) (length m)) [ false ↦ None | true ↦ name_upto k m p (behind r) ]

-- octets of data, names written out, are at most as many as their length can say (RFC 1035, 3.2.1)
abbrev pub fits : List ℕ → Bool
fits octets = nat_le (length octets) 65535

-- A signature's fields, its signer in canonical form, and its octets (RFC 4034, 3.1); None where the data are no
-- signature.
abbrev pub rrsig_at : ℕ → List ℕ → Spelled → Option (Fields × List ℕ)
rrsig_at k m r = elim (nat_le 18 r.length) [
  | false ↦ None
  | true ↦ elim (name_in k m r (r.start + 18)) [
    | None ↦ None
    | Some signer ↦
        let signature = slice_range m signer.1 (behind r) in
        if_true (fits (slice_range m r.start (r.start + 18) ++ (wire signer.0 ++ signature))) (rrsig_fields m r.start (low signer.0), signature)
  ]
]

-- the canonical data of an NS record: one name and nothing else (RFC 1035, 3.3.11), lowered
abbrev pub ns_data : ℕ → List ℕ → Spelled → Option (List ℕ)
ns_data k m r = elim (name_in k m r r.start) [ None ↦ None | Some n ↦ if_true (nat_eq n.1 (behind r)) (wire (low n.0)) ]

-- the canonical data of an SOA record: two names and five numbers (RFC 1035, 3.3.13), the names lowered
abbrev pub soa_data : ℕ → List ℕ → Spelled → Option (List ℕ)
soa_data k m r = elim (name_in k m r r.start) [
  | None ↦ None
  | Some n ↦ elim (name_in k m r n.1) [
    | None ↦ None
    | Some o ↦ if_true (nat_eq (o.1 + 20) (behind r)) (wire (low n.0) ++ wire (low o.0) ++ slice_range m o.1 (behind r))
  ]
]

-- the next name of an NSEC record, as spelled, and the octets of its bitmap (RFC 4034, 4.1)
abbrev pub nsec_at : ℕ → List ℕ → Spelled → Option (Name × List ℕ)
nsec_at k m r = elim (name_in k m r r.start) [
  | None ↦ None
  | Some n ↦ let bits = slice_range m n.1 (behind r) in if_true (is_bitmap bits && fits (wire n.0 ++ bits)) (n.0, bits)
]

-- the canonical data of an NSEC record, whose next name isn't lowered (RFC 6840, 5.1)
abbrev pub nsec_data : ℕ → List ℕ → Spelled → Option (List ℕ)
nsec_data k m r = elim (nsec_at k m r) [ None ↦ None | Some n ↦ Some (wire n.0 ++ n.1) ]

-- what the data of an NSEC3 record say: how names are hashed, the flags, the next hash and the octets of the bitmap
-- (RFC 5155, 3.1)
pub record HashedNext : Type 0 where
  pub algorithm : ℕ
  pub flags : ℕ
  pub iterations : ℕ
  pub salt : List ℕ
  pub next : List ℕ
  pub bits : List ℕ

-- octets as NSEC3 data, the salt up to one place and the next hash up to another (RFC 5155, 3.2)
abbrev pub hashed_next : List ℕ → ℕ → ℕ → HashedNext
hashed_next d salt_end next_end = record {
  algorithm = slice_index d 0;
  flags = slice_index d 1;
  iterations = pair d 2;
  salt = slice_range d 5 salt_end;
  next = slice_range d (salt_end + 1) next_end;
  bits = slice_range d next_end (length d);
}

abbrev pub next_of : List ℕ → ℕ → Option HashedNext
next_of d salt_end = elim (nat_le (salt_end + 1) (length d)) [
  | false ↦ None
  | true ↦
      let next_end = salt_end + 1 + slice_index d salt_end in
      elim (nat_le next_end (length d)) [
        | false ↦ None
        | true ↦ if_true (is_bitmap (slice_range d next_end (length d))) (hashed_next d salt_end next_end)
      ]
]

-- salt and next hash each stand behind their length
abbrev pub nsec3_of : List ℕ → Option HashedNext
nsec3_of d = elim (nat_le 5 (length d)) [ false ↦ None | true ↦ next_of d (5 + slice_index d 4) ]

abbrev pub nsec3_at : List ℕ → Spelled → Option HashedNext
nsec3_at m r = nsec3_of (data_of m r)

-- the canonical data of an NSEC3 record, which are the data as they stand, since they have no names
abbrev pub nsec3_data : List ℕ → Spelled → Option (List ℕ)
nsec3_data m r = elim (nsec3_at m r) [ None ↦ None | Some n ↦ Some (data_of m r) ]

-- Canonical data (RFC 4034, 6.2; RFC 6840, 5.1): names written out, and lowered where the type asks for it; None
-- where an SOA, NS, NSEC or NSEC3 record's data do not read as their type's. Data of other types are their octets.
abbrev pub canonical_data : ℕ → List ℕ → Spelled → Option (List ℕ)
canonical_data k m r =
    elim (nat_eq r.rtype 2) [
      | true ↦ ns_data k m r
      | false ↦ elim (nat_eq r.rtype 6) [
        | true ↦ soa_data k m r
        | false ↦ elim (nat_eq r.rtype 47) [
          | true ↦ nsec_data k m r
          | false ↦ elim (nat_eq r.rtype 50) [ true ↦ nsec3_data m r | false ↦ Some (data_of m r) ]
        ]
      ]
    ]
