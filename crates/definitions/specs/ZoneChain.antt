-- The chain of a zone: its names in order, and the data of each name's record (RFC 4034, 4; RFC 5155, 3 and 7.1).
use Rattle.std.specs.Prelude.{ℕ, Bool, true, false, ◌&&◌, ◌==◌, List, [], ◌∷◌, ◌++◌, map, filter, length, if◌then◌else◌}
use Rattle.std.specs.List.{flat_map}
use Rattle.std.specs.Str.{bytes_eq}
use Rattle.std.specs.Int.{w16, to_be_bytes}
use Rattle.std.specs.declared.cmp.Ordering.{Ordering}
use Rattle.std.specs.Ordering.{nat_cmp}
use Rattle.std.specs.Cmp.Lexicographic.{slice_cmp}
use Rattle.definitions.specs.Sorting.{sort_by}
use Rattle.definitions.specs.Name.{Name, labels_eq, name_cmp, wire}
use Rattle.definitions.specs.Zone.{Rr, Zone, owner_of, apex_of, has, is_delegation, kept_owners, kept}
use Rattle.definitions.specs.Bitmap.{bitmap}

-- How a chain is made: whether the bits of the apex have DNSKEY; the algorithm, the iterations and the salt of its
-- hashes; the flag of opt-out in its records, and whether delegations without DS are left out where that flag is set
-- (RFC 5155, 3.1 and 6).
pub record ChainParameters : Type 0 where
  pub dnskey : Bool
  pub algorithm : ℕ
  pub iterations : ℕ
  pub salt : List ℕ
  pub opt_out : Bool
  pub excluding : Bool

-- delegations without DS are left out
abbrev pub excludes : ChainParameters → Bool
excludes p = p.excluding && p.opt_out

-- which chain a publisher's zone has; for NSEC3 its iterations, its salt and whether it opts out
pub data Mode : Type 0 where
  Nsec : Mode
  Nsec3 : ℕ → List ℕ → Bool → Mode

-- A publisher's zone is to have keys, its hashes are SHA-1, and opt-out excludes. An NSEC chain has no hashes.
abbrev pub parameters_of : Mode → ChainParameters
parameters_of Nsec = record { dnskey = true; algorithm = 0; iterations = 0; salt = []; opt_out = false; excluding = false }
parameters_of (Nsec3 iterations salt optout) = record {
  dnskey = true;
  algorithm = 1;
  iterations = iterations;
  salt = salt;
  opt_out = optout;
  excluding = true;
}

abbrev pub optout_of : Mode → Bool
optout_of mode = excludes (parameters_of mode)

-- a name and its ancestors
abbrev pub with_parents : Name → List Name
with_parents [] = [] ∷ []
with_parents (l ∷ n) = (l ∷ n) ∷ with_parents n

-- the owners of NSEC records: the live owners, in canonical order (RFC 4034, 4; RFC 4035, 2.3)
abbrev pub nsec_names : Zone → List Name
nsec_names z = sort_by name_cmp (kept_owners z false)

-- the names of NSEC3 records: the kept owners and the empty non-terminals above them (RFC 5155, 7.1)
abbrev pub nsec3_names : Zone → Bool → List Name
nsec3_names z excluding =
    sort_by name_cmp (filter (kept z excluding) (flat_map with_parents (kept_owners z excluding)))

-- the types at an owner
abbrev pub types_among : List Rr → Name → List ℕ
types_among rs o = map (λ r. r.rtype) (filter (λ r. labels_eq (owner_of r) o) rs)

abbrev pub types_at : Zone → Name → List ℕ
types_at z o = types_among z.records o

abbrev pub at_apex : Zone → Name → List ℕ → List ℕ
at_apex z o ts = if labels_eq o (apex_of z) then ts else []

-- the type of keys, where keys are to come
abbrev pub of_keys : Bool → List ℕ
of_keys dnskey = if dnskey then 48 ∷ [] else []

abbrev pub if_has : Zone → Name → ℕ → List ℕ
if_has z o t = if has z o t then t ∷ [] else []

-- the types of an NSEC record, with or without DNSKEY at the apex (RFC 4034, 4.1.2; RFC 4035, 2.3)
abbrev pub nsec_types : Zone → Bool → Name → List ℕ
nsec_types z dnskey o =
    if is_delegation z o then 2 ∷ if_has z o 43 ++ 46 ∷ 47 ∷ []
    else types_at z o ++ 46 ∷ 47 ∷ at_apex z o (of_keys dnskey)

-- the types of an NSEC3 record, with or without DNSKEY at the apex; none at an empty non-terminal (RFC 5155, 7.1)
abbrev pub nsec3_types : Zone → Bool → Name → List ℕ
nsec3_types z dnskey o =
    if is_delegation z o then 2 ∷ (if has z o 43 then 43 ∷ 46 ∷ [] else [])
    else let ts = types_at z o in
    if length ts == 0 then [] else ts ++ 46 ∷ at_apex z o (of_keys dnskey ++ 51 ∷ [])

-- each item with the one behind it, the last with the first
abbrev pub links : {A : Type 0} → A → List A → List (A × A)
links first [] = []
links first (a ∷ []) = (a, first) ∷ []
links first (a ∷ b ∷ bs) = (a, b) ∷ links first (b ∷ bs)

-- what stands behind an item
abbrev pub behind : {A : Type 0} → (A → A → Bool) → A → A → List (A × A) → A
behind eq d a [] = d
behind eq d a (l ∷ ls) = let later = behind eq d a ls in if eq a l.0 then l.1 else later

abbrev pub head_or : {A : Type 0} → A → List A → A
head_or d [] = d
head_or d (a ∷ xs) = a

-- the next name of a name's NSEC record (RFC 4034, 4.1.1)
abbrev pub nsec_next : Zone → Name → Name
nsec_next z o = behind labels_eq (apex_of z) o (links (apex_of z) (nsec_names z))

-- An NSEC record's data: the next name, as names of the zone are spelled, and the bits (RFC 4034, 4.1; RFC 6840, 5.1).
abbrev pub nsec_data : Zone → ChainParameters → (Name → Name) → Name → List ℕ
nsec_data z p spelled o = wire (spelled (nsec_next z o)) ++ bitmap (nsec_types z p.dnskey o)

-- hashes as octets
abbrev pub hash_cmp : List ℕ → List ℕ → Ordering
hash_cmp = slice_cmp nat_cmp

-- the names of NSEC3 records in order of their hashes, of names that share one the first (RFC 5155, 7.1)
abbrev pub hashed_names : (Name → List ℕ) → Zone → Bool → List Name
hashed_names hash z excluding = sort_by (λ a b. hash_cmp (hash a) (hash b)) (nsec3_names z excluding)

-- the hashes of the names of NSEC3 records, ascending
abbrev pub hashes : (Name → List ℕ) → Zone → Bool → List (List ℕ)
hashes hash z excluding = map hash (hashed_names hash z excluding)

-- the next hash of a name's NSEC3 record (RFC 5155, 3.1.7)
abbrev pub nsec3_next : (Name → List ℕ) → Zone → Bool → Name → List ℕ
nsec3_next hash z excluding o =
    let hs = hashes hash z excluding in
    behind bytes_eq [] (hash o) (links (head_or [] hs) hs)

-- the octet of flags (RFC 5155, 3.1.2)
abbrev pub flags_of : ChainParameters → ℕ
flags_of p = if p.opt_out then 1 else 0

-- an NSEC3 record's data (RFC 5155, 3.2)
abbrev pub nsec3_data : (Name → List ℕ) → Zone → ChainParameters → Name → List ℕ
nsec3_data hash z p o =
    let next = nsec3_next hash z (excludes p) o in
    p.algorithm ∷ flags_of p ∷ to_be_bytes w16 p.iterations ++ length p.salt ∷ p.salt
    ++ length next ∷ next ++ bitmap (nsec3_types z p.dnskey o)
