-- What signatures of a message verify (RFC 4035, 5.3).
use Rattle.std.specs.Prelude.{ℕ, Bool, true, false, ◌&&◌, ◌==◌, List, [], length, Option, Some, None, ◌∷◌, nat_lt}
use Rattle.std.specs.List.{filter_map, list_any}
use Rattle.std.specs.Option.{option_map}
use Rattle.definitions.specs.Name.{Name, same, at_or_above}
use Rattle.definitions.specs.Dnskey.{Dnskey}
use Rattle.definitions.specs.Zone.{sorted_data}
use Rattle.answer_judge_keys.specs.HashOwner.{hash_spelled, spells_hash}
use Rattle.answer_scheme.specs.Answers.{Answers}
use Rattle.answer_judge_keys.specs.Trusted.{is_signature, signs}
use Rattle.denial_laws.specs.Facts.{Facts, HashLink, Link, Rrset}
use Rattle.denial_laws.specs.NsecRules.{first_some}
use Rattle.definitions.specs.Signing.{Fields}
use Rattle.messages.specs.Message.{HashedNext, Spelled, canonical_data, nsec3_at, nsec3_of, nsec_at, rrsig_at}

-- the canonical data of a record of an owner, up to case, and a type, class IN
abbrev pub datum_of : ℕ → List ℕ → Name → ℕ → Spelled → Option (List ℕ)
datum_of k m owner t r = elim ((r.class == 1) && (r.rtype == t) && same r.owner owner) [ true ↦ canonical_data k m r | false ↦ None ]

-- the RRset of an owner and a type: what reads, ascending, each once
abbrev pub rrset_in : ℕ → List ℕ → List Spelled → Name → ℕ → List (List ℕ)
rrset_in k m rs owner t = sorted_data (filter_map (datum_of k m owner t) rs)

-- what is verified with: a scheme's answers, the apex, the keys that may sign, and the moment
pub record Trusting : Type 0 where
  pub answers : Answers
  pub apex : Name
  pub keys : List Dnskey
  pub now : ℕ

-- a record is a signature of the owner and the type, and verifies these data
abbrev pub verifies_with : Trusting → ℕ → List ℕ → Name → ℕ → List (List ℕ) → Spelled → Bool
verifies_with w k m owner t items r = elim (is_signature r && (r.class == 1) && same r.owner owner) [
  | false ↦ false
  | true ↦ elim (rrsig_at k m r) [ None ↦ false | Some f ↦ (f.0.covered == t) && signs w.answers w.apex w.keys w.now owner items f.0 f.1 ]
]

-- one of the records verifies them
abbrev pub is_verified : Trusting → ℕ → List ℕ → List Spelled → Name → ℕ → List (List ℕ) → Bool
is_verified w k m rs owner t items = list_any (verifies_with w k m owner t items) rs

-- the fields that a record's signature gives of these data, where it verifies them
abbrev pub verified_with : Trusting → ℕ → List ℕ → Name → ℕ → List (List ℕ) → Spelled → Option Fields
verified_with w k m owner t items r = elim (verifies_with w k m owner t items r) [
  | true ↦ option_map (λ f. f.0) (rrsig_at k m r)
  | false ↦ None
]

-- those of the first record that verifies them, in the order of the message
abbrev pub verified_by : Trusting → ℕ → List ℕ → List Spelled → Name → ℕ → List (List ℕ) → Option Fields
verified_by w k m rs owner t items = first_some (verified_with w k m owner t items) rs

-- the RRset that was asked for, where it is verified, with the label count of the first signature that verifies it
abbrev pub verified_rrset : Trusting → ℕ → List ℕ → List Spelled → Name → ℕ → Option Rrset
verified_rrset w k m rs owner t =
    let items = rrset_in k m rs owner t in
    option_map (λ f. record { datas = items; labels = f.labels }) (verified_by w k m rs owner t items)

-- an NSEC record of class IN at or below the apex, the only one of its RRset, which is verified
abbrev pub is_link : Trusting → ℕ → List ℕ → List Spelled → Spelled → Bool
is_link w k m rs r =
    (r.rtype == 47) && (r.class == 1) && at_or_above w.apex r.owner && (length (rrset_in k m rs r.owner 47) == 1)
    && is_verified w k m rs r.owner 47 (rrset_in k m rs r.owner 47)

-- its owner and what its data say (RFC 4034, 4.1)
abbrev pub link_of : ℕ → List ℕ → Spelled → Option Link
link_of k m r = option_map (λ n. record { owner = r.owner; next = n.0; bits = n.1 }) (nsec_at k m r)

abbrev pub link_at : Trusting → ℕ → List ℕ → List Spelled → Spelled → Option Link
link_at w k m rs r = elim (is_link w k m rs r) [ true ↦ link_of k m r | false ↦ None ]

-- the links that a message proves, in order
abbrev pub verified_links : Trusting → ℕ → List ℕ → List Spelled → List Link
verified_links w k m rs = filter_map (link_at w k m rs) rs

-- SHA-1, and no flag but that of opt-out: other records are as if they weren't there (RFC 5155, 8.1 and 8.2)
abbrev pub is_known : HashedNext → Bool
is_known n = (n.algorithm == 1) && nat_lt n.flags 2

abbrev pub is_known_datum : List ℕ → Bool
is_known_datum d = elim (nsec3_of d) [ None ↦ false | Some n ↦ is_known n ]

-- an RRset of one record, which is known
abbrev pub one_known : List (List ℕ) → Bool
one_known (d ∷ []) = is_known_datum d
one_known _ = false

-- An owner that spells a hash, whose NSEC3 RRset is one record that is known.
abbrev pub is_hash_alone : ℕ → List ℕ → Name → List Spelled → Name → Bool
is_hash_alone k m apex rs owner = spells_hash apex owner && one_known (rrset_in k m rs owner 50)

-- an NSEC3 record of class IN, the only one of its RRset, which is verified
abbrev pub is_hash_link : Trusting → ℕ → List ℕ → List Spelled → Spelled → Bool
is_hash_link w k m rs r =
    (r.rtype == 50) && (r.class == 1) && is_hash_alone k m w.apex rs r.owner
    && is_verified w k m rs r.owner 50 (rrset_in k m rs r.owner 50)

-- the hash that its owner spells, and what its data say (RFC 5155, 3.1)
abbrev pub hash_link_with : Name → HashedNext → HashLink
hash_link_with owner n = record {
  owner = hash_spelled owner;
  next = n.next;
  bits = n.bits;
  opt_out = n.flags == 1;
  iterations = n.iterations;
  salt = n.salt;
}

abbrev pub hash_link_at : Trusting → ℕ → List ℕ → List Spelled → Spelled → Option HashLink
hash_link_at w k m rs r = elim (is_hash_link w k m rs r) [ true ↦ option_map (hash_link_with r.owner) (nsec3_at m r) | false ↦ None ]

-- the links of a chain of hashes that a message proves, in order
abbrev pub verified_hash_links : Trusting → ℕ → List ℕ → List Spelled → List HashLink
verified_hash_links w k m rs = filter_map (hash_link_at w k m rs) rs

-- all facts of a message on a question
abbrev pub verified_facts : Trusting → ℕ → List ℕ → List Spelled → Name → ℕ → Facts
verified_facts w k m rs q t = record {
  rrset = verified_rrset w k m rs q t;
  links = verified_links w k m rs;
  hash_links = verified_hash_links w k m rs;
}
