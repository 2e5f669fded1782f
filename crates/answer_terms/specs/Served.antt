-- What a zone is served with, and what an answer holds (RFC 4035, 3.1; RFC 5155, 7.2).
use Rattle.std.specs.Prelude.{ℕ, ◌-◌, Bool, true, false, ◌&&◌, ◌||◌, ◌==◌, List, [], ◌∷◌, ◌++◌, map, filter, length, drop, Some, None, if◌then◌else◌, min, nat_lt}
use Rattle.std.specs.List.{list_any}
use Rattle.std.specs.Int.{w32, from_be_bytes}
use Rattle.std.specs.Ordering.{nat_cmp}
use Rattle.std.specs.Cmp.Lexicographic.{slice_cmp}
use Rattle.std.specs.Str.{bytes_eq}
use Rattle.definitions.specs.Sorting.{sort_by}
use Rattle.definitions.specs.Name.{Name, low, labels_eq}
use Rattle.definitions.specs.Zone.{Zone, apex_of, Verdict, verdict, Records, NoType, NoName, StarRecords, StarNoType, Delegated, Open, Unsigned, cut, ce, star_under, has, data_at}
use Rattle.definitions.specs.Covering.{covers, hash_covers}
use Rattle.definitions.specs.Base32hex.{base32hex}
use Rattle.definitions.specs.Dnskey.{Dnskey, dnskey_data, key_tag}
use Rattle.definitions.specs.ZoneChain.{Mode, Nsec, Nsec3, parameters_of, optout_of, nsec_names, hashed_names, nsec_next, nsec_data, nsec3_data, nsec3_next}
use Rattle.denial_laws.specs.OwnFacts as own
use Rattle.messages.specs.HandedRr.{HandedRr}
use Rattle.messages.specs.Written.{Written}
use Rattle.answer_terms.specs.Accepting.{zone_with, soas}

-- A zone, its chain's mode and hash, the TTL and the spelling of an owner and a type, which their signatures have, the
-- records of an owner and a type as they are written, and how next names are spelled.
pub record Served : Type 0 where
  pub zone : Zone
  pub mode : Mode
  pub hash : Name → List ℕ
  pub ttl_of : Name → ℕ → ℕ
  pub owner_of : Name → ℕ → Name
  pub written_of : Name → ℕ → List Written
  pub spelled : Name → Name

-- the TTL of the first record of an owner and a type
abbrev pub ttl_among : List HandedRr → Name → ℕ → ℕ
ttl_among [] o t = 0
ttl_among (r ∷ rs) o t = if labels_eq (low r.owner) o && (r.rtype == t) then r.ttl else ttl_among rs o t

-- the minimum of an SOA record, its last four octets (RFC 1035, 3.3.13)
abbrev pub minimum_of : List ℕ → ℕ
minimum_of bytes = from_be_bytes w32 (drop (length bytes - 4) bytes)

-- the TTL of the chain: the lesser of the SOA record's own and its minimum (RFC 9077, 3)
abbrev pub chain_ttl_of : List HandedRr → ℕ
chain_ttl_of [] = 0
chain_ttl_of (r ∷ rs) = min r.ttl (minimum_of r.bytes)

abbrev pub chain_ttl : Name → List HandedRr → ℕ
chain_ttl apex sorted = chain_ttl_of (soas apex sorted)

abbrev pub served_ttl : Name → List HandedRr → Name → ℕ → ℕ
served_ttl apex sorted o t = if (t == 47) || (t == 50) then chain_ttl apex sorted else ttl_among sorted o t

-- the owner of the first record of a name
abbrev pub spelled_among : List HandedRr → Name → Name
spelled_among [] o = o
spelled_among (r ∷ rs) o = if labels_eq (low r.owner) o then r.owner else spelled_among rs o

-- the owner of the first record of an owner and a type
abbrev pub owner_among : List HandedRr → Name → ℕ → Name
owner_among [] o t = o
owner_among (r ∷ rs) o t = if labels_eq (low r.owner) o && (r.rtype == t) then r.owner else owner_among rs o t

-- a record of the chain has the owner of the first record of its name
abbrev pub served_owner : List HandedRr → Name → ℕ → Name
served_owner sorted o t = if (t == 47) || (t == 50) then spelled_among sorted o else owner_among sorted o t

-- a record of class IN
abbrev pub written_rr : Name → ℕ → ℕ → List ℕ → Written
written_rr owner t ttl octets = record { owner = owner; rtype = t; class = 1; ttl = ttl; octets = octets }

-- a record as it was handed in: owner and data as spelled, its own TTL
abbrev pub written_of_handed : HandedRr → Written
written_of_handed r = written_rr r.owner r.rtype r.ttl r.written

-- the records of an owner and a type, in canonical order
abbrev pub written_among : List HandedRr → Name → ℕ → List Written
written_among sorted o t = map written_of_handed (filter (λ r. labels_eq (low r.owner) o && (r.rtype == t)) sorted)

-- the same records under another owner
abbrev pub written_under : Name → Written → Written
written_under owner w = record w { owner = owner }

-- as the first record of the name in canonical order; the apex as it was handed in
abbrev pub spelled_as : Name → List HandedRr → Name → Name
spelled_as apex sorted o = if labels_eq (low apex) o then apex else spelled_among sorted o

-- how records in canonical order are served
abbrev pub served_of : Name → Mode → (Name → List ℕ) → List HandedRr → Served
served_of apex mode hash sorted = record {
  zone = zone_with apex sorted;
  mode = mode;
  hash = hash;
  ttl_of = served_ttl apex sorted;
  owner_of = served_owner sorted;
  written_of = written_among sorted;
  spelled = spelled_as apex sorted;
}

-- An RRset of an answer: the owner and the TTL of its signatures, the owner that its label count is of, its records as
-- they are written, each with an owner and a TTL of its own, in canonical order, its canonical data in order, and whether
-- it is signed.
pub record ServedRrset : Type 0 where
  pub owner : Name
  pub source : Name
  pub rtype : ℕ
  pub ttl : ℕ
  pub written : List Written
  pub datas : List (List ℕ)
  pub signed : Bool

abbrev pub rrset : Served → Name → ℕ → ServedRrset
rrset s o t = record { owner = s.owner_of o t; source = o; rtype = t; ttl = s.ttl_of o t; written = s.written_of o t; datas = data_at s.zone o t; signed = true }

-- an RRset whose records stand under one owner, as it is asked for (RFC 4592, 3.3.3)
abbrev pub under : Name → ServedRrset → ServedRrset
under owner g = record g { owner = owner; written = map (written_under owner) g.written }

-- an RRset that is written in canonical form; without a record there is nothing to sign
abbrev pub canonical_group : Name → Name → ℕ → ℕ → List (List ℕ) → ServedRrset
canonical_group owner source t ttl ds = record {
  owner = owner;
  source = source;
  rtype = t;
  ttl = ttl;
  written = map (written_rr owner t ttl) ds;
  datas = ds;
  signed = nat_lt 0 (length ds);
}

abbrev pub soa : Served → ServedRrset
soa s = rrset s (apex_of s.zone) 6

-- the TTL of the DNSKEY RRset, that of the SOA record
abbrev pub keys_ttl : Served → ℕ
keys_ttl s = s.ttl_of (apex_of s.zone) 6

-- the record of a name of the chain
abbrev pub chain_record : Served → Name → ServedRrset
chain_record s o = elim s.mode [
  | Nsec ↦ canonical_group (s.owner_of o 47) o 47 (s.ttl_of o 47) (nsec_data s.zone (parameters_of Nsec) s.spelled o ∷ [])
  | Nsec3 iterations salt optout ↦
      let h = base32hex (s.hash o) ∷ s.spelled (apex_of s.zone) in
      canonical_group h h 50 (s.ttl_of o 50) (nsec3_data s.hash s.zone (parameters_of s.mode) o ∷ [])
]

-- the names of the chain in canonical order of their records' owners
abbrev pub chain_names : Served → List Name
chain_names s = elim s.mode [
  | Nsec ↦ nsec_names s.zone
  | Nsec3 iterations salt optout ↦ hashed_names s.hash s.zone optout
]

-- the record of one name of the chain matches or covers another name
abbrev pub speaks_for : Served → Name → Name → Bool
speaks_for s o q = elim s.mode [
  | Nsec ↦ labels_eq o q || covers (apex_of s.zone) o (nsec_next s.zone o) q
  | Nsec3 iterations salt optout ↦ bytes_eq (s.hash o) (s.hash q) || hash_covers (s.hash o) (nsec3_next s.hash s.zone optout o) (s.hash q)
]

-- the chain's records that speak for one of some names, each once
abbrev pub proofs_of : Served → List Name → List ServedRrset
proofs_of s qs = map (chain_record s) (filter (λ o. list_any (speaks_for s o) qs) (chain_names s))

-- the names that the proof of a verdict speaks of, beside the verdict without opt-out (RFC 4035, 3.1.3; RFC 5155, 7.2)
abbrev pub spoken : Served → Name → Verdict → Verdict → List Name
spoken s q told v = own.spoken s.zone s.mode q told v

abbrev pub unsigned_ns : Served → Name → List ServedRrset
unsigned_ns s c = record (rrset s c 2) { signed = false } ∷ []

abbrev pub if_any : Served → Name → ℕ → List ServedRrset
if_any s c t = if has s.zone c t then rrset s c t ∷ [] else []

-- the RRset of a wildcard, as it stands under a name (RFC 4592, 3.3.3)
abbrev pub expanded : Served → Name → Name → ℕ → List ServedRrset
expanded s star q t = under q (rrset s star t) ∷ []

-- what stands before the chain's records
abbrev pub ahead_open : Served → Name → ℕ → Verdict → List ServedRrset
ahead_open s q t (StarRecords ds) = elim (ce s.zone (low q)) [ None ↦ [] | Some e ↦ expanded s (star_under e) q t ]
ahead_open s q t _ = elim (cut s.zone (low q)) [
  | None ↦ soa s ∷ []
  | Some c ↦ if labels_eq c (low q) && (t == 43) then soa s ∷ [] else unsigned_ns s c
]

abbrev pub ahead : Served → Name → ℕ → Verdict → List ServedRrset
ahead s q t (Records ds) = under q (rrset s (low q) t) ∷ []
ahead s q t NoType = soa s ∷ []
ahead s q t NoName = soa s ∷ []
ahead s q t (StarRecords ds) = elim (ce s.zone (low q)) [ None ↦ [] | Some e ↦ expanded s (star_under e) q t ]
ahead s q t StarNoType = soa s ∷ []
ahead s q t Delegated = elim (cut s.zone (low q)) [ None ↦ [] | Some c ↦ unsigned_ns s c ++ if_any s c 43 ]
ahead s q t Open = ahead_open s q t (verdict s.zone false q t)
ahead s q t Unsigned = []

-- the RRsets of the answer to a question, in order
abbrev pub answer_groups : Served → Name → ℕ → List ServedRrset
answer_groups s q t =
    let v = verdict s.zone (optout_of s.mode) q t in
    ahead s q t v ++ proofs_of s (spoken s (low q) (verdict s.zone false q t) v)

-- the data of some keys, in canonical order
abbrev pub key_data : List Dnskey → List (List ℕ)
key_data ks = sort_by (slice_cmp nat_cmp) (map dnskey_data ks)

-- the DNSKEY RRset of some keys at the apex: without a key no record and no signature
abbrev pub key_group : Name → ℕ → List Dnskey → ServedRrset
key_group apex ttl ks = canonical_group apex apex 48 ttl (key_data ks)

-- keys in order of tag
abbrev pub by_tag : List Dnskey → List Dnskey
by_tag ks = sort_by (λ a b. nat_cmp (key_tag a) (key_tag b)) ks
