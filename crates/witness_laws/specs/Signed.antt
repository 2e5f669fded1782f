-- How the records of the zones are signed, and spelled in messages. A signature is the octets of its key and what it is made over.
use Rattle.std.specs.Prelude.{ℕ, Bool, true, List, [], ◌∷◌, ◌++◌, length}
use Rattle.std.specs.Int.{w16, w32, to_be_bytes}
use Rattle.std.specs.List.{flat_map}
use Rattle.std.specs.Str.{bytes_eq}
use Rattle.definitions.specs.Base32hex.{base32hex}
use Rattle.definitions.specs.Bitmap.{bitmap}
use Rattle.definitions.specs.Dnskey.{Dnskey, dnskey_data, key_tag}
use Rattle.definitions.specs.Name.{Name, wire}
use Rattle.definitions.specs.Signing.{Fields, fields_data, label_count, signed_octets}
use Rattle.answer_judge_facts.specs.Times.{Times}
use Rattle.answer_judge_table.specs.Table.{Checked, Tried, checked, tried}
use Rattle.witness_laws.specs.Zones.{c_s, d_s, e_s, new_key, old_key, p, parent_key, s, star_e, y_d, address, ds_data}

-- ---- signatures

-- before the roll's second step, and behind it
abbrev pub early : Times
early = record { inception = 1000; expiration = 2000 }

abbrev pub late : Times
late = record { inception = 1200; expiration = 2200 }

-- an RRset, under the owner by whose labels it is signed, with who signs it and when
pub record Rrset : Type 0 where
  pub source : Name
  pub rtype : ℕ
  pub datas : List (List ℕ)
  pub apex : Name
  pub times : Times

abbrev pub fields : Dnskey → Rrset → Fields
fields k x = record {
  covered = x.rtype;
  algorithm = 13;
  labels = label_count x.source;
  ttl = 3600;
  expiration = x.times.expiration;
  inception = x.times.inception;
  tag = key_tag k;
  signer = x.apex;
}

-- what a signature is made over, and its octets
abbrev pub signed : Dnskey → Rrset → List ℕ
signed k x = signed_octets (fields k x) x.source 1 x.datas

abbrev pub signature : Dnskey → Rrset → List ℕ
signature k x = k.octets ++ signed k x

-- such signatures pass
abbrev pub passes : Tried → Bool
passes t = bytes_eq t.signature (t.key.octets ++ t.octets)

-- an entry of one that passes
abbrev pub passing : Dnskey → Rrset → Checked
passing k x = checked (tried k (signed k x) (signature k x)) true

-- ---- RRsets

abbrev pub rrset : Name → Times → Name → ℕ → List (List ℕ) → Rrset
rrset apex times owner t datas = record { source = owner; rtype = t; datas = datas; apex = apex; times = times }

abbrev pub parent_keys : Rrset
parent_keys = rrset p early p 48 (dnskey_data parent_key ∷ [])

abbrev pub child_keys : Rrset
child_keys = rrset s early s 48 (dnskey_data old_key ∷ dnskey_data new_key ∷ [])

abbrev pub child_ds_set : Rrset
child_ds_set = rrset p early s 43 (ds_data ∷ [])

-- the hashes of p. and s.p. by SHA-1
abbrev pub hash_p : List ℕ
hash_p = 3 ∷ 68 ∷ 246 ∷ 155 ∷ 136 ∷ 83 ∷ 83 ∷ 192 ∷ 53 ∷ 168 ∷ 215 ∷ 195 ∷ 74 ∷ 64 ∷ 111 ∷ 90 ∷ 63 ∷ 170 ∷ 95 ∷ 230 ∷ []

abbrev pub hash_s : List ℕ
hash_s = 153 ∷ 76 ∷ 106 ∷ 171 ∷ 49 ∷ 237 ∷ 81 ∷ 219 ∷ 159 ∷ 145 ∷ 45 ∷ 149 ∷ 59 ∷ 74 ∷ 68 ∷ 235 ∷ 246 ∷ 49 ∷ 206 ∷ 109 ∷ []

-- NSEC3 data with opt-out, no iterations and no salt
abbrev pub nsec3 : List ℕ → List ℕ → List ℕ
nsec3 next types = 1 ∷ 1 ∷ 0 ∷ 0 ∷ 0 ∷ 20 ∷ next ++ bitmap types

abbrev pub hashed_p : Rrset
hashed_p = rrset p early (base32hex hash_p ∷ p) 50 (nsec3 hash_s (6 ∷ 46 ∷ 48 ∷ 51 ∷ []) ∷ [])

abbrev pub hashed_s : Rrset
hashed_s = rrset p early (base32hex hash_s ∷ p) 50 (nsec3 hash_p (2 ∷ 43 ∷ 46 ∷ []) ∷ [])

-- the alias is signed by the old key, before the step; the others by the new key, behind it
abbrev pub alias : Rrset
alias = rrset s early c_s 5 (wire y_d ∷ [])

abbrev pub redirect : Times → Rrset
redirect times = rrset s times d_s 39 (wire e_s ∷ [])

abbrev pub wildcard : Times → Rrset
wildcard times = rrset s times star_e 1 (address ∷ [])

-- the NSEC record of the wildcard, the last of the chain
abbrev pub last_data : List ℕ
last_data = wire s ++ bitmap (1 ∷ 46 ∷ 47 ∷ [])

abbrev pub last_link : Times → Rrset
last_link times = rrset s times star_e 47 (last_data ∷ [])

-- ---- messages

-- a record, class IN, TTL 3600
abbrev pub rr : Name → ℕ → List ℕ → List ℕ
rr owner t d = wire owner ++ to_be_bytes w16 t ++ to_be_bytes w16 1 ++ to_be_bytes w32 3600 ++ to_be_bytes w16 (length d) ++ d

-- a signature of an RRset, under an owner
abbrev pub rrsig : Name → Dnskey → Rrset → List ℕ
rrsig owner k x = rr owner 46 (fields_data (fields k x) ++ signature k x)

-- OPT with DO (RFC 6891, 6.1.2; RFC 3225)
abbrev pub opt : List ℕ
opt = 0 ∷ 0 ∷ 41 ∷ 4 ∷ 208 ∷ 0 ∷ 0 ∷ 128 ∷ 0 ∷ 0 ∷ 0 ∷ []

-- a response to a question for a name and a type: the flags' octets, records of its answer and authority sections, and OPT
abbrev pub response : ℕ → Name → ℕ → List (List ℕ) → List (List ℕ) → List ℕ
response flags name t answers authority =
    0 ∷ 0 ∷ flags ∷ 0 ∷ 0 ∷ 1 ∷ to_be_bytes w16 (length answers) ++ to_be_bytes w16 (length authority) ++ 0 ∷ 1
    ∷ (wire name ++ to_be_bytes w16 t ++ to_be_bytes w16 1 ++ flat_map (λ r. r) answers ++ flat_map (λ r. r) authority ++ opt)
