-- A parent that opts out, with two delegations, and a child with a CNAME, a DNAME and a wildcard.
use Rattle.std.specs.Prelude.{ℕ, true, false, List, [], ◌∷◌}
use Rattle.definitions.specs.Dnskey.{Dnskey, Ds}
use Rattle.definitions.specs.Name.{Name, wire}
use Rattle.definitions.specs.ZoneChain.{Nsec, Nsec3}
use Rattle.messages.specs.HandedRr.{HandedRr}
use Rattle.answer_judge.specs.Versions.{Version}
use Rattle.evidence_laws.specs.Truth.{SignedZone}

-- ---- names of labels of one letter

abbrev pub under : ℕ → Name → Name
under letter n = (letter ∷ []) ∷ n

-- p., and below it s.p. with DS records and u.p. without
abbrev pub p : Name
p = under 112 []

abbrev pub s : Name
s = under 115 p

abbrev pub u : Name
u = under 117 p

abbrev pub x_u : Name
x_u = under 120 u

-- of the child: an alias, a name that is redirected, its owner and where it leads to, a wildcard, and a name that this stands for
abbrev pub c_s : Name
c_s = under 99 s

abbrev pub d_s : Name
d_s = under 100 s

abbrev pub e_s : Name
e_s = under 101 s

abbrev pub y_d : Name
y_d = under 121 d_s

abbrev pub y_e : Name
y_e = under 121 e_s

abbrev pub star_e : Name
star_e = under 42 e_s

-- ---- keys of algorithm 13

abbrev pub key : List ℕ → Dnskey
key octets = record { flags = 257; protocol = 3; algorithm = 13; octets = octets }

-- the parent's, its tag 1086
abbrev pub parent_key : Dnskey
parent_key = key (0 ∷ 48 ∷ [])

-- The child's in a roll: both are present and sign the keys; DS names the old one alone, its tag 1054, and the tag of the new one is 1070.
abbrev pub old_key : Dnskey
old_key = key (0 ∷ 16 ∷ [])

abbrev pub new_key : Dnskey
new_key = key (0 ∷ 32 ∷ [])

-- digests by SHA-256
abbrev pub parent_digest : List ℕ
parent_digest = 233 ∷ 22 ∷ 115 ∷ 219 ∷ 234 ∷ 242 ∷ 12 ∷ 80 ∷ 9 ∷ 24 ∷ 246 ∷ 122 ∷ 30 ∷ 106 ∷ 85 ∷ 154 ∷ 52 ∷ 48 ∷ 83 ∷ 23 ∷ 237 ∷ 70 ∷ 56 ∷ 220 ∷ 181 ∷ 52 ∷ 25 ∷ 181 ∷ 98 ∷ 19 ∷ 206 ∷ 69 ∷ []

abbrev pub old_digest : List ℕ
old_digest = 214 ∷ 33 ∷ 121 ∷ 34 ∷ 64 ∷ 157 ∷ 203 ∷ 156 ∷ 253 ∷ 202 ∷ 86 ∷ 128 ∷ 205 ∷ 177 ∷ 225 ∷ 226 ∷ 138 ∷ 219 ∷ 102 ∷ 31 ∷ 33 ∷ 244 ∷ 208 ∷ 56 ∷ 60 ∷ 14 ∷ 247 ∷ 170 ∷ 103 ∷ 76 ∷ 130 ∷ 212 ∷ []

abbrev pub parent_ds : Ds
parent_ds = record { tag = 1086; algorithm = 13; digest_type = 2; digest = parent_digest }

abbrev pub child_ds : Ds
child_ds = record { tag = 1054; algorithm = 13; digest_type = 2; digest = old_digest }

-- ---- records

abbrev pub handed : Name → ℕ → List ℕ → HandedRr
handed owner t octets = record { owner = owner; class = 1; ttl = 3600; rtype = t; is_unknown = true; written = octets; bytes = octets }

-- the SOA record's server and keeper are the root, its serial number is 1, and its other numbers 0
abbrev pub soa_data : List ℕ
soa_data = 0 ∷ 0 ∷ 0 ∷ 0 ∷ 0 ∷ 1 ∷ 0 ∷ 0 ∷ 0 ∷ 0 ∷ 0 ∷ 0 ∷ 0 ∷ 0 ∷ 0 ∷ 0 ∷ 0 ∷ 0 ∷ 0 ∷ 0 ∷ 0 ∷ 0 ∷ []

abbrev pub soa : Name → HandedRr
soa apex = record (handed apex 6 soa_data) { is_unknown = false }

-- a delegation whose name server has its name
abbrev pub delegation : Name → HandedRr
delegation cut = record (handed cut 2 (wire cut)) { is_unknown = false }

-- the DS record, its tag 1054
abbrev pub ds_data : List ℕ
ds_data = 4 ∷ 30 ∷ 13 ∷ 2 ∷ old_digest

abbrev pub address : List ℕ
address = 192 ∷ 0 ∷ 2 ∷ 1 ∷ []

-- ---- the zones

-- a chain of hashes without iterations and salt, which opts out
abbrev pub parent_version : Version
parent_version = record { records = soa p ∷ delegation s ∷ handed s 43 ds_data ∷ delegation u ∷ []; mode = Nsec3 0 [] true; made = [] }

-- a chain of names
abbrev pub child_version : Version
child_version = record { records = soa s ∷ handed c_s 5 (wire y_d) ∷ handed d_s 39 (wire e_s) ∷ handed star_e 1 address ∷ []; mode = Nsec; made = [] }

abbrev pub parent : SignedZone
parent = record { apex = p; version = parent_version }

abbrev pub child : SignedZone
child = record { apex = s; version = child_version }

abbrev pub zones : List SignedZone
zones = parent ∷ child ∷ []
