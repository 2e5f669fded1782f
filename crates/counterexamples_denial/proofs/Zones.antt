-- Small zones over `example`, and what their records are made from.
use Rattle.std.proofs.Common.{◌≡◌, ℕ, List, [], ◌∷◌, refl, arith}
use Rattle.std.specs.Prelude.{codes, Bool, None}
use Rattle.definitions.specs.Name.{Name, wire}
use Rattle.definitions.specs.Bitmap.{bitmap, octet_of, window_size, window_count}
use Rattle.definitions.specs.Zone.{Rr, Zone}
use Rattle.denial_laws.specs.Facts.{Link, HashLink, Facts}
use Rattle.denial_laws.specs.Truth.{IsServable}
use Rattle.denial_laws.proofs.AliasFree.{alias_free_orderly}

abbrev pub example : Name
example = codes "example" ∷ []

-- ---- records: the SOA record of the apex, an address, a delegation

abbrev pub rr : Name → ℕ → List ℕ → Rr
rr o t d = record { spelled = o; rtype = t; bytes = d }

abbrev pub soa : Rr
soa = rr example 6 (1 ∷ [])

abbrev pub address : Name → Rr
address o = rr o 1 (192 ∷ 0 ∷ 2 ∷ 1 ∷ [])

abbrev pub delegation : Name → Rr
delegation o = rr o 2 (0 ∷ [])

abbrev pub zone_of : List Rr → Zone
zone_of rs = record { name = example; records = rs }

-- ---- names

abbrev pub star : Name
star = codes "*" ∷ example

abbrev pub b : Name
b = codes "b" ∷ example

abbrev pub d : Name
d = codes "d" ∷ example

-- ---- bits: of SOA, of an address, of a delegation, by NSEC and by NSEC3

abbrev pub apex_bits : List ℕ
apex_bits = 0 ∷ 7 ∷ 2 ∷ 0 ∷ 0 ∷ 0 ∷ 0 ∷ 3 ∷ 128 ∷ []

pub apex_spelled : apex_bits ≡ bitmap (6 ∷ 46 ∷ 47 ∷ 48 ∷ [])
unfolding octet_of window_size window_count
apex_spelled = refl

abbrev pub address_bits : List ℕ
address_bits = 0 ∷ 6 ∷ 64 ∷ 0 ∷ 0 ∷ 0 ∷ 0 ∷ 3 ∷ []

pub address_spelled : address_bits ≡ bitmap (1 ∷ 46 ∷ 47 ∷ [])
unfolding octet_of window_size window_count
address_spelled = refl

abbrev pub delegation_bits : List ℕ
delegation_bits = 0 ∷ 6 ∷ 32 ∷ 0 ∷ 0 ∷ 0 ∷ 0 ∷ 3 ∷ []

pub delegation_spelled : delegation_bits ≡ bitmap (2 ∷ 46 ∷ 47 ∷ [])
unfolding octet_of window_size window_count
delegation_spelled = refl

abbrev pub hashed_apex_bits : List ℕ
hashed_apex_bits = 0 ∷ 7 ∷ 2 ∷ 0 ∷ 0 ∷ 0 ∷ 0 ∷ 2 ∷ 144 ∷ []

pub hashed_apex_spelled : hashed_apex_bits ≡ bitmap (6 ∷ 46 ∷ 48 ∷ 51 ∷ [])
unfolding octet_of window_size window_count
hashed_apex_spelled = refl

abbrev pub hashed_address_bits : List ℕ
hashed_address_bits = 0 ∷ 6 ∷ 64 ∷ 0 ∷ 0 ∷ 0 ∷ 0 ∷ 2 ∷ []

pub hashed_address_spelled : hashed_address_bits ≡ bitmap (1 ∷ 46 ∷ [])
unfolding octet_of window_size window_count
hashed_address_spelled = refl

abbrev pub hashed_delegation_bits : List ℕ
hashed_delegation_bits = 0 ∷ 1 ∷ 32 ∷ []

pub hashed_delegation_spelled : hashed_delegation_bits ≡ bitmap (2 ∷ [])
unfolding octet_of window_size window_count
hashed_delegation_spelled = refl

-- ---- facts

abbrev pub link : Name → Name → List ℕ → Link
link owner next bits = record { owner = owner; next = next; bits = bits }

-- a record of names whose hashes are their wire octets
abbrev pub hash_link : Bool → Name → Name → List ℕ → HashLink
hash_link opt_out owner next bits = record {
  owner = wire owner;
  next = wire next;
  bits = bits;
  opt_out = opt_out;
  iterations = 0;
  salt = [];
}

abbrev pub by_links : List Link → Facts
by_links ls = record { rrset = None; links = ls; hash_links = [] }

abbrev pub by_hashes : List HashLink → Facts
by_hashes ls = record { rrset = None; links = []; hash_links = ls }

-- ---- the zones

-- the apex alone
abbrev pub bare : Zone
bare = zone_of (soa ∷ [])

pub bare_served : IsServable bare
bare_served = record { apex = (0, omega arith, refl); typed = (omega arith, tt); ordinary = (refl, tt); real = (refl, tt); stars = (refl, tt); aliases = alias_free_orderly bare (refl, tt) }

-- a delegation
abbrev pub delegating : Zone
delegating = zone_of (soa ∷ delegation d ∷ [])

pub delegating_served : IsServable delegating
delegating_served = record { apex = (0, omega arith, refl); typed = (omega arith, (omega arith, tt)); ordinary = (refl, (refl, tt)); real = (refl, (refl, tt)); stars = (refl, (refl, tt)); aliases = alias_free_orderly delegating (refl, (refl, tt)) }

-- a wildcard
abbrev pub starred : Zone
starred = zone_of (soa ∷ address star ∷ [])

pub starred_served : IsServable starred
starred_served = record { apex = (0, omega arith, refl); typed = (omega arith, (omega arith, tt)); ordinary = (refl, (refl, tt)); real = (refl, (refl, tt)); stars = (refl, (refl, tt)); aliases = alias_free_orderly starred (refl, (refl, tt)) }

-- a wildcard, and a name beside it
abbrev pub beside : Zone
beside = zone_of (soa ∷ address star ∷ address b ∷ [])

pub beside_served : IsServable beside
beside_served = record { apex = (0, omega arith, refl); typed = (omega arith, (omega arith, (omega arith, tt))); ordinary = (refl, (refl, (refl, tt))); real = (refl, (refl, (refl, tt))); stars = (refl, (refl, (refl, tt))); aliases = alias_free_orderly beside (refl, (refl, (refl, tt))) }

-- a name below `b`
abbrev pub a_b : Name
a_b = codes "a" ∷ b

abbrev pub deep : Zone
deep = zone_of (soa ∷ address a_b ∷ [])

pub deep_served : IsServable deep
deep_served = record { apex = (0, omega arith, refl); typed = (omega arith, (omega arith, tt)); ordinary = (refl, (refl, tt)); real = (refl, (refl, tt)); stars = (refl, (refl, tt)); aliases = alias_free_orderly deep (refl, (refl, tt)) }

-- Three names that stand in another order by their wire octets: in canonical order the first is below `a`, the others below
-- `b`, where the shorter label is the greater.
abbrev pub star_a : Name
star_a = codes "*" ∷ codes "a" ∷ example

abbrev pub aa_b : Name
aa_b = codes "aa" ∷ b

abbrev pub b_b : Name
b_b = codes "b" ∷ b

abbrev pub crossed : Zone
crossed = zone_of (soa ∷ address star_a ∷ address aa_b ∷ address b_b ∷ [])

pub crossed_served : IsServable crossed
crossed_served = record {
  apex = (0, omega arith, refl);
  typed = (omega arith, (omega arith, (omega arith, (omega arith, tt))));
  ordinary = (refl, (refl, (refl, (refl, tt))));
  real = (refl, (refl, (refl, (refl, tt))));
  stars = (refl, (refl, (refl, (refl, tt))));
  aliases = alias_free_orderly crossed (refl, (refl, (refl, (refl, tt))));
}
