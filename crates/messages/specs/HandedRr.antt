-- Records as they are handed in.
use Rattle.std.specs.Prelude.{ℕ, Bool, true, false, ◌&&◌, ◌||◌, ◌==◌, List, [], ◌∷◌, nat_eq, nat_le}
use Rattle.std.specs.List.{list_any}
use Rattle.std.specs.Str.{bytes_eq}
use Rattle.definitions.specs.Name.{Name, IsName}
use Rattle.plain.specs.ZoneData.{zone_type, zone_octets, zone_canonical}
use Rattle.plain.specs.declared.record.Record.{Record}
use Rattle.plain.specs.declared.zone_data.ZoneRecordData.{ZoneRecordData}
use Rattle.plain.specs.declared.zone_data.ZoneRecordData.TheVariants.{Soa, Ns, Unknown}

-- a record as handed in: its data as spelled and in canonical form, and whether they are of an unknown type
pub record HandedRr : Type 0 where
  pub owner : Name
  pub class : ℕ
  pub ttl : ℕ
  pub rtype : ℕ
  pub is_unknown : Bool
  pub written : List ℕ
  pub bytes : List ℕ

abbrev pub among : List ℕ → ℕ → Bool
among ts t = list_any (nat_eq t) ts

-- types that no zone holds (RFC 6895, 3.1), numbers of more than 16 bits, and data of NS or SOA that are given as unknown ones
abbrev pub is_meta : HandedRr → Bool
is_meta r = (r.rtype == 0) || (r.rtype == 41) || (nat_le 128 r.rtype && nat_le r.rtype 255) || nat_le 65536 r.rtype || (r.is_unknown && among (2 ∷ 6 ∷ []) r.rtype)

-- a label is a star
abbrev pub has_star : Name → Bool
has_star n = list_any (bytes_eq (42 ∷ [])) n

abbrev pub is_unknown : {O N : Type 0} → ZoneRecordData O N → Bool
is_unknown (Unknown d) = true
is_unknown _ = false

-- data as spelled, and in canonical form (RFC 4034, 6.2)
abbrev pub written_of : {O : Type 0} → ZoneRecordData O Name → List ℕ
written_of d = zone_octets (λ n. n) d

abbrev pub canonical_of : {O : Type 0} → ZoneRecordData O Name → List ℕ
canonical_of d = zone_canonical (λ n. n) d

-- the names in data are names
abbrev pub HasNames : {O : Type 0} → ZoneRecordData O Name → Type 0
HasNames (Soa s) = IsName s.mname × IsName s.rname
HasNames (Ns d) = IsName d.nsdname
HasNames (Unknown u) = Unit {0}

-- a record as handed in
abbrev pub handed_of : {O : Type 0} → Record Name (ZoneRecordData O Name) → HandedRr
handed_of r = record {
  owner = r.owner;
  class = r.class;
  ttl = r.ttl;
  rtype = zone_type r.content;
  is_unknown = is_unknown r.content;
  written = written_of r.content;
  bytes = canonical_of r.content;
}
