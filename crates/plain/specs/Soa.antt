-- The data of SOA and NS records (RFC 1035, 3.3.13 and 3.3.11).
use Rattle.std.specs.Prelude.{ℕ, List, ◌++◌}
use Rattle.std.specs.Int.{w32, to_be_bytes}
use Rattle.definitions.specs.Name.{Name, wire, low}
use Rattle.names_rdata.specs.Reading.{Part, name_part, octets_part, two_parts}
use Rattle.plain.specs.declared.soa.Soa.{Soa}
use Rattle.plain.specs.declared.soa.Times.{Times}

-- the octets of the five numbers, of 32 bits each
abbrev pub times_octets : Times → List ℕ
times_octets t = to_be_bytes w32 t.serial ++ (to_be_bytes w32 t.refresh ++ (to_be_bytes w32 t.retry ++ (to_be_bytes w32 t.expire ++ to_be_bytes w32 t.minimum)))

-- the octets of SOA data: two names, in full, and the numbers
abbrev pub soa_octets : {N : Type 0} → (N → Name) → Soa N → List ℕ
soa_octets name s = wire (name s.mname) ++ (wire (name s.rname) ++ times_octets s.times)

-- the octets of SOA data in canonical form: names in lower case (RFC 4034, 6.2)
abbrev pub soa_canonical : {N : Type 0} → (N → Name) → Soa N → List ℕ
soa_canonical name s = wire (low (name s.mname)) ++ (wire (low (name s.rname)) ++ times_octets s.times)

-- the part of data that is SOA data: two names, and twenty octets
abbrev pub soa_part : Part
soa_part = two_parts name_part (two_parts name_part (octets_part 20))
