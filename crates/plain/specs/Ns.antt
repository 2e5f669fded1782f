-- The data of NS records (RFC 1035, 3.3.11).
use Rattle.std.specs.Prelude.{ℕ, List}
use Rattle.definitions.specs.Name.{Name, wire, low}
use Rattle.plain.specs.declared.ns.Ns.{Ns}

-- the octets of NS data: the name, in full
abbrev pub ns_octets : {N : Type 0} → (N → Name) → Ns N → List ℕ
ns_octets name d = wire (name d.nsdname)

-- the octets of NS data in canonical form: the name in lower case (RFC 4034, 6.2)
abbrev pub ns_canonical : {N : Type 0} → (N → Name) → Ns N → List ℕ
ns_canonical name d = wire (low (name d.nsdname))
