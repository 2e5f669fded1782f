-- Lower case changes no length of NS data.
use Rattle.std.proofs.Common.{◌≡◌, length}
use Rattle.definitions.specs.Name.{Name}
use Rattle.names_rdata.proofs.Lengths.{lower_as_long}
use Rattle.plain.specs.Ns.{ns_octets, ns_canonical}
use Rattle.plain.specs.declared.ns.Ns.{Ns}

pub ns_as_long : {N : Type 0} (name : N → Name) (d : Ns N) → length (ns_canonical name d) ≡ length (ns_octets name d)
ns_as_long name d = lower_as_long (name d.nsdname)
