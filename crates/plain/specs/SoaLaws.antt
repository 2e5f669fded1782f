-- Lower case changes no length of SOA data.
use Rattle.std.proofs.Common.{◌≡◌, ◌++◌, length, length-append, arith}
use Rattle.definitions.specs.Name.{Name, wire, low}
use Rattle.names_rdata.proofs.Lengths.{lower_as_long}
use Rattle.plain.specs.Soa.{soa_octets, soa_canonical, times_octets}
use Rattle.plain.specs.declared.soa.Soa.{Soa}

pub soa_as_long : {N : Type 0} (name : N → Name) (d : Soa N) → length (soa_canonical name d) ≡ length (soa_octets name d)
soa_as_long name d =
    let m = name d.mname in
    let r = name d.rname in
    let t = times_octets d.times in
    omega (
      arith,
      lower_as_long m,
      lower_as_long r,
      length-append (wire (low m)) (wire (low r) ++ t),
      length-append (wire (low r)) t,
      length-append (wire m) (wire r ++ t),
      length-append (wire r) t,
    )
