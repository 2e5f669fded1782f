-- Lower case changes no length of RRSIG data.
use Rattle.std.proofs.Common.{◌≡◌, ◌++◌, length, length-append, arith}
use Rattle.definitions.specs.Name.{Name, wire, low}
use Rattle.names_rdata.proofs.Lengths.{lower_as_long}
use Rattle.denial_data.specs.Protos.{numbers_octets}
use Rattle.denial_data.specs.RrsigData.{RrsigData, rrsig_octets, rrsig_canonical}

pub rrsig_as_long : {N : Type 0} (name : N → Name) (d : RrsigData N) → length (rrsig_canonical name d) ≡ length (rrsig_octets name d)
rrsig_as_long name d =
    let n = name d.proto.signer_name in
    let head = numbers_octets d.proto.numbers in
    omega (
      arith,
      lower_as_long n,
      length-append (wire (low n)) d.signature,
      length-append (wire n) d.signature,
      length-append head (wire (low n) ++ d.signature),
      length-append head (wire n ++ d.signature),
    )
