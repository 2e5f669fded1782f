use Rattle.std.proofs.Common.{◌≡◌, take}
use Rattle.std.specs.List.{flat_map}
use Rattle.definitions.specs.Dnskey.{dnskey_data}
use Rattle.names_rdata.specs.Composing.{with_length}
use Rattle.server_zone_octets.proofs.records.key_octets.Given as goal

abbrev pub invariant-loop-record : goal.invariant-loop-record
invariant-loop-record l = l.octets.items ≡ flat_map (λ k. with_length (dnskey_data k)) (take l.record-index l.set)
