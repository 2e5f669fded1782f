use Rattle.std.proofs.Common.{◌≡◌, take}
use Rattle.std.specs.List.{flat_map}
use Rattle.denial_keys.specs.Keys.{ds_data}
use Rattle.names_rdata.specs.Composing.{with_length}
use Rattle.server_zone_octets.proofs.records.ds_octets.Given as goal

abbrev pub invariant-loop-record : goal.invariant-loop-record
invariant-loop-record l = l.octets.items ≡ flat_map (λ d. with_length (ds_data d)) (take l.record-index l.set)
