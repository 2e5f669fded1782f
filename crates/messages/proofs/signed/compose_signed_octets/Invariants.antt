use Rattle.std.proofs.Common.{◌≡◌, ◌++◌, take}
use Rattle.std.specs.List.{flat_map}
use Rattle.definitions.specs.Signing.{fields_data, signed_owner}
use Rattle.denial_data.specs.Protos.{fields_of}
use Rattle.messages.specs.Rrsig.{record_head, with_length}
use Rattle.messages.proofs.signed.compose_signed_octets.Given as goal

abbrev pub invariant-loop-data : goal.invariant-loop-data
invariant-loop-data g l =
    let f = fields_of g.N.Labels.name l.fields in
    let head = record_head (signed_owner f.labels l.owner) f.covered l.class f.ttl in
    l.out.items ≡ l.fn.out.items ++ (fields_data f ++ flat_map (λ v. head ++ with_length (g.Data.Octets.bytes v)) (take l.data-index l.canonical))
