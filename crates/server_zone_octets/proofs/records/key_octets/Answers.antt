use Rattle.std.proofs.Common.{ap, ◌∙◌, arith}
use Rattle.std.specs.List.{flat_map}
use Rattle.std.proofs.lemmas.List.{take_all}
use Rattle.definitions.specs.Dnskey.{dnskey_data}
use Rattle.names_rdata.specs.Composing.{with_length}
use Rattle.server_zone_octets.proofs.records.key_octets.Goals as goal

pub returns : goal.returns
returns c =
    let all = take_all c.loop-record.record-index c.args.set.now (omega (arith, c.loop-record-test.false)) in
    c.loop-record.invariant ∙ ap (flat_map (λ k. with_length (dnskey_data k))) all
