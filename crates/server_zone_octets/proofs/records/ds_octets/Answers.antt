use Rattle.std.proofs.Common.{ap, ◌∙◌, arith}
use Rattle.std.specs.List.{flat_map}
use Rattle.std.proofs.lemmas.List.{take_all}
use Rattle.denial_keys.specs.Keys.{ds_data}
use Rattle.names_rdata.specs.Composing.{with_length}
use Rattle.server_zone_octets.proofs.records.ds_octets.Goals as goal

pub returns : goal.returns
returns c =
    let all = take_all c.loop-record.record-index c.args.set.now (omega (arith, c.loop-record-test.false)) in
    c.loop-record.invariant ∙ ap (flat_map (λ d. with_length (ds_data d))) all
