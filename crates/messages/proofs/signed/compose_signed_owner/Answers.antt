use Rattle.std.proofs.Common.{arith, ◌<◌}
use Rattle.std.proofs.lemmas.Result.{on_ok_weaker}
use Rattle.definitions.specs.Signing.{label_count}
use Rattle.messages.proofs.SignOctets.{star_written}
use Rattle.messages.proofs.signed.compose_signed_owner.Goals as goal

pub returns : goal.returns
returns g c =
    let below : c.args.labels < label_count c.args.owner.now = omega arith in
    record { ok = on_ok_weaker c.compose_canonical-2.result (λ e. star_written c.args.labels c.from.result c.args.owner.now c.in_ok-source.source c.args.out.now.items _ _ below c.in_ok-extend_from_slice.ensures.items c.in_ok-source.ensures.labels c.from.ensures e) c.compose_canonical-2.ensures.ok }
