use Rattle.std.proofs.Common.{ap, ◌∙◌, arith}
use Rattle.std.proofs.lemmas.List.{take_all}
use Rattle.server_zone_octets.specs.Dues.{names_of}
use Rattle.server_zone_octets.proofs.due.names_of.Goals as goal

pub returns : goal.returns
returns c =
    let all = take_all c.loop-action.action-index c.args.actions.now (omega (arith, c.loop-action-test.false)) in
    c.loop-action.invariant ∙ ap names_of all
