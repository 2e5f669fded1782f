use Rattle.std.proofs.Common.{◌∙◌, ap, sym, arith}
use Rattle.std.specs.Int.{w64, to_le_bytes}
use Rattle.names_labels.proofs.Tails.{eight_more}
use Rattle.names_labels.proofs.order.common_eights.Goals as goal

pub loop-count-preserved : goal.loop-count-preserved
loop-count-preserved c =
    eight_more c.args.octets.now c.args.others.now c.loop-count.count c.loop-count.invariant (omega (arith, c.loop-count-test.true, c.min-most.ensures)) (omega (arith, c.loop-count-test.true, c.min-most.ensures))
    (sym c.eight_at.ensures ∙ ap (to_le_bytes w64) c.if-eight_at.false ∙ c.eight_at-in-loop-count.ensures)
