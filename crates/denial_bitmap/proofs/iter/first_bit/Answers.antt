use Rattle.std.proofs.Common.{sym, ◌∙◌}
use Rattle.denial_bitmap.proofs.Stepping.{bit_set, bit_clear}
use Rattle.denial_bitmap.proofs.iter.first_bit.Goals as goal

pub returns-then-has_bit-clause-some : goal.returns-then-has_bit-clause-some
returns-then-has_bit-clause-some c = c.loop-bit.invariant ∙ bit_set c.args.octets.now c.loop-bit.bit c.loop-bit-test.true (sym c.has_bit.ensures ∙ c.if-has_bit.true)

pub loop-bit-preserved : goal.loop-bit-preserved
loop-bit-preserved c = c.loop-bit.invariant ∙ bit_clear c.args.octets.now c.loop-bit.bit c.loop-bit-test.true (sym c.has_bit.ensures ∙ c.if-has_bit.false)
