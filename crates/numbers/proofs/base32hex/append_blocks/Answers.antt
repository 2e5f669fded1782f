use Rattle.std.proofs.Common.{◌++◌, ◌∙◌, ap}
use Rattle.definitions.specs.Base32hex.{base32hex}
use Rattle.numbers.proofs.Digits.{one_block, kept}
use Rattle.numbers.proofs.base32hex.append_blocks.Goals as goal

pub loop-rest-preserved : goal.loop-rest-preserved
loop-rest-preserved c =
    let more = c.in_ok-extend_from_slice.ensures.items in
    record {
      whole = one_block c.loop-rest.digits.items c.extend_from_slice.new.self.items c.loop-rest.rest.now c.split_at.result.0.now c.split_at.result.1.now (c.args.digits.now.items ++ base32hex c.args.octets.now)
          c.loop-rest-test.true c.split_at.ensures.front c.split_at.ensures.back (more ∙ ap (λ t. c.loop-rest.digits.items ++ t) c.block_digits.ensures) c.loop-rest.invariant.whole;
      stands = rw more (kept c.args.digits.now.items c.loop-rest.digits.items _ c.loop-rest.invariant.stands);
    }
