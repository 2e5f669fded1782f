use Rattle.std.proofs.Common.{◌≡◌}
use Rattle.denial_bitmap.specs.Types.{bits_from}
use Rattle.denial_bitmap.proofs.iter.first_bit.Given as goal

abbrev pub invariant-loop-bit : goal.invariant-loop-bit
invariant-loop-bit l = bits_from l.octets l.place ≡ bits_from l.octets l.bit
