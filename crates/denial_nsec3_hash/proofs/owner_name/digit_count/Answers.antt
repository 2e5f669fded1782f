use Rattle.std.proofs.Common.{arith}
use Rattle.denial_nsec3_hash.proofs.Digits.{digits_least, digits_most}
use Rattle.denial_nsec3_hash.proofs.owner_name.digit_count.Goals as goal

pub returns : goal.returns
returns c = omega (arith, c.div_ceil.ensures, digits_least c.args.hash.now, digits_most c.args.hash.now)
