use Rattle.std.proofs.Common.{ap, length, arith}
use Rattle.denial_nsec3_chain.proofs.Short.{bitmap_short}
use Rattle.denial_nsec3_chain.proofs.types.types_of.Goals as goal

pub returns-clause-short : goal.returns-clause-short
returns-clause-short g c = let b = c.finalize.ensures.built in omega (arith, ap length b.1, bitmap_short b.0)
