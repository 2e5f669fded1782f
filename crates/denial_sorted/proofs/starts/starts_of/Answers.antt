use Rattle.std.proofs.Common.{None, arith}
use Rattle.denial_sorted.proofs.Moved.{few_starts}
use Rattle.denial_sorted.proofs.starts.starts_of.Goals as goal

pub fill-requires : goal.fill-requires
fill-requires g c = let few = few_starts g.K.Alike.alike None 0 c.args.items.now in omega (arith, c.in_ok-starts.ensures.exact)
