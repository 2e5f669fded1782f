use Rattle.std.proofs.Common.{length}
use Rattle.denial_laws.proofs.reference.facts.PlainLink.+closest.Given as goal

abbrev pub decreases-closest : goal.decreases-closest
decreases-closest l = length l.name.now
