use Rattle.std.proofs.Common.{length}
use Rattle.definitions.proofs.reference.zone.PlainZone.+kept_cut_above.Given as goal

abbrev pub decreases-kept_cut_above : goal.decreases-kept_cut_above
decreases-kept_cut_above l = length l.name.now
