use Rattle.std.proofs.Common.{length}
use Rattle.names_labels.proofs.Relatives.{HasLabels}
use Rattle.names_labels.proofs.check.check_relative.Given as goal

abbrev pub invariant-loop-rest : goal.invariant-loop-rest
invariant-loop-rest l = HasLabels l.octets l.rest

abbrev pub decreases-loop-rest : goal.decreases-loop-rest
decreases-loop-rest l = length l.rest
