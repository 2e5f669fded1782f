use Rattle.witness_laws.proofs.Looping.{has_loop}
use Rattle.witness_laws.proofs.evidence.some_loop_is_over_a_tree.Goals as goal

pub returns : goal.returns
returns c = has_loop
