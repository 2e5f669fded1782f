use Rattle.witness_laws.proofs.Looping.{hands_out}
use Rattle.witness_laws.proofs.Tree.{of_tree}
use Rattle.witness_laws.proofs.evidence.some_evidence_is_of_a_tree.Goals as goal

pub returns : goal.returns
returns c = record { tree = of_tree; handed = hands_out }
