use Rattle.counterexamples_denial.proofs.NsecMistakes.{wire_octets_falsely}
use Rattle.counterexamples_denial.proofs.laws.names_are_in_canonical_order.Goals as goal

pub returns : goal.returns
returns c = wire_octets_falsely
