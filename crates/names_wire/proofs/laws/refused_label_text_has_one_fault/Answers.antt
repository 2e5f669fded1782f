use Rattle.names_wire.proofs.OneFault.{one_fault}
use Rattle.names_wire.proofs.laws.refused_label_text_has_one_fault.Goals as goal

pub returns : goal.returns
returns c = one_fault
