use Rattle.names_wire.proofs.Printed.{read_back}
use Rattle.names_wire.proofs.laws.printed_label_is_read_back.Goals as goal

pub returns : goal.returns
returns c = read_back
