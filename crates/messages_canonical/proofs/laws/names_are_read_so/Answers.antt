use Rattle.messages_canonical.proofs.ReadSo.{names_so}
use Rattle.messages_canonical.proofs.laws.names_are_read_so.Goals as goal

pub returns : goal.returns
returns c = names_so
