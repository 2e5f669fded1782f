use Rattle.std.proofs.Common.{◌++◌, length, refl}
use Rattle.definitions.specs.Name.{wire}
use Rattle.messages.proofs.NameWritten.{owner_wire}
use Rattle.messages.proofs.laws.names_read_back.Goals as goal

pub returns : goal.returns
returns c = λ pointers n before behind name. owner_wire pointers n before behind (before ++ (wire n ++ behind)) (length before) name refl refl
