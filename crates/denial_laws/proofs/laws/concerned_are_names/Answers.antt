use Rattle.denial_laws.proofs.ConcernedNames.{concerned_are_names}
use Rattle.denial_laws.proofs.laws.concerned_are_names.Goals as goal

pub returns : goal.returns
returns c = concerned_are_names
