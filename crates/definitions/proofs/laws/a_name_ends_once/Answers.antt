use Rattle.definitions.proofs.ReadingLaws.{ends_once}
use Rattle.definitions.proofs.laws.a_name_ends_once.Goals as goal

pub returns : goal.returns
returns c = ends_once
