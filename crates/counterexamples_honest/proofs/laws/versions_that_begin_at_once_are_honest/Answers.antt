use Rattle.counterexamples_honest.proofs.RefusedRows.{until_trap}
use Rattle.counterexamples_honest.proofs.laws.versions_that_begin_at_once_are_honest.Goals as goal

pub returns : goal.returns
returns c = until_trap
