use Rattle.counterexamples_honest.proofs.RefusedRows.{alias_trap}
use Rattle.counterexamples_honest.proofs.laws.the_record_of_an_alias_is_honest.Goals as goal

pub returns : goal.returns
returns c = alias_trap
