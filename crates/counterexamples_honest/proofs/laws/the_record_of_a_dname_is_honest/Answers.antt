use Rattle.counterexamples_honest.proofs.RefusedRows.{redirect_trap}
use Rattle.counterexamples_honest.proofs.laws.the_record_of_a_dname_is_honest.Goals as goal

pub returns : goal.returns
returns c = redirect_trap
