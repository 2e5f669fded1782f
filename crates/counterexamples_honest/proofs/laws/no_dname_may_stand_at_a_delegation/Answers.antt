use Rattle.counterexamples_honest.proofs.DisorderRows.{cut_row}
use Rattle.counterexamples_honest.proofs.laws.no_dname_may_stand_at_a_delegation.Goals as goal

pub returns : goal.returns
returns c = cut_row
