use Rattle.counterexamples_honest.proofs.DisorderRows.{below_row}
use Rattle.counterexamples_honest.proofs.laws.nothing_may_stand_below_a_dname.Goals as goal

pub returns : goal.returns
returns c = below_row
