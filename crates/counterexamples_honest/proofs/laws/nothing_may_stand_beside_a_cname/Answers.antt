use Rattle.counterexamples_honest.proofs.DisorderRows.{alias_row}
use Rattle.counterexamples_honest.proofs.laws.nothing_may_stand_beside_a_cname.Goals as goal

pub returns : goal.returns
returns c = alias_row
