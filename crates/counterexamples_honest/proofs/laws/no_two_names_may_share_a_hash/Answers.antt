use Rattle.counterexamples_honest.proofs.FalseRows.{shared_hash_row}
use Rattle.counterexamples_honest.proofs.laws.no_two_names_may_share_a_hash.Goals as goal

pub returns : goal.returns
returns c = shared_hash_row
