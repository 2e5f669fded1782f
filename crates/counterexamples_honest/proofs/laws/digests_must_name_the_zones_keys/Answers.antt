use Rattle.counterexamples_honest.proofs.FalseRows.{twin_row}
use Rattle.counterexamples_honest.proofs.laws.digests_must_name_the_zones_keys.Goals as goal

pub returns : goal.returns
returns c = twin_row
