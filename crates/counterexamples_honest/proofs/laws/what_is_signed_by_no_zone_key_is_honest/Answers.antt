use Rattle.counterexamples_honest.proofs.RefusedRows.{idle_trap}
use Rattle.counterexamples_honest.proofs.laws.what_is_signed_by_no_zone_key_is_honest.Goals as goal

pub returns : goal.returns
returns c = idle_trap
