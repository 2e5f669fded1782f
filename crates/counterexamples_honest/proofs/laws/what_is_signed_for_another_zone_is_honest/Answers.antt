use Rattle.counterexamples_honest.proofs.RefusedRows.{signer_trap}
use Rattle.counterexamples_honest.proofs.laws.what_is_signed_for_another_zone_is_honest.Goals as goal

pub returns : goal.returns
returns c = signer_trap
