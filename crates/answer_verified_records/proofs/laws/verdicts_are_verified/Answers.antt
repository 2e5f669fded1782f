use Rattle.answer_verified_records.proofs.VerdictData.{verdicts_are_verified}
use Rattle.answer_verified_records.proofs.laws.verdicts_are_verified.Goals as goal

pub returns : goal.returns
returns c = verdicts_are_verified
