use Rattle.answer_findings.proofs.Cuts.{ds_verdicts_tell_delegations}
use Rattle.answer_findings.proofs.laws.ds_verdicts_tell_delegations.Goals as goal

pub returns : goal.returns
returns c = ds_verdicts_tell_delegations
