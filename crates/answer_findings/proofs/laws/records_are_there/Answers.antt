use Rattle.answer_findings.proofs.Renamed.{records_are_there}
use Rattle.answer_findings.proofs.laws.records_are_there.Goals as goal

pub returns : goal.returns
returns c = records_are_there
