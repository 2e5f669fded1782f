use Rattle.answer_findings.proofs.Renamed.{open_whatever_asked}
use Rattle.answer_findings.proofs.laws.open_names_are_open.Goals as goal

pub returns : goal.returns
returns c = open_whatever_asked
