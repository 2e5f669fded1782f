use Rattle.answer_findings.proofs.Renamed.{dnames_redirect}
use Rattle.answer_findings.proofs.laws.dnames_redirect.Goals as goal

pub returns : goal.returns
returns c = dnames_redirect
