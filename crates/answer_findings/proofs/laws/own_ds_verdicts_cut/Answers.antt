use Rattle.answer_findings.proofs.Cuts.{own_ds_verdicts_cut}
use Rattle.answer_findings.proofs.laws.own_ds_verdicts_cut.Goals as goal

pub returns : goal.returns
returns c = own_ds_verdicts_cut
