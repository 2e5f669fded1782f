use Rattle.denial_laws.proofs.OneVerdict.{each_question_has_one_verdict}
use Rattle.denial_laws.proofs.laws.each_question_has_one_verdict.Goals as goal

pub returns : goal.returns
returns c = each_question_has_one_verdict
