use Rattle.answer_judge_octets.proofs.ToldInForm.{told}
use Rattle.answer_judge_octets.proofs.laws.told_are_in_form.Goals as goal

pub returns : goal.returns
returns c = told
