use Rattle.answer_terms.proofs.Servable.{allowed_answers_decide}
use Rattle.answer_terms.proofs.laws.allowed_questions_are_decided.Goals as goal

pub returns : goal.returns
returns c = allowed_answers_decide
