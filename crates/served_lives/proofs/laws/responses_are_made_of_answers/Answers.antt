use Rattle.served_lives.proofs.Made.{responses_of_answers}
use Rattle.served_lives.proofs.laws.responses_are_made_of_answers.Goals as goal

pub returns : goal.returns
returns c = responses_of_answers
