use Rattle.answer_terms.proofs.GivenTold.{told}
use Rattle.answer_terms.proofs.laws.given_is_told.Goals as goal

pub returns : goal.returns
returns c = told
