use Rattle.answer_terms.proofs.ToldAlike.{told_alike}
use Rattle.answer_terms.proofs.laws.alike_tells_alike.Goals as goal

pub returns : goal.returns
returns c = told_alike
