use Rattle.counterexamples_honest.proofs.Quoted.{quotes_are_honest}
use Rattle.counterexamples_honest.proofs.laws.quotes_are_honest.Goals as goal

pub returns : goal.returns
returns c = quotes_are_honest
