use Rattle.answer_judge.proofs.GivenFacts.{told_facts_are_own}
use Rattle.answer_judge.proofs.laws.told_facts_are_own.Goals as goal

pub returns : goal.returns
returns c = told_facts_are_own
