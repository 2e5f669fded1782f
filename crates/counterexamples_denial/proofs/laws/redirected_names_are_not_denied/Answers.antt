use Rattle.counterexamples_denial.proofs.AliasMistakes.{redirections_falsely, hashed_redirections_falsely}
use Rattle.counterexamples_denial.proofs.laws.redirected_names_are_not_denied.Goals as goal

pub returns-clause-nsec : goal.returns-clause-nsec
returns-clause-nsec c = redirections_falsely

pub returns-clause-nsec3 : goal.returns-clause-nsec3
returns-clause-nsec3 c = hashed_redirections_falsely
