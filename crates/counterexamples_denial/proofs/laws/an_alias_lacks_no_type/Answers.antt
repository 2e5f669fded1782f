use Rattle.counterexamples_denial.proofs.AliasMistakes.{aliases_falsely, hashed_aliases_falsely}
use Rattle.counterexamples_denial.proofs.laws.an_alias_lacks_no_type.Goals as goal

pub returns-clause-nsec : goal.returns-clause-nsec
returns-clause-nsec c = aliases_falsely

pub returns-clause-nsec3 : goal.returns-clause-nsec3
returns-clause-nsec3 c = hashed_aliases_falsely
