use Rattle.counterexamples_denial.proofs.NsecMistakes.{wildcards_falsely}
use Rattle.counterexamples_denial.proofs.Nsec3Mistakes.{hashed_wildcards_falsely}
use Rattle.counterexamples_denial.proofs.laws.the_wildcard_is_looked_for.Goals as goal

pub returns-clause-nsec : goal.returns-clause-nsec
returns-clause-nsec c = wildcards_falsely

pub returns-clause-nsec3 : goal.returns-clause-nsec3
returns-clause-nsec3 c = hashed_wildcards_falsely
