use Rattle.counterexamples_denial.proofs.NsecMistakes.{open_falsely}
use Rattle.counterexamples_denial.proofs.Nsec3Mistakes.{hashed_open_falsely}
use Rattle.counterexamples_denial.proofs.laws.not_all_is_open.Goals as goal

pub returns-clause-nsec : goal.returns-clause-nsec
returns-clause-nsec c = open_falsely

pub returns-clause-nsec3 : goal.returns-clause-nsec3
returns-clause-nsec3 c = hashed_open_falsely
