use Rattle.counterexamples_denial.proofs.NsecMistakes.{label_counts_falsely}
use Rattle.counterexamples_denial.proofs.Nsec3Mistakes.{hashed_label_counts_falsely}
use Rattle.counterexamples_denial.proofs.laws.label_counts_are_compared.Goals as goal

pub returns-clause-nsec : goal.returns-clause-nsec
returns-clause-nsec c = label_counts_falsely

pub returns-clause-nsec3 : goal.returns-clause-nsec3
returns-clause-nsec3 c = hashed_label_counts_falsely
