use Rattle.counterexamples_denial.proofs.NsecMistakes.{child_types_falsely}
use Rattle.counterexamples_denial.proofs.Nsec3Mistakes.{hashed_child_types_falsely}
use Rattle.counterexamples_denial.proofs.laws.child_types_are_not_denied.Goals as goal

pub returns-clause-nsec : goal.returns-clause-nsec
returns-clause-nsec c = child_types_falsely

pub returns-clause-nsec3 : goal.returns-clause-nsec3
returns-clause-nsec3 c = hashed_child_types_falsely
