use Rattle.counterexamples_denial.proofs.NsecMistakes.{delegations_falsely}
use Rattle.counterexamples_denial.proofs.Nsec3Mistakes.{hashed_delegations_falsely}
use Rattle.counterexamples_denial.proofs.laws.delegations_decide_first.Goals as goal

pub returns-clause-nsec : goal.returns-clause-nsec
returns-clause-nsec c = delegations_falsely

pub returns-clause-nsec3 : goal.returns-clause-nsec3
returns-clause-nsec3 c = hashed_delegations_falsely
