use Rattle.names_builder.proofs.OneFault.{one_fault, one_relative_fault, not_both_refused}
use Rattle.names_builder.proofs.laws.refused_text_has_one_fault.Goals as goal

pub returns-clause-name : goal.returns-clause-name
returns-clause-name c = one_fault

pub returns-clause-relative : goal.returns-clause-relative
returns-clause-relative c = one_relative_fault

pub returns-clause-absolute : goal.returns-clause-absolute
returns-clause-absolute c = not_both_refused
