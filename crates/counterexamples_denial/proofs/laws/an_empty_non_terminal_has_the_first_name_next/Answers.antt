use Rattle.counterexamples_denial.proofs.MadeUpMistakes.{first_names_falsely}
use Rattle.counterexamples_denial.proofs.laws.an_empty_non_terminal_has_the_first_name_next.Goals as goal

pub returns : goal.returns
returns c = first_names_falsely
