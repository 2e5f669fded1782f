use Rattle.message_laws.proofs.ShownCase.{shown_in_any_case}
use Rattle.message_laws.proofs.laws.case_means_nothing.Goals as goal

pub returns : goal.returns
returns c = shown_in_any_case
