use Rattle.answer_terms.proofs.FactsCase.{caseless}
use Rattle.answer_terms.proofs.laws.case_means_nothing.Goals as goal

pub returns : goal.returns
returns c = caseless
