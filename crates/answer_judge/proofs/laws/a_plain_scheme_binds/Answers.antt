use Rattle.answer_judge.proofs.Spliced.{plain_scheme_binds}
use Rattle.answer_judge.proofs.laws.a_plain_scheme_binds.Goals as goal

pub returns : goal.returns
returns c = plain_scheme_binds
