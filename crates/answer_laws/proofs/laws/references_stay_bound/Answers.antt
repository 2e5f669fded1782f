use Rattle.answer_laws.proofs.KeyHistory.{adds_bind, stay_bound}
use Rattle.answer_laws.proofs.laws.references_stay_bound.Goals as goal

pub returns : goal.returns
returns c = record { bind = adds_bind; stay = stay_bound }
