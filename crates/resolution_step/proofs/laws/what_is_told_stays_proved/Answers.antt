use Rattle.resolution_step.proofs.Staying.{cut_told_stays_proved, told_stays_proved}
use Rattle.resolution_step.proofs.laws.what_is_told_stays_proved.Goals as goal

pub returns : goal.returns
returns c = record { question = told_stays_proved; cut = cut_told_stays_proved }
