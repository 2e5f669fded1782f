use Rattle.resolution_octets.proofs.Staying.{replies_stay_proved}
use Rattle.resolution_octets.proofs.laws.replies_stay_proved.Goals as goal

pub returns : goal.returns
returns c = replies_stay_proved c.walks_stay_proved.ensures
