use Rattle.answer_judge.proofs.OneZone.{honest_of_one_zone}
use Rattle.answer_judge.proofs.laws.of_one_zone_its_verdict.Goals as goal

pub returns : goal.returns
returns c = honest_of_one_zone
