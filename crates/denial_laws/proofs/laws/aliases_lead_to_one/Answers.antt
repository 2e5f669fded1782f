use Rattle.denial_laws.proofs.LeadsToOne.{aliases_lead_to_one}
use Rattle.denial_laws.proofs.laws.aliases_lead_to_one.Goals as goal

pub returns : goal.returns
returns c = aliases_lead_to_one
