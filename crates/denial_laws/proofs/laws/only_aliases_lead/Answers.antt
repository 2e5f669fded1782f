use Rattle.denial_laws.proofs.LeadsToOne.{only_aliases_lead}
use Rattle.denial_laws.proofs.laws.only_aliases_lead.Goals as goal

pub returns : goal.returns
returns c = only_aliases_lead
