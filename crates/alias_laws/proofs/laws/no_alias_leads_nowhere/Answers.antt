use Rattle.alias_laws.proofs.Aliases.{leads_nowhere}
use Rattle.alias_laws.proofs.laws.no_alias_leads_nowhere.Goals as goal

pub returns : goal.returns
returns c = leads_nowhere
