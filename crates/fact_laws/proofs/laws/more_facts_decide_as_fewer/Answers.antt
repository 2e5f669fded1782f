use Rattle.fact_laws.proofs.MoreFacts.{more_facts_decide}
use Rattle.fact_laws.proofs.laws.more_facts_decide_as_fewer.Goals as goal

pub returns : goal.returns
returns c = more_facts_decide
