use Rattle.fact_laws.proofs.DueFacts.{due_facts_decide, own_includes_due}
use Rattle.fact_laws.proofs.laws.due_facts_decide.Goals as goal

pub returns : goal.returns
returns c = record { own = own_includes_due; decide = due_facts_decide }
