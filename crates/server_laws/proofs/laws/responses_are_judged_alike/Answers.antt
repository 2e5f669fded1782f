use Rattle.server_laws.proofs.Heard.{parameters_judged, responses_judged}
use Rattle.server_laws.proofs.laws.responses_are_judged_alike.Goals as goal

pub returns-clause-answers : goal.returns-clause-answers
returns-clause-answers c = responses_judged

pub returns-clause-parameters : goal.returns-clause-parameters
returns-clause-parameters c = parameters_judged
