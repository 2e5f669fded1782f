use Rattle.definitions.specs.Limits.{pointer_limit}
use Rattle.answer_findings.specs.Judgements.{first_question}
use Rattle.answer_findings.proofs.Searched.{wanted_alike}
use Rattle.answer_findings.proofs.sought.first_asks.Goals as goal

pub returns : goal.returns
returns c = wanted_alike c.args.table.now c.args.case.now c.asks_aside.result _ (first_question pointer_limit c.args.case.now) c.in_ok-question.ensures c.asks_aside.ensures
