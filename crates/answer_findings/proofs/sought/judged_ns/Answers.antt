use Rattle.definitions.specs.Limits.{pointer_limit}
use Rattle.answer_judge.specs.Judging.{answer_of}
use Rattle.answer_findings.specs.Judgements.{ns_question}
use Rattle.answer_findings.proofs.Searched.{sought}
use Rattle.answer_findings.proofs.Within.{ns_bound}
use Rattle.answer_findings.proofs.sought.judged_ns.Goals as goal

pub returns-clause-made : goal.returns-clause-made
returns-clause-made g c =
    let wanted = ns_question pointer_limit c.args.case.now (answer_of c.args.own.now) in
    sought c.args.table.now c.args.case.now c.judge_other_question.result _ wanted c.in_ok-question.ensures c.judge_other_question.ensures.made

pub returns-clause-bound : goal.returns-clause-bound
returns-clause-bound g c = ns_bound c.args.case.now _ _ _ c.judge_other_question.ensures.bound (answer_of c.args.own.now) c.in_ok-question.ensures
