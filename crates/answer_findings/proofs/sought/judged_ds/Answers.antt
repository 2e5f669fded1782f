use Rattle.definitions.specs.Limits.{pointer_limit}
use Rattle.answer_judge.specs.Judging.{answer_of}
use Rattle.answer_findings.specs.Judgements.{ds_question}
use Rattle.answer_findings.proofs.Searched.{sought}
use Rattle.answer_findings.proofs.Within.{ds_bound}
use Rattle.answer_findings.proofs.sought.judged_ds.Goals as goal

pub returns-clause-made : goal.returns-clause-made
returns-clause-made g c =
    let wanted = ds_question pointer_limit c.args.case.now (answer_of c.args.own.now) c.args.leads in
    sought c.args.table.now c.args.case.now c.judge_other_question.result _ wanted c.in_ok-question.ensures c.judge_other_question.ensures.made

pub returns-clause-bound : goal.returns-clause-bound
returns-clause-bound g c = ds_bound c.args.case.now _ _ _ c.judge_other_question.ensures.bound (answer_of c.args.own.now) c.args.leads c.in_ok-question.ensures
