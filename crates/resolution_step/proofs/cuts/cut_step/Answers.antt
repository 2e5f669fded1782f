use Rattle.std.proofs.Common.{ap}
use Rattle.answer_judge.specs.Judging.{JudgeInput}
use Rattle.resolution_step.proofs.Hashed.{cut_hashed}
use Rattle.resolution_step.proofs.Truly.{cut_honest, cut_in}
use Rattle.resolution_step.proofs.cuts.cut_step.Goals as goal

pub returns : goal.returns
returns g c =
    let name_is = ap (λ (h : JudgeInput). h.asked.name) c.case.view_is in
    let is = cut_in c.args.algorithms.now c.args.table.now c.args.case.now c.in_ok-found.found c.in_ok-found.ensures.found c.case.inside.question.now.name name_is c.work_of-work.result c.work_of-work.ensures c.cut_of_outcome.result c.cut_of_outcome.ensures in
    record {
      told = is;
      honest = cut_honest c.args.algorithms.now c.args.table.now c.args.case.now c.cut_of_outcome.result is;
      hashed = cut_hashed _ _ c.in_ok-found.found c.in_ok-found.ensures.hashed c.args.algorithms.now _ _ c.cut_of_outcome.result c.cut_of_outcome.ensures;
      bound = c.judge_answer.ensures.bound;
    }
