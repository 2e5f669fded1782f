use Rattle.resolution_step.proofs.Hashed.{step_bound, step_hashed}
use Rattle.resolution_step.proofs.Truly.{told_honest, told_in}
use Rattle.resolution_step.proofs.steps.step.Goals as goal

pub returns : goal.returns
returns g c =
    let is = told_in c.args.algorithms.now c.args.table.now c.args.case.now c.in_ok-found.found c.in_ok-found.ensures.found c.step_of_outcome.result c.step_of_outcome.ensures.told in
    record {
      told = is;
      honest = told_honest c.args.algorithms.now c.args.table.now c.args.case.now c.step_of_outcome.result is;
      hashed = step_hashed _ _ _ _ c.step_of_outcome.result c.in_ok-found.ensures.hashed c.step_of_outcome.ensures.hashed;
      bound = step_bound c.args.table.now c.args.case.now c.in_ok-found.found _ _ _ c.in_ok-found.ensures.found c.judge_answer.ensures.bound c.step_of_outcome.ensures.bound;
    }
