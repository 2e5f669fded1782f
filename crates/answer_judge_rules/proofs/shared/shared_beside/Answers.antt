use Rattle.std.proofs.Common.{◌≡◌, length, sym, ◌∙◌, arith}
use Rattle.answer_judge_rules.proofs.SharedLabels.{run_shared}
use Rattle.answer_judge_rules.proofs.shared.shared_beside.Goals as goal

pub loop-label-init : goal.loop-label-init
loop-label-init g c =
    let even : length c.args.labels ≡ length c.args.others = sym c.requires.labels ∙ c.requires.others in
    record {
      value = run_shared c.args.labels c.args.others even;
      even = even;
      bound = omega arith;
    }
