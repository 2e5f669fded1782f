use Rattle.std.proofs.Common.{rules}
use Rattle.std.proofs.lemmas.Fn.{filter_same}
use Rattle.answer_judge_octets.specs.Replying.{counts_for}
use Rattle.answer_judge_octets.proofs.ds.judged_ds.Goals as goal

pub returns : goal.returns
returns c = filter_same _ (counts_for c.args.algorithms.now) _ (λ x b f' t. search rules) _ _ c.retain.ensures.filtered
