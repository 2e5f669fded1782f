use Rattle.std.proofs.Common.{◌≤◌, length, sym, subst, ◌∙◌}
use Rattle.std.specs.List.{AllByRecursion}
use Rattle.answer_judge_facts.proofs.ShortData.{short_run}
use Rattle.answer_judge_facts.proofs.facts.read_chain_group.Goals as goal

pub holds_one-requires : goal.holds_one-requires
holds_one-requires c = λ k. subst (AllByRecursion (λ d. length d ≤ 65535)) (sym c.in_ok-group.ensures.items) (short_run c.args.message.now c.args.first.now.rtype c.args.run.now (sym c.in_ok-group.ensures.rtype ∙ k) c.requires.alike)
