use Rattle.std.proofs.Common.{rules, subst}
use Rattle.answer_judge_keys.specs.KeyOrder.{IsRanking}
use Rattle.answer_judge_keys.proofs.KeyClashes.{ranking}
use Rattle.answer_judge_keys.proofs.key_index.ranked_keys.Goals as goal

pub returns : goal.returns
returns c =
    subst (λ ks. IsRanking ks c.sort_by.new.self.items) c.in_ok-ranked.ensures
    (ranking (λ a r f k. search rules) c.in_ok-ranked.ranked.items c.sort_by.new.self.items c.sort_by.ensures.permutation c.in_ok-sort_by.ensures.sorted c.sort_by.ensures.stable)
