use Rattle.std.proofs.Common.{rules, map, subst}
use Rattle.std.specs.List.Sorted.{IsPermutation}
use Rattle.std.proofs.lemmas.List.Sorted.{IsPermutation-map}
use Rattle.messages.specs.Record.{spelled}
use Rattle.answer_judge_facts.proofs.ChainsWhole.{sorted_records}
use Rattle.answer_judge_facts.proofs.facts.sorted_chain.Goals as goal

pub returns-clause-moved : goal.returns-clause-moved
returns-clause-moved c =
    subst (λ rs. IsPermutation rs (map spelled c.sort_by.new.self.items)) c.in_ok-chained.ensures
    (IsPermutation-map spelled c.in_ok-chained.chained.items c.sort_by.new.self.items c.sort_by.ensures.permutation)

pub returns-clause-sorted : goal.returns-clause-sorted
returns-clause-sorted c = sorted_records (λ a r f k. search rules) c.sort_by.new.self.items c.in_ok-sort_by.ensures.sorted
