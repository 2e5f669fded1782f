use Rattle.std.proofs.Common.{◌≡◌, ◌++◌, map}
use Rattle.std.specs.Cow.{cow_slice_items}
use Rattle.std.specs.Vec.Iter.{into_iter_items}
use Rattle.answer_judge_facts.proofs.facts.owned_data.Given as goal

abbrev pub invariant-loop-item : goal.invariant-loop-item
invariant-loop-item l = map (λ d. d.items) l.owned.items ++ map cow_slice_items (into_iter_items l.item-iterator) ≡ map cow_slice_items l.fn.items.items
