use Rattle.std.specs.Cow.{cow_slice_items}
use Rattle.std.proofs.lemmas.List.Filters.{dedup_is}
use Rattle.answer_judge_keys.proofs.DataOrder.{data_once}
use Rattle.answer_judge_keys.proofs.order.sort_data.Goals as goal

pub returns : goal.returns
returns c = data_once cow_slice_items _ _ _ c.sort_unstable.ensures.permutation c.sort_unstable.ensures.sorted (dedup_is _ _ _ c.dedup.ensures.filtered)
