use Rattle.std.proofs.Common.{◌≡◌, ◌++◌, drop, map}
use Rattle.std.specs.Cow.{cow_slice_items}
use Rattle.std.specs.List.{filter_map}
use Rattle.definitions.specs.Limits.{pointer_limit}
use Rattle.messages.specs.Message.{canonical_data}
use Rattle.messages.specs.Record.{spelled}
use Rattle.answer_judge_facts.proofs.facts.read_run.Given as goal

abbrev pub invariant-loop-record : goal.invariant-loop-record
invariant-loop-record l =
    let f = canonical_data pointer_limit l.message in
    map cow_slice_items l.items.items ++ filter_map f (map spelled (drop l.record-index l.run)) ≡ filter_map f (map spelled l.run)
