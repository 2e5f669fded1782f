use Rattle.std.proofs.Common.{◌≡◌, ◌++◌, drop, map}
use Rattle.std.specs.Cow.{cow_slice_items}
use Rattle.std.specs.List.{filter_map}
use Rattle.definitions.specs.Limits.{pointer_limit}
use Rattle.messages.specs.Record.{spelled}
use Rattle.answer_judge_facts.specs.Verified.{datum_of}
use Rattle.answer_judge_facts.proofs.groups.read_group.Given as goal

abbrev pub invariant-loop-record : goal.invariant-loop-record
invariant-loop-record l =
    let f = datum_of pointer_limit l.message l.fn.owner l.rtype in
    map cow_slice_items l.items.items ++ filter_map f (map spelled (drop l.record-index l.records)) ≡ filter_map f (map spelled l.records)
