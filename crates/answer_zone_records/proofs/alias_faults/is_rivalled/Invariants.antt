use Rattle.std.proofs.Common.{◌≡◌, map}
use Rattle.std.specs.List.{list_any}
use Rattle.messages.specs.HandedRr.{handed_of}
use Rattle.answer_zone_records.specs.AliasFaults.{rivals}
use Rattle.answer_zone_records.proofs.alias_faults.is_rivalled.Given as goal

abbrev pub invariant-loop-other : goal.invariant-loop-other
invariant-loop-other l = list_any (rivals l.apex (handed_of l.rr)) (map handed_of l.others) ≡ list_any (rivals l.apex (handed_of l.rr)) (map handed_of l.owner)
