use Rattle.std.proofs.Common.{◌≡◌, map, take}
use Rattle.messages.specs.HandedRr.{handed_of}
use Rattle.answer_zone_records.proofs.copies.copy_records.Given as goal

abbrev pub invariant-loop-record : goal.invariant-loop-record
invariant-loop-record l = map handed_of l.copies.items ≡ map handed_of (take l.record-index l.records)
