use Rattle.std.proofs.Common.{◌≡◌, map}
use Rattle.std.specs.List.{find}
use Rattle.messages.specs.HandedRr.{handed_of}
use Rattle.answer_zone_records.specs.OwnedRecords.{is_of_type}
use Rattle.answer_zone_records.proofs.owned.first_of.Given as goal

abbrev pub invariant-loop-rr : goal.invariant-loop-rr
invariant-loop-rr l = find (is_of_type l.rtype) (map handed_of l.records) ≡ find (is_of_type l.rtype) (map handed_of l.owner)
