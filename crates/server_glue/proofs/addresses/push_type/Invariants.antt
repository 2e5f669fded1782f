use Rattle.std.proofs.Common.{◌≡◌, ◌++◌, map}
use Rattle.std.specs.List.{filter}
use Rattle.messages.specs.HandedRr.{handed_of}
use Rattle.answer_zone_records.specs.OwnedRecords.{is_of_type}
use Rattle.server_glue.proofs.addresses.push_type.Given as goal

abbrev pub invariant-loop-record : goal.invariant-loop-record
invariant-loop-record l =
    map (λ r. handed_of r.now) l.found.items ++ filter (is_of_type l.rtype) (map handed_of l.records) ≡ map (λ r. handed_of r.now) l.fn.found.items ++ filter (is_of_type l.rtype) (map handed_of l.owned)
