use Rattle.std.proofs.Common.{◌≡◌, ◌++◌, map, take}
use Rattle.std.specs.List.{flat_map}
use Rattle.messages.specs.HandedRr.{handed_of}
use Rattle.messages.specs.Written.{record_octets}
use Rattle.server_responses.specs.Sections.{written_as_handed}
use Rattle.server_responses.proofs.composing.push_additional.Given as goal

abbrev pub invariant-loop-record : goal.invariant-loop-record
invariant-loop-record l = l.out.items ≡ l.fn.out.items ++ flat_map record_octets (map written_as_handed (map (λ r. handed_of r.now) (take l.record-index l.records)))
