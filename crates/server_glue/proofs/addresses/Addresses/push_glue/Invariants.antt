use Rattle.std.proofs.Common.{◌≡◌, ◌++◌, map, take}
use Rattle.std.specs.List.{flat_map}
use Rattle.messages.specs.HandedRr.{handed_of}
use Rattle.messages.specs.Record.{spelled}
use Rattle.server_glue.specs.Glue.{glue_of}
use Rattle.server_glue.proofs.addresses.Addresses.push_glue.Given as goal

abbrev pub invariant-loop-record : goal.invariant-loop-record
invariant-loop-record l = map (λ r. handed_of r.now) l.found.items ≡ map (λ r. handed_of r.now) l.fn.found.items ++ flat_map (glue_of l.self l.message) (map spelled (take l.record-index l.records))
