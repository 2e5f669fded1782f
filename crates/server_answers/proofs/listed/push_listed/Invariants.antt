use Rattle.std.proofs.Common.{◌≡◌, ◌++◌, map, take}
use Rattle.std.specs.List.{flat_map}
use Rattle.messages.specs.Record.{spelled}
use Rattle.server_answers.specs.Listed.{types_of}
use Rattle.server_answers.proofs.listed.push_listed.Given as goal

abbrev pub invariant-loop-view : goal.invariant-loop-view
invariant-loop-view l = l.types.items ≡ l.fn.types.items ++ flat_map (types_of l.message) (map spelled (take l.view-index l.records))
