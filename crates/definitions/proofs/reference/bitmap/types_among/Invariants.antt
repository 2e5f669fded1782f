use Rattle.std.proofs.Common.{◌≡◌, take}
use Rattle.definitions.specs.ZoneChain.{types_among}
use Rattle.definitions.proofs.reference.bitmap.types_among.Given as goal

abbrev pub invariant-loop-record : goal.invariant-loop-record
invariant-loop-record l = l.types.items ≡ types_among (take l.record-index l.records) l.name
