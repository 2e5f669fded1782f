use Rattle.std.proofs.Common.{◌≡◌, map, take}
use Rattle.answer_zone_records.proofs.KeptNames.{lead}
use Rattle.answer_zone_records.proofs.kept.kept_names.Given as goal

abbrev pub invariant-loop-owner : goal.invariant-loop-owner
invariant-loop-owner l = l.names.items ≡ map lead (take l.owner-index l.owner-items)
