use Rattle.std.proofs.Common.{sym, ap, ◌∙◌}
use Rattle.definitions.specs.Name.{low}
use Rattle.definitions.proofs.ZoneNames.{low-low}
use Rattle.definitions.proofs.reference.zone.PlainZone.new.Goals as goal

pub invariant_of-result : goal.invariant_of-result
invariant_of-result c = ap low c.in_ok-apex.ensures ∙ low-low c.args.name.now ∙ sym c.in_ok-apex.ensures
