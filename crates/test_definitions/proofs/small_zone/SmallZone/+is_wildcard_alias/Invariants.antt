use Rattle.std.proofs.Common.{length}
use Rattle.test_definitions.proofs.small_zone.SmallZone.+is_wildcard_alias.Given as goal

abbrev pub decreases-is_wildcard_alias : goal.decreases-is_wildcard_alias
decreases-is_wildcard_alias l = length l.name.now
