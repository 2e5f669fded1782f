use Rattle.std.proofs.Common.{length}
use Rattle.test_definitions.proofs.chain.+add_ancestors.Given as goal

abbrev pub decreases-add_ancestors : goal.decreases-add_ancestors
decreases-add_ancestors l = length l.owner.now
