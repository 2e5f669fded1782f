use Rattle.std.proofs.Common.{None}
use Rattle.names_builder.proofs.Builds.{empty_holds, holds_building, builds}
use Rattle.names_builder.proofs.builder.NameBuilder+Vec+u8.new.Goals as goal

pub invariant_of-result : goal.invariant_of-result
invariant_of-result c = holds_building _ None _ (empty_holds c.new.result.items c.new.ensures.items)

pub returns : goal.returns
returns c = builds _ None _ (empty_holds c.new.result.items c.new.ensures.items)
