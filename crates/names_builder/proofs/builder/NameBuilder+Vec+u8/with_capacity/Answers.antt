use Rattle.std.proofs.Common.{None}
use Rattle.names_builder.proofs.Builds.{empty_holds, holds_building, builds}
use Rattle.names_builder.proofs.builder.NameBuilder+Vec+u8.with_capacity.Goals as goal

pub invariant_of-result : goal.invariant_of-result
invariant_of-result c = holds_building _ None _ (empty_holds c.in-Ok.builder.items c.in-Ok.ensures.items)

pub returns-in-Ok : goal.returns-in-Ok
returns-in-Ok c = builds _ None _ (empty_holds c.in-Ok.builder.items c.in-Ok.ensures.items)
