use Rattle.std.proofs.Common.{◌≡◌}
use Rattle.server_queries.specs.Options.{opts}
use Rattle.server_queries.proofs.edns.next_opt.Given as goal

abbrev pub invariant-loop-record : goal.invariant-loop-record
invariant-loop-record l = opts l.records ≡ opts l.fn.records
