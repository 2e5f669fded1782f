use Rattle.std.proofs.Common.{◌≡◌}
use Rattle.server_queries.specs.Queries.{end_of}
use Rattle.server_queries.proofs.query.end_of.Given as goal

abbrev pub invariant-loop-record : goal.invariant-loop-record
invariant-loop-record l = end_of l.end l.records ≡ end_of l.fn.first l.fn.records
