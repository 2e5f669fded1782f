use Rattle.std.proofs.Common.{◌≡◌, ◌-◌, take}
use Rattle.server_queries.specs.Options.{has_opt}
use Rattle.server_queries.proofs.edns.has_opt.Given as goal

abbrev pub invariant-loop : goal.invariant-loop
invariant-loop l = has_opt (take (l.count - l.counter) l.records) ≡ has_opt (take l.count l.fn.records)
