use Rattle.std.proofs.Common.{◌-◌}
use Rattle.messages_canonical.proofs.Walked.{Walks}
use Rattle.messages_canonical.proofs.walk.is_in_form.Given as goal

-- the data of all records so far are in form
abbrev pub invariant-loop : goal.invariant-loop
invariant-loop l = Walks l.message l.first l.count (l.count - l.counter) l.at
