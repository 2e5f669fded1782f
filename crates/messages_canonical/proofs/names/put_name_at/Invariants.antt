use Rattle.std.proofs.Common.{◌-◌, ◌≤◌}
use Rattle.messages_canonical.proofs.NamesPut.{GoesOn}
use Rattle.messages_canonical.proofs.names.put_name_at.Given as goal

-- what is put so far, the run that isn't yet, and the labels that are left make the name
abbrev pub invariant-loop : goal.invariant-loop
invariant-loop l = (l.from ≤ l.place) × GoesOn l.message l.start l.from l.place l.initial.rdata.items l.rdata.items (383 - l.counter)
