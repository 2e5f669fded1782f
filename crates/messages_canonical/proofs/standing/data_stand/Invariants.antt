use Rattle.std.proofs.Common.{◌≡◌, ◌≤◌, drop}
use Rattle.std.specs.Prelude.{slice_range}
use Rattle.definitions.specs.Limits.{pointer_limit}
use Rattle.messages_canonical.specs.Canonical.{in_front, parts_at}
use Rattle.messages_canonical.proofs.standing.data_stand.Given as goal

-- what stands so far is in front of the parts that are left
abbrev pub invariant-loop-part : goal.invariant-loop-part
invariant-loop-part l =
    (l.start ≤ l.at)
    × (parts_at pointer_limit l.message l.limit l.form l.start
    ≡ in_front (slice_range l.message l.start l.at) (parts_at pointer_limit l.message l.limit (drop l.part-index l.form) l.at))
