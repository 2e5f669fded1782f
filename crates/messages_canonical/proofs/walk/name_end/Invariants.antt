use Rattle.std.proofs.Common.{ℕ, ◌-◌, length}
use Rattle.definitions.specs.Limits.{pointer_limit}
use Rattle.definitions.specs.Name.{Name}
use Rattle.definitions.specs.Reading.{Reads}
use Rattle.messages_canonical.proofs.walk.name_end.Given as goal

-- a name that reads at the first place goes on here
abbrev pub invariant-loop-head : goal.invariant-loop-head
invariant-loop-head l = (n : Name) (e : ℕ) → Reads l.message l.start pointer_limit n e → (rest : Name) × Reads l.message l.place pointer_limit rest e

abbrev pub decreases-loop-head : goal.decreases-loop-head
decreases-loop-head l = length l.message - l.place
