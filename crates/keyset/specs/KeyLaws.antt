-- What the laws of key sets say.
use Rattle.std.specs.Prelude.{◌≡◌, ℕ, ◌-◌, ◌*◌, ◌≤◌, ◌↔◌, List, Option, Some, None, Ok}
use Rattle.std.specs.List.{AllByRecursion}
use Rattle.keyset_rolls.specs.declared.rolls.Action.{Action}
use Rattle.keyset_rolls.specs.declared.rolls.RollState.{RollState}
use Rattle.keyset_rolls.specs.declared.rolls.RollState.TheVariants as state
use Rattle.keyset_rolls.specs.declared.rolls.RollType.{RollType}
use Rattle.keyset_rolls.specs.declared.rolls.Turn.{Turn}
use Rattle.keyset_rolls.specs.Actions.{actions_in}
use Rattle.keyset_rolls.specs.Rolls.{awaited}
use Rattle.keyset.specs.KeyState.{Reference, Key, KeySetState, Answer, phase_of, wait_fault, start, report1, report2, wait1, wait2}

-- the whole TTL has passed since the stamp that is read, where one is
abbrev pub HasPassed : ℕ → ℕ → Option (Option ℕ) → Type 0
HasPassed ttl now None = Unit {0}
HasPassed ttl now (Some None) = ⊥
HasPassed ttl now (Some (Some since)) = ttl * 1000000000 ≤ now - since

-- a wait is accepted exactly where the TTL has passed since each stamp that it reads
abbrev pub WaitsAreExact : Type 0
WaitsAreExact = (r : RollType) (t : Turn) (ttl now : ℕ) (es : List (Reference × Key)) →
    (wait_fault r t ttl now es ≡ None) ↔ AllByRecursion (λ e. HasPassed ttl now (awaited t r e.1)) es

-- an accepted call enters this phase of the roll, and answers its actions
abbrev pub Enters : RollType → RollState → Answer → Type 0
Enters r p answer = (after : KeySetState) (actions : List Action) → answer ≡ Ok (after, actions) → (phase_of after r ≡ Some p) × (actions ≡ actions_in r (Some p))

abbrev pub PhasesFollow : Type 0
PhasesFollow = (r : RollType) (ttl now : ℕ) (s : KeySetState) →
    Enters r (state.CacheExpire1 ttl) (report1 r ttl now s)
    × Enters r state.Propagation2 (wait1 r now s)
    × Enters r (state.CacheExpire2 ttl) (report2 r ttl now s)
    × Enters r state.Done (wait2 r now s)

abbrev pub StartsEnter : Type 0
StartsEnter = (r : RollType) (olds news : List Reference) (now : ℕ) (s : KeySetState) → Enters r state.Propagation1 (start r olds news now s)
