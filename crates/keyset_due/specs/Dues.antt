-- What is due of a roll.
use Rattle.std.specs.Prelude.{◌≡◌, ◌↔◌, ℕ, ◌+◌, ◌*◌, ◌<◌, ◌≤◌, ◌^◌, ◌==◌, true, List, map, Option, Some, None, if◌then◌else◌}
use Rattle.keyset_rolls.specs.Actions.{actions_in}
use Rattle.keyset_rolls.specs.declared.rolls.RollState.{RollState}
use Rattle.keyset_rolls.specs.declared.rolls.RollState.TheVariants as state
use Rattle.keyset_rolls.specs.declared.rolls.RollType.{RollType}
use Rattle.keyset_rolls.specs.declared.rolls.Turn.{Turn}
use Rattle.keyset_rolls.specs.Rolls.{awaited}
use Rattle.keyset.specs.KeyRuns.{is_accepted}
use Rattle.keyset.specs.KeyState.{Answer, Key, KeySetState, Reference, Refusal, greatest, phase_of, wait1, wait2}
use Rattle.keyset_due.specs.declared.dues.Due.{Due}

-- a moment, in whole seconds, at or behind one that may be missing
abbrev pub IsReached : Option ℕ → ℕ → Type 0
IsReached None second = ⊥
IsReached (Some from) second = from ≤ second

-- a call is accepted at exactly the whole seconds from this one on, of those that a line can name
abbrev pub IsAcceptedFrom : Option ℕ → (ℕ → Answer) → Type 0
IsAcceptedFrom from call = (second : ℕ) → second < 2 ^ 64 → (is_accepted (call (second * 1000000000)) ≡ true) ↔ IsReached from second

-- a wait has no fault at exactly those
abbrev pub IsPassedFrom : Option ℕ → (ℕ → Option Refusal) → Type 0
IsPassedFrom from fault = (second : ℕ) → second < 2 ^ 64 → (fault (second * 1000000000) ≡ None) ↔ IsReached from second

-- the wait of a phase; no other phase has one
abbrev pub IsWaitFrom : KeySetState → RollType → RollState → Option ℕ → Type 0
IsWaitFrom s r (state.CacheExpire1 ttl) from = IsAcceptedFrom from (λ now. wait1 r now s)
IsWaitFrom s r (state.CacheExpire2 ttl) from = IsAcceptedFrom from (λ now. wait2 r now s)
IsWaitFrom s r state.Propagation1 from = from ≡ None
IsWaitFrom s r state.Propagation2 from = from ≡ None
IsWaitFrom s r state.Done from = from ≡ None

-- what is due of a roll: its phase, what that asks for, and from when on its wait is accepted; nothing where it doesn't run
abbrev pub IsDue : KeySetState → RollType → Option Due → Type 0
IsDue s r None = phase_of s r ≡ None
IsDue s r (Some d) = (phase_of s r ≡ Some d.phase) × (d.actions.items ≡ actions_in r (Some d.phase)) × IsWaitFrom s r d.phase d.from

-- ---- how it is found

-- the moment, in nanoseconds, from which a key does not hold a wait of so many seconds back
abbrev pub end_of : ℕ → Option (Option ℕ) → ℕ
end_of ttl None = 0
end_of ttl (Some None) = 0
end_of ttl (Some (Some since)) = if ttl == 0 then 0 else since + ttl * 1000000000

-- that from which none does
abbrev pub greatest_end : RollType → Turn → ℕ → List (Reference × Key) → ℕ
greatest_end r t ttl es = greatest (map (λ e. end_of ttl (awaited t r e.1)) es)
