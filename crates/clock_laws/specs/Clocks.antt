-- Moments of a clock beside whole seconds: when a report counts for what was handed out before it. Moments are in nanoseconds.
use Rattle.std.specs.Prelude.{◌≡◌, ℕ, ◌+◌, ◌*◌, ◌/◌, ◌<◌, ◌≤◌, true, false, List, Some, slice_get}
use Rattle.std.specs.List.{list_any}
use Rattle.keyset.specs.KeyState.{KeySetState}
use Rattle.keyset.specs.KeyRuns.{Report1, Report2}
use Rattle.keyset_laws.specs.KeyLife.{Step, Thing, reported_first, reported_second, retired, same_thing}

-- the second that the clock shows at a moment, and the one behind it
abbrev pub shown_second : ℕ → ℕ
shown_second moment = moment / 1000000000

abbrev pub next_second : ℕ → ℕ
next_second moment = shown_second moment + 1

-- A report of this second counts for what was handed out at a moment: that moment is not behind it.
abbrev pub CountsFor : ℕ → ℕ → Type 0
CountsFor second given = given ≤ second * 1000000000

-- A cache may hold what was handed out at a moment until its TTL has passed (RFC 1035, 3.2.1).
abbrev pub MayBeHeld : ℕ → ℕ → ℕ → Type 0
MayBeHeld given ttl now = (given ≤ now) × (now < given + ttl * 1000000000)

-- What was handed out in the second of a report is of before it: a report of the next second counts for that, and for what is older.
abbrev pub NextSecondsCount : Type 0
NextSecondsCount = (reported given : ℕ) → shown_second given ≤ shown_second reported → CountsFor (next_second reported) given

-- So from the second on at which a wait that counts from there is over, as the clock shows it, no cache holds any of it.
abbrev pub WaitsOutlastCaches : Type 0
WaitsOutlastCaches =
    (reported given ttl now : ℕ) → shown_second given ≤ shown_second reported → next_second reported + ttl ≤ shown_second now → MayBeHeld given ttl now → ⊥

-- a report counts for what was handed out at a moment, and its TTL is not smaller; of other calls nothing is asked
abbrev pub IsTrueOf : Thing → ℕ → ℕ → Step → Type 0
IsTrueOf thing given ttl step = elim step.call [
  | Report1 r said ↦ list_any (same_thing thing) (reported_first r) ≡ true → (given ≤ step.at) × (ttl ≤ said)
  | Report2 r said ↦ list_any (same_thing thing) (reported_second r) ≡ true → (given ≤ step.at) × (ttl ≤ said)
  | _ ↦ Unit {0}
]

-- so does each report behind a state
abbrev pub ReportsAreTrue : Thing → List Step → ℕ → ℕ → ℕ → Type 0
ReportsAreTrue thing steps i given ttl = (place : ℕ) (step : Step) → i ≤ place → slice_get steps place ≡ Some step → IsTrueOf thing given ttl step

-- What was handed out in a state, and may be held by a cache, is not retired, where the reports behind that state are true of it.
abbrev pub HeldThingsAreUnretired : Type 0
HeldThingsAreUnretired = (thing : Thing) (start : KeySetState) (steps : List Step) (i given ttl now : ℕ)
    → ReportsAreTrue thing steps i given ttl → MayBeHeld given ttl now → retired thing start steps i now ≡ false
