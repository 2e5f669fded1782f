-- What is said of a roll in numbers.
use Rattle.std.specs.Prelude.{◌≡◌, ◌⊎◌, ℕ, ◌==◌, ◌++◌, ◌∷◌, [], Bool, true, false, List, length, Option, Some, None, if◌then◌else◌}
use Rattle.std.specs.List.{flat_map}
use Rattle.printed_outcomes.specs.Names.{action_name}
use Rattle.keyset_rolls.specs.declared.rolls.Action.{Action}
use Rattle.keyset_rolls.specs.declared.rolls.RollState.{RollState}
use Rattle.keyset_rolls.specs.declared.rolls.RollState.TheVariants as state
use Rattle.keyset_rolls.specs.declared.rolls.RollType.{RollType}
use Rattle.keyset_rolls.specs.declared.rolls.RollType.TheVariants as roll
use Rattle.keyset.specs.KeyState.{KeySetState}
use Rattle.keyset_due.specs.Dues.{IsDue}
use Rattle.keyset_due.specs.declared.dues.Due.{Due}
use Rattle.server_zone_octets.specs.declared.code.ZoneCode.{ZoneCode}
use Rattle.server_zone_octets.specs.declared.code.ZoneCode.TheVariants as c
use Rattle.server_zone_octets.specs.declared.due.OctetDue.{OctetDue}
use Rattle.server_zone_octets.specs.Telling.{IsPut}

abbrev pub roll_of : ℕ → Option RollType
roll_of n =
    if n == 1 then Some roll.KskRoll
    else if n == 2 then Some roll.KskDoubleDsRoll
    else if n == 3 then Some roll.ZskRoll
    else if n == 4 then Some roll.ZskDoubleSignatureRoll
    else if n == 5 then Some roll.CskRoll
    else if n == 6 then Some roll.AlgorithmRoll
    else None

abbrev pub number_of_phase : RollState → ℕ
number_of_phase state.Propagation1 = 1
number_of_phase (state.CacheExpire1 ttl) = 2
number_of_phase state.Propagation2 = 3
number_of_phase (state.CacheExpire2 ttl) = 4
number_of_phase state.Done = 5

-- the seconds of a wait
abbrev pub ttl_of : RollState → ℕ
ttl_of (state.CacheExpire1 ttl) = ttl
ttl_of (state.CacheExpire2 ttl) = ttl
ttl_of _ = 0

-- the greatest number of 64 bits where there is no such second
abbrev pub from_of : Option ℕ → ℕ
from_of (Some second) = second
from_of None = 18446744073709551615

-- the size of what is said, the only one that is known
abbrev pub due_size : ℕ
due_size = 32

-- names of actions, each with a line feed behind it
abbrev pub names_of : List Action → List ℕ
names_of actions = flat_map (λ a. action_name a ++ 10 ∷ []) actions

-- of a roll that does not run
abbrev pub nothing : OctetDue
nothing = record { size = due_size; len = 0; from = 18446744073709551615; ttl = 0; phase = 0 }

-- of one that runs, the names of whose actions have so many octets
abbrev pub due_said : Due → ℕ → OctetDue
due_said d n = record { size = due_size; len = n; from = from_of d.from; ttl = ttl_of d.phase; phase = number_of_phase d.phase }

abbrev pub IsSaidOf : Option Due → OctetDue → List ℕ → Type 0
IsSaidOf None said names = (said ≡ nothing) × (names ≡ [])
IsSaidOf (Some d) said names = (names ≡ names_of d.actions.items) × (said ≡ due_said d (length names))

-- what is due, in numbers and names
pub record IsSaidDue (keys : KeySetState) (r : RollType) (said : OctetDue) (names : List ℕ) : Type 0 where
  pub due : Option Due
  pub is_due : IsDue keys r due
  pub said_of : IsSaidOf due said names

-- done, or that there is no room
abbrev pub told_code : Bool → ZoneCode
told_code true = c.Done
told_code false = c.BufferTooSmall

-- it is said, and the names stand in front of what was there, where there is room
pub record IsDueTold (keys : KeySetState) (r : RollType) (new : OctetDue) (before after : List ℕ) (code : ZoneCode) : Type 0 where
  pub names : List ℕ
  pub said : IsSaidDue keys r new names
  pub fits : Bool
  pub put : IsPut names before after fits
  pub code_is : code ≡ told_code fits

-- nothing is written
pub record IsUnsaid {R : Type 0} (old new : R) (before after : List ℕ) : Type 0 where
  pub said_is : new ≡ old
  pub octets_are : after ≡ before

-- why nothing is said
abbrev pub IsUnsaidFor : ℕ → OctetDue → ZoneCode → Type 0
IsUnsaidFor number due c.BadCall = (roll_of number ≡ None) ⊎ (due.size ≡ due_size → ⊥)
IsUnsaidFor number due c.OutOfMemory = Unit {0}
IsUnsaidFor number due _ = ⊥

-- the roll of a number, and what is due of it
pub record SaysRoll (keys : KeySetState) (number : ℕ) (old new : OctetDue) (before after : List ℕ) (code : ZoneCode) : Type 0 where
  pub r : RollType
  pub roll_is : roll_of number ≡ Some r
  pub known : old.size ≡ due_size
  pub told : IsDueTold keys r new before after code

abbrev pub SaysDue : KeySetState → ℕ → OctetDue → OctetDue → List ℕ → List ℕ → ZoneCode → Type 0
SaysDue keys number old new before after code = SaysRoll keys number old new before after code ⊎ (IsUnsaid old new before after × IsUnsaidFor number old code)
