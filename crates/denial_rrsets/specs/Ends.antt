-- Records and the places at which owners begin behind the first one.
use Rattle.std.specs.Prelude.{ℕ, ◌-◌, List, [], ◌∷◌, Option}
use Rattle.std.specs.declared.option.Option.TheVariants.{None, Some}
use Rattle.definitions.specs.Name.{Name}
use Rattle.plain.specs.declared.record.Record.{Record}
use Rattle.denial_rrsets.specs.Groups.{of_one_owner}
use Rattle.denial_rrsets.specs.Starts.{AreStartsBehind}
use Rattle.denial_rrsets.specs.declared.ends.Ends.{Ends}

-- the places are those of the records that are left, if they are known
abbrev pub AreEnds : {N D : Type 0} → (N → Name) → Option Ends → List (Record N D) → Type 0
AreEnds name None rs = Unit {0}
AreEnds name (Some e) rs = AreStartsBehind (of_one_owner name) e.later.now e.count rs

-- how many of the items that are left, the last ones of a number, stand before the next place
abbrev pub first_count : List ℕ → ℕ → ℕ → ℕ
first_count [] count left = left
first_count (s ∷ ss) count left = s - (count - left)
