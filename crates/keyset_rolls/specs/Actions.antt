-- What a roll asks for in each of its phases, and how its name is read.
use Rattle.std.specs.Prelude.{ℕ, Bool, true, false, List, [], ◌∷◌, Option, Some, None, Result, Ok, Err, codes, if◌then◌else◌}
use Rattle.std.specs.List.{list_any}
use Rattle.std.specs.Str.{bytes_eq}
use Rattle.keyset_keys.specs.declared.errors.Error.{Error}
use Rattle.keyset_keys.specs.declared.errors.Error.TheVariants as error
use Rattle.keyset_rolls.specs.declared.rolls.Action.{Action}
use Rattle.keyset_rolls.specs.declared.rolls.Action.TheVariants as act
use Rattle.keyset_rolls.specs.declared.rolls.RollState.{RollState}
use Rattle.keyset_rolls.specs.declared.rolls.RollState.TheVariants as state
use Rattle.keyset_rolls.specs.declared.rolls.RollType.{RollType}
use Rattle.keyset_rolls.specs.declared.rolls.RollType.TheVariants as roll

-- the actions after the start
abbrev pub actions1 : RollType → List Action
actions1 roll.KskRoll = act.UpdateDnskeyRrset ∷ act.ReportDnskeyPropagated ∷ []
actions1 roll.KskDoubleDsRoll = act.CreateCdsRrset ∷ act.UpdateDsRrset ∷ act.ReportDsPropagated ∷ []
actions1 roll.ZskRoll = act.UpdateDnskeyRrset ∷ act.ReportDnskeyPropagated ∷ []
actions1 roll.ZskDoubleSignatureRoll = act.UpdateDnskeyRrset ∷ act.UpdateRrsig ∷ act.ReportDnskeyPropagated ∷ act.ReportRrsigPropagated ∷ []
actions1 roll.CskRoll = act.UpdateDnskeyRrset ∷ act.ReportDnskeyPropagated ∷ []
actions1 roll.AlgorithmRoll = act.UpdateDnskeyRrset ∷ act.UpdateRrsig ∷ act.ReportDnskeyPropagated ∷ act.ReportRrsigPropagated ∷ []

-- the actions after the first wait
abbrev pub actions2 : RollType → List Action
actions2 roll.KskRoll = act.CreateCdsRrset ∷ act.UpdateDsRrset ∷ act.ReportDsPropagated ∷ []
actions2 roll.KskDoubleDsRoll = act.RemoveCdsRrset ∷ act.UpdateDnskeyRrset ∷ act.ReportDnskeyPropagated ∷ []
actions2 roll.ZskRoll = act.UpdateRrsig ∷ act.ReportRrsigPropagated ∷ []
actions2 roll.ZskDoubleSignatureRoll = act.UpdateDnskeyRrset ∷ act.UpdateRrsig ∷ act.ReportDnskeyPropagated ∷ act.ReportRrsigPropagated ∷ []
actions2 roll.CskRoll = act.CreateCdsRrset ∷ act.UpdateDsRrset ∷ act.UpdateRrsig ∷ act.ReportDsPropagated ∷ act.ReportRrsigPropagated ∷ []
actions2 roll.AlgorithmRoll = act.CreateCdsRrset ∷ act.UpdateDsRrset ∷ act.ReportDsPropagated ∷ []

-- the actions after the second wait
abbrev pub actions3 : RollType → List Action
actions3 roll.KskRoll = act.RemoveCdsRrset ∷ act.UpdateDnskeyRrset ∷ act.WaitDnskeyPropagated ∷ []
actions3 roll.KskDoubleDsRoll = act.CreateCdsRrset ∷ act.UpdateDsRrset ∷ act.WaitDsPropagated ∷ []
actions3 roll.ZskRoll = act.UpdateDnskeyRrset ∷ act.WaitDnskeyPropagated ∷ []
actions3 roll.ZskDoubleSignatureRoll = []
actions3 roll.CskRoll = act.RemoveCdsRrset ∷ act.UpdateDnskeyRrset ∷ act.WaitDnskeyPropagated ∷ []
actions3 roll.AlgorithmRoll = act.RemoveCdsRrset ∷ act.UpdateDnskeyRrset ∷ act.UpdateRrsig ∷ act.WaitDnskeyPropagated ∷ act.WaitRrsigPropagated ∷ []

abbrev pub actions_in : RollType → Option RollState → List Action
actions_in r None = []
actions_in r (Some state.Propagation1) = actions1 r
actions_in r (Some (state.CacheExpire1 ttl)) = []
actions_in r (Some state.Propagation2) = actions2 r
actions_in r (Some (state.CacheExpire2 ttl)) = []
actions_in r (Some state.Done) = actions3 r

-- whether an action is to create the CDS RRset or to remove it, and whether it waits for the parent's DS set
abbrev pub creates_cds : Action → Bool
creates_cds act.CreateCdsRrset = true
creates_cds _ = false

abbrev pub removes_cds : Action → Bool
removes_cds act.RemoveCdsRrset = true
removes_cds _ = false

abbrev pub awaits_ds : Action → Bool
awaits_ds act.ReportDsPropagated = true
awaits_ds act.WaitDsPropagated = true
awaits_ds _ = false

-- whether a roll asks the parent for a DS set in a phase: from the actions that create the CDS RRset on, up to the next
-- actions, which remove it, or to the roll's end (RFC 7344, 4)
abbrev pub asks_parent_in : RollType → Option RollState → Bool
asks_parent_in r None = false
asks_parent_in r (Some state.Propagation1) = list_any creates_cds (actions1 r)
asks_parent_in r (Some (state.CacheExpire1 ttl)) = list_any creates_cds (actions1 r)
asks_parent_in r (Some state.Propagation2) = list_any creates_cds (actions2 r)
asks_parent_in r (Some (state.CacheExpire2 ttl)) = list_any creates_cds (actions2 r)
asks_parent_in r (Some state.Done) = list_any creates_cds (actions3 r)

-- the name of a roll
abbrev pub roll_name : RollType → List ℕ
roll_name roll.KskRoll = codes "ksk-roll"
roll_name roll.KskDoubleDsRoll = codes "ksk-double-ds-roll"
roll_name roll.ZskRoll = codes "zsk-roll"
roll_name roll.ZskDoubleSignatureRoll = codes "zsk-double-signature-roll"
roll_name roll.CskRoll = codes "csk-roll"
roll_name roll.AlgorithmRoll = codes "algorithm-roll"

abbrev pub named_in : List RollType → List ℕ → Result RollType Error
named_in [] text = Err error.UnknownRollType
named_in (r ∷ rs) text = if bytes_eq text (roll_name r) then Ok r else named_in rs text

abbrev pub all_rolls : List RollType
all_rolls = roll.KskRoll ∷ roll.KskDoubleDsRoll ∷ roll.ZskRoll ∷ roll.ZskDoubleSignatureRoll ∷ roll.CskRoll ∷ roll.AlgorithmRoll ∷ []

-- the roll of this name
abbrev pub read_roll : List ℕ → Result RollType Error
read_roll text = named_in all_rolls text
