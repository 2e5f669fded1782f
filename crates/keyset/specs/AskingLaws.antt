-- When the parent is asked for a DS set.
use Rattle.std.specs.Prelude.{◌≡◌, ℕ, true, false, List, Ok}
use Rattle.std.specs.List.{list_any}
use Rattle.keyset_rolls.specs.declared.rolls.Action.{Action}
use Rattle.keyset_rolls.specs.Actions.{awaits_ds, creates_cds, removes_cds}
use Rattle.keyset.specs.KeyState.{KeySetState, asks_parent}
use Rattle.keyset.specs.KeyRuns.{Call, behind, no_keys, on_state}
use Rattle.keyset.specs.KeyRunLaws.{by_rolls_alone}

-- a call's actions wait for the parent's DS set where they create the CDS RRset, and nowhere else
abbrev pub CdsComesWithDs : Type 0
CdsComesWithDs = (c : Call) (now : ℕ) (s after : KeySetState) (actions : List Action) → on_state c now s ≡ Ok (after, actions) → list_any awaits_ds actions ≡ list_any creates_cds actions

-- behind a call whose actions create the CDS RRset the parent is asked
abbrev pub CreatedCdsAsks : Type 0
CreatedCdsAsks = (c : Call) (now : ℕ) (s after : KeySetState) (actions : List Action) → on_state c now s ≡ Ok (after, actions) → list_any creates_cds actions ≡ true → asks_parent after ≡ true

-- behind one whose actions remove it the parent is not asked, whatever calls came before, where none set a flag or a stamp by hand
abbrev pub RemovedCdsAsksNot : Type 0
RemovedCdsAsksNot = (name : List (List ℕ)) (cs : List (ℕ × Call)) → by_rolls_alone cs ≡ true → (c : Call) (now : ℕ) (after : KeySetState) (actions : List Action) → on_state c now (behind (no_keys name) cs) ≡ Ok (after, actions) → list_any removes_cds actions ≡ true → asks_parent after ≡ false
