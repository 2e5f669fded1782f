-- Waits count from their reports, whatever calls stand between.
use Rattle.std.specs.Prelude.{◌≡◌, ℕ, ◌-◌, ◌*◌, ◌≤◌, ◌↔◌, true, List, Some}
use Rattle.keyset_rolls.specs.declared.rolls.RollState.TheVariants as state
use Rattle.keyset_rolls.specs.declared.rolls.RollType.{RollType}
use Rattle.keyset.specs.KeyState.{phase_of, wait1, wait2}
use Rattle.keyset.specs.KeyRuns.{Call, behind, is_accepted, no_keys}
use Rattle.keyset.specs.KeyRunLaws.{by_rolls_alone, no_reports, reports_behind}

-- A wait in its phase is accepted exactly where the report's TTL has passed since its moment.
abbrev pub WaitsAreTimed : Type 0
WaitsAreTimed = (name : List (List ℕ)) (cs : List (ℕ × Call)) (r : RollType) (ttl now : ℕ) → by_rolls_alone cs ≡ true →
    let s = behind (no_keys name) cs in
    let p = reports_behind r (no_keys name) cs no_reports in
    (phase_of s r ≡ Some (state.CacheExpire1 ttl) → (since : ℕ) × (p.first ≡ Some (since, ttl)) × ((is_accepted (wait1 r now s) ≡ true) ↔ (ttl * 1000000000 ≤ now - since)))
    × (phase_of s r ≡ Some (state.CacheExpire2 ttl) → (since : ℕ) × (p.second ≡ Some (since, ttl)) × ((is_accepted (wait2 r now s) ≡ true) ↔ (ttl * 1000000000 ≤ now - since)))
