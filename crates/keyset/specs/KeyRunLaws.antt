-- What the laws of runs say: whatever calls a key set has behind it, accepted and refused, but for those that set a flag or
-- a stamp by hand.
use Rattle.std.specs.Prelude.{◌≡◌, ℕ, ◌-◌, ◌*◌, ◌≤◌, ◌↔◌, ◌==◌, Bool, true, not, ◌&&◌, ◌||◌, List, [], ◌∷◌, Option, Some, None, is_some, if◌then◌else◌}
use Rattle.std.specs.List.{list_any}
use Rattle.keyset_keys.specs.declared.keys.KeyType.{KeyType}
use Rattle.keyset_keys.specs.declared.keys.KeyType.TheVariants.{Ksk, Zsk, Csk, Include}
use Rattle.keyset_rolls.specs.declared.rolls.RollState.TheVariants as state
use Rattle.keyset_rolls.specs.declared.rolls.RollType.{RollType}
use Rattle.keyset_rolls.specs.declared.rolls.Turn.{Turn}
use Rattle.keyset_rolls.specs.declared.rolls.Turn.TheVariants as turn
use Rattle.keyset_rolls.specs.Rolls.{conflicts, touches, watched}
use Rattle.keyset.specs.KeyState.{Flags, Key, KeySetState, Reference, index_of, key_of, phase_of, wait1, wait2}
use Rattle.keyset.specs.KeyRuns.{Call, Report1, Report2, behind, is_accepted, left, no_keys, on_state, sets_by_hand}

abbrev pub same_roll : RollType → RollType → Bool
same_roll a b = index_of a == index_of b

-- the reports of a roll that were accepted last: the moment of each, and its TTL
pub record Reports : Type 0 where
  pub first : Option (ℕ × ℕ)
  pub second : Option (ℕ × ℕ)

abbrev pub no_reports : Reports
no_reports = record { first = None; second = None }

-- the reports of a roll with a call that was accepted
abbrev pub noted : RollType → Call → ℕ → Reports → Reports
noted r (Report1 q ttl) now p = if same_roll q r then record p { first = Some (now, ttl) } else p
noted r (Report2 q ttl) now p = if same_roll q r then record p { second = Some (now, ttl) } else p
noted r _ now p = p

abbrev pub noted_if : Bool → RollType → Call → ℕ → Reports → Reports
noted_if accepted r c now p = if accepted then noted r c now p else p

abbrev pub reports_behind : RollType → KeySetState → List (ℕ × Call) → Reports → Reports
reports_behind r s [] p = p
reports_behind r s (c ∷ cs) p = reports_behind r (left s (on_state c.1 c.0 s)) cs (noted_if (is_accepted (on_state c.1 c.0 s)) r c.1 c.0 p)

abbrev pub by_rolls_alone : List (ℕ × Call) → Bool
by_rolls_alone cs = not (list_any (λ c. sets_by_hand c.1) cs)

-- whether a wait looks at a key, and at some key
abbrev pub is_awaited : Turn → RollType → Key → Bool
is_awaited t r k = touches r k.roles && watched t r k.roles

abbrev pub some_awaited : Turn → RollType → KeySetState → Bool
some_awaited t r s = list_any (λ e. is_awaited t r e.1) s.keys

-- A wait in its phase, where it looks at some key, is accepted exactly where the report's TTL has passed since its moment, whatever calls stand between
-- the report and the wait.
abbrev pub WaitsCountFromReports : Type 0
WaitsCountFromReports = (name : List (List ℕ)) (cs : List (ℕ × Call)) (r : RollType) (ttl now : ℕ) → by_rolls_alone cs ≡ true →
    let s = behind (no_keys name) cs in
    let p = reports_behind r (no_keys name) cs no_reports in
    (phase_of s r ≡ Some (state.CacheExpire1 ttl) → (since : ℕ) × (p.first ≡ Some (since, ttl)) × ((is_accepted (wait1 r now s) ≡ true) ↔ (some_awaited turn.First r s ≡ true → ttl * 1000000000 ≤ now - since)))
    × (phase_of s r ≡ Some (state.CacheExpire2 ttl) → (since : ℕ) × (p.second ≡ Some (since, ttl)) × ((is_accepted (wait2 r now s) ≡ true) ↔ (some_awaited turn.Second r s ≡ true → ttl * 1000000000 ≤ now - since)))

-- what the flags of each role keep: a KSK role signs exactly where it is present; a ZSK role that signs is present, and isn't
-- at the parent; a key of another owner is never used
abbrev pub ksk_keeps : Flags → Bool
ksk_keeps f = if f.signer then f.present else not f.present

abbrev pub zsk_keeps : Flags → Bool
zsk_keeps f = not f.at_parent && (not f.signer || f.present)

abbrev pub other_keeps : Flags → Bool
other_keeps f = not f.old && not f.signer && not f.present && not f.at_parent

abbrev pub keeps_roles : KeyType → Bool
keeps_roles (Ksk f) = ksk_keeps f
keeps_roles (Zsk f) = zsk_keeps f
keeps_roles (Csk f g) = ksk_keeps f && zsk_keeps g
keeps_roles (Include f) = other_keeps f

abbrev pub RolesKeep : Type 0
RolesKeep = (name : List (List ℕ)) (cs : List (ℕ × Call)) → by_rolls_alone cs ≡ true → (q : Reference) (k : Key) → key_of (behind (no_keys name) cs) q ≡ Some k → keeps_roles k.roles ≡ true

-- two rolls that run together may do so
abbrev pub RollsRunTogether : Type 0
RollsRunTogether = (name : List (List ℕ)) (cs : List (ℕ × Call)) → by_rolls_alone cs ≡ true → (a b : RollType) →
    let s = behind (no_keys name) cs in is_some (phase_of s a) ≡ true → is_some (phase_of s b) ≡ true → conflicts a b ≡ true → a ≡ b

-- no two keys have one tag, also where flags and stamps are set by hand
abbrev pub TagsDiffer : Type 0
TagsDiffer = (name : List (List ℕ)) (cs : List (ℕ × Call)) (p q : Reference) (k l : Key) →
    let s = behind (no_keys name) cs in key_of s p ≡ Some k → key_of s q ≡ Some l → k.tag ≡ l.tag → p ≡ q
