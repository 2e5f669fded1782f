-- A report that is rounded down, and the same one rounded up, worked through by computing.
use Rattle.std.specs.Prelude.{◌≡◌, ℕ, ◌+◌, ◌*◌, true, false, List, [], ◌∷◌, codes, get_or, length}
use Rattle.keyset_rolls.specs.declared.rolls.RollType.TheVariants.{ZskDoubleSignatureRoll, AlgorithmRoll}
use Rattle.keyset.specs.KeyState.{KeySetState, Reference}
use Rattle.keyset.specs.KeyRuns.{Call, Finish, OfKsk, OfZsk, Report1, Report2, Start, Wait1, Wait2, no_keys}
use Rattle.keyset.specs.KeyRows.{fresh, second}
use Rattle.keyset_laws.specs.KeyLife.{Step, ZoneAnswer, accepted, meet, retired, states}
use Rattle.clock_laws.specs.Clocks.{MayBeHeld, next_second, shown_second}

abbrev K : Reference
K = codes "K"

abbrev A : Reference
A = codes "A"

abbrev B : Reference
B = codes "B"

-- K and A are in use; a roll of double signatures from A to B is reported in some second, with a TTL of six seconds, and waited for in
-- another
abbrev roll_of : ℕ → ℕ → List (ℕ × Call)
roll_of reported waited =
    fresh OfKsk K 1054 ∷ fresh OfZsk A 1038 ∷ fresh OfZsk B 1042
    ∷ (0, Start AlgorithmRoll [] (K ∷ A ∷ []))
    ∷ (0, Report1 AlgorithmRoll 0)
    ∷ (0, Wait1 AlgorithmRoll)
    ∷ (0, Report2 AlgorithmRoll 0)
    ∷ (0, Wait2 AlgorithmRoll)
    ∷ (0, Finish AlgorithmRoll)
    ∷ (100 * second, Start ZskDoubleSignatureRoll (A ∷ []) (B ∷ []))
    ∷ (reported * second, Report1 ZskDoubleSignatureRoll 6)
    ∷ (waited * second, Wait1 ZskDoubleSignatureRoll)
    ∷ []

abbrev lived : ℕ → ℕ → List Step
lived reported waited = accepted (no_keys []) (roll_of reported waited)

abbrev state : ℕ → ℕ → ℕ → KeySetState
state reported waited i = get_or (states (no_keys []) (lived reported waited)) i (no_keys [])

-- nine tenths of the second 103 have passed when the report comes, and a little less when the last answer before it is given
abbrev reported_at : ℕ
reported_at = 103 * second + 970000000

abbrev given_at : ℕ
given_at = 103 * second + 960000000

-- when the clock first shows the second at which the wait of the report that is rounded down is over
abbrev waited_at : ℕ
waited_at = 109 * second

pub record EarlyReportsMiss : Type 0 where
  -- rounded down: the wait is accepted, and the answer of the old key alone is retired; a cache still holds it, and it does not meet
  pub down_is_accepted : length (lived (shown_second reported_at) (shown_second waited_at)) ≡ 12
  pub down_retires : retired ZoneAnswer (no_keys []) (lived (shown_second reported_at) (shown_second waited_at)) 9 waited_at ≡ true
  pub down_is_held : MayBeHeld given_at 6 waited_at
  pub down_fails : meet (state (shown_second reported_at) (shown_second waited_at) 12) (state (shown_second reported_at) (shown_second waited_at) 12) (state (shown_second reported_at) (shown_second waited_at) 9) ≡ false
  -- rounded up: the wait is refused then, and the answer is not retired; a second later the wait is accepted, and no cache holds it
  pub up_is_refused : length (lived (next_second reported_at) (shown_second waited_at)) ≡ 11
  pub up_retires_nothing : retired ZoneAnswer (no_keys []) (lived (next_second reported_at) (shown_second waited_at)) 9 waited_at ≡ false
  pub up_is_accepted : length (lived (next_second reported_at) (next_second waited_at)) ≡ 12
  pub up_is_not_held : MayBeHeld given_at 6 (waited_at + second) → ⊥
