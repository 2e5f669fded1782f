-- Things of three moments, worked through by computing.
use Rattle.std.specs.Prelude.{◌≡◌, ℕ, ◌*◌, Bool, true, false, List, [], ◌∷◌, ◌++◌, codes, length, get_or}
use Rattle.keyset_rolls.specs.declared.rolls.RollType.TheVariants.{KskDoubleDsRoll, ZskRoll, ZskDoubleSignatureRoll, AlgorithmRoll}
use Rattle.keyset.specs.KeyState.{KeySetState, Reference}
use Rattle.keyset.specs.KeyRuns.{Call, Delete, Finish, OfKsk, OfZsk, Report1, Report2, Start, Wait1, Wait2, no_keys}
use Rattle.keyset.specs.KeyRows.{fresh, second}
use Rattle.keyset_laws.specs.KeyLife.{DnskeyAnswer, DsSet, Step, Thing, ZoneAnswer, accepted, meet, retired, states}

abbrev K : Reference
K = codes "K"

abbrev L : Reference
L = codes "L"

abbrev A : Reference
A = codes "A"

abbrev B : Reference
B = codes "B"

abbrev C : Reference
C = codes "C"

-- K and A come into use until 7200: nine accepted calls
abbrev first_roll : List (ℕ × Call)
first_roll =
    fresh OfKsk K 1054 ∷ fresh OfZsk A 1038 ∷ fresh OfZsk B 1042
    ∷ (0, Start AlgorithmRoll [] (K ∷ A ∷ []))
    ∷ (0, Report1 AlgorithmRoll 3600)
    ∷ (3600 * second, Wait1 AlgorithmRoll)
    ∷ (3600 * second, Report2 AlgorithmRoll 3600)
    ∷ (7200 * second, Wait2 AlgorithmRoll)
    ∷ (7200 * second, Finish AlgorithmRoll)
    ∷ []

abbrev lived : List (ℕ × Call) → List Step
lived cs = accepted (no_keys []) (first_roll ++ cs)

abbrev state : List (ℕ × Call) → ℕ → KeySetState
state cs i = get_or (states (no_keys []) (lived cs)) i (no_keys [])

abbrev is_retired : Thing → List (ℕ × Call) → ℕ → ℕ → Bool
is_retired thing cs i moment = retired thing (no_keys []) (lived cs) i (moment * second)

abbrev met : List (ℕ × Call) → ℕ → ℕ → ℕ → Bool
met cs i j k = meet (state cs i) (state cs j) (state cs k)

-- a ZSK roll up to its first wait: started in state 10, reported in 11, waited for in 12
abbrev zsk_roll : List (ℕ × Call)
zsk_roll = (7200 * second, Start ZskRoll (A ∷ []) (B ∷ [])) ∷ (7200 * second, Report1 ZskRoll 3600) ∷ (10800 * second, Wait1 ZskRoll) ∷ []

-- a double DS roll up to its first wait, behind the add of L: started in state 11, waited for in 13
abbrev double_ds : List (ℕ × Call)
double_ds = fresh OfKsk L 1056 ∷ (7200 * second, Start KskDoubleDsRoll (K ∷ []) (L ∷ [])) ∷ (7200 * second, Report1 KskDoubleDsRoll 10) ∷ (7210 * second, Wait1 KskDoubleDsRoll) ∷ []

-- double signatures, and a ZSK roll to a key of the tag that left: started in state 10, the second roll in 18
abbrev double_signatures : List (ℕ × Call)
double_signatures =
    (7200 * second, Start ZskDoubleSignatureRoll (A ∷ []) (B ∷ []))
    ∷ (7200 * second, Report1 ZskDoubleSignatureRoll 3600)
    ∷ (10800 * second, Wait1 ZskDoubleSignatureRoll)
    ∷ (10800 * second, Report2 ZskDoubleSignatureRoll 3600)
    ∷ (14400 * second, Wait2 ZskDoubleSignatureRoll)
    ∷ (14400 * second, Finish ZskDoubleSignatureRoll)
    ∷ (14400 * second, Delete A)
    ∷ fresh OfZsk C 1038
    ∷ (14400 * second, Start ZskRoll (B ∷ []) (C ∷ []))
    ∷ []

-- an algorithm roll of the ZSK, and a ZSK roll behind it: started in state 10, the second roll in 18
abbrev algorithm_roll : List (ℕ × Call)
algorithm_roll =
    (7200 * second, Start AlgorithmRoll (A ∷ []) (B ∷ []))
    ∷ (7200 * second, Report1 AlgorithmRoll 3600)
    ∷ (10800 * second, Wait1 AlgorithmRoll)
    ∷ (10800 * second, Report2 AlgorithmRoll 3600)
    ∷ (14400 * second, Wait2 AlgorithmRoll)
    ∷ (14400 * second, Finish AlgorithmRoll)
    ∷ (14400 * second, Delete A)
    ∷ fresh OfZsk C 1038
    ∷ (14400 * second, Start ZskRoll (B ∷ []) (C ∷ []))
    ∷ []

pub record RetiresAndMeets : Type 0 where
  pub all_accepted : length (lived zsk_roll) ∷ length (lived double_ds) ∷ length (lived double_signatures) ∷ length (lived algorithm_roll) ∷ [] ≡ 12 ∷ 13 ∷ 18 ∷ 18 ∷ []
  -- what the start of a ZSK roll showed stays good behind its first wait, and what stood before doesn't
  pub behind_the_start : met zsk_roll 9 10 12 ∷ met zsk_roll 9 10 10 ∷ [] ≡ true ∷ true ∷ []
  pub not_retired : is_retired DnskeyAnswer zsk_roll 10 10800 ∷ is_retired ZoneAnswer zsk_roll 10 10800 ∷ is_retired DsSet zsk_roll 9 10800 ∷ [] ≡ false ∷ false ∷ false ∷ []
  pub before_the_start : met zsk_roll 9 9 12 ≡ false
  pub retired_with_its_ttl : is_retired DnskeyAnswer zsk_roll 9 10799 ∷ is_retired DnskeyAnswer zsk_roll 9 10800 ∷ [] ≡ false ∷ true ∷ []
  -- the DS set of both keys fits the old keys' answer; the DS set of before doesn't fit the new key's, and is retired
  pub both_at_the_parent : met double_ds 13 11 11 ∷ is_retired DnskeyAnswer double_ds 11 7211 ∷ is_retired DsSet double_ds 13 7211 ∷ [] ≡ true ∷ false ∷ false ∷ []
  pub one_at_the_parent : met double_ds 10 13 13 ∷ is_retired DsSet double_ds 10 7209 ∷ is_retired DsSet double_ds 10 7210 ∷ [] ≡ false ∷ false ∷ true ∷ []
  -- an answer that two keys signed is retired with the TTL of the second report
  pub signed_twice : met double_signatures 18 18 10 ∷ is_retired ZoneAnswer double_signatures 10 14399 ∷ is_retired ZoneAnswer double_signatures 10 14400 ∷ [] ≡ true ∷ false ∷ true ∷ []
  -- the answer of both algorithms outlives the key whose tag another has by then
  pub signed_by_both_algorithms : met algorithm_roll 18 18 10 ∷ is_retired ZoneAnswer algorithm_roll 10 14401 ∷ [] ≡ true ∷ false ∷ []
