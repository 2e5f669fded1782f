-- Rolls worked through by computing.
use Rattle.std.specs.Prelude.{◌≡◌, ℕ, ◌*◌, true, List, [], ◌∷◌, map, ◌++◌, None, codes, Err}
use Rattle.keyset_rolls.specs.declared.rolls.RollType.{RollType}
use Rattle.keyset_rolls.specs.declared.rolls.RollType.TheVariants.{KskRoll, KskDoubleDsRoll, ZskRoll, ZskDoubleSignatureRoll, CskRoll, AlgorithmRoll}
use Rattle.keyset.specs.KeyState.{AlgorithmSetsMismatch, ConflictingRollInProgress, DuplicateKeyTag, KeyExists, KeyNotFound, KeySetState, MissingTimestamp, NoSuitableKeyPresent, Reference, Wait, WrongKeyState, WrongKeyType, WrongStateForRollOperation, ds, keysigners, phase_of, present, zonesigners}
use Rattle.keyset.specs.KeyRuns.{Add, Call, Delete, Finish, Kind, OfCsk, OfKsk, OfZsk, Report1, Report2, SetPresent, SetVisible, Start, Wait1, Wait2, all_accepted, behind, no_keys, on_state}

abbrev pub second : ℕ
second = 1000000000

-- the keys present, those that sign the keys, those that sign the zone, and those at the parent
abbrev pub published : KeySetState → List (List Reference)
published s = present s ∷ keysigners s ∷ zonesigners s ∷ ds s ∷ []

-- an add of an available key for algorithm 13
abbrev pub fresh : Kind → Reference → ℕ → ℕ × Call
fresh kind q tag = (0, Add q (record { kind = kind; private = None; algorithm = 13; tag = tag; created = 0; available = true }))

-- a roll with TTLs of an hour: its start, the calls up to its first wait, those up to its second, and its end
abbrev pub start_of : RollType → List Reference → List Reference → List (ℕ × Call)
start_of r olds news = (0, Start r olds news) ∷ []

abbrev pub first_half : RollType → List (ℕ × Call)
first_half r = (0, Report1 r 3600) ∷ (3600 * second, Wait1 r) ∷ []

abbrev pub second_half : RollType → List (ℕ × Call)
second_half r = (3600 * second, Report2 r 3600) ∷ (7200 * second, Wait2 r) ∷ []

abbrev pub end_of : RollType → List Reference → List (ℕ × Call)
end_of r olds = (7200 * second, Finish r) ∷ map (λ q. (7200 * second, Delete q)) olds

abbrev pub rolled : RollType → List Reference → List Reference → KeySetState → KeySetState
rolled r olds news s = behind s (start_of r olds news ++ first_half r ++ second_half r ++ end_of r olds)

-- who is published behind the start, the first wait and the second, where each call is accepted
pub record Publishes (r : RollType) (olds news : List Reference) (s : KeySetState) (started waited1 waited2 : List (List Reference)) : Type 0 where
  pub accepted : all_accepted s (start_of r olds news ++ first_half r ++ second_half r ++ end_of r olds) ≡ true
  pub after_start : published (behind s (start_of r olds news)) ≡ started
  pub after_wait1 : published (behind s (start_of r olds news ++ first_half r)) ≡ waited1
  pub after_wait2 : published (behind s (start_of r olds news ++ first_half r ++ second_half r)) ≡ waited2

-- ---- seven rolls, one after another

abbrev K1 : Reference
K1 = codes "K1"

abbrev K2 : Reference
K2 = codes "K2"

abbrev K3 : Reference
K3 = codes "K3"

abbrev Z1 : Reference
Z1 = codes "Z1"

abbrev Z2 : Reference
Z2 = codes "Z2"

abbrev Z3 : Reference
Z3 = codes "Z3"

abbrev C1 : Reference
C1 = codes "C1"

abbrev C2 : Reference
C2 = codes "C2"

abbrev set1 : KeySetState
set1 = behind (no_keys (codes "example" ∷ codes "com" ∷ [])) (fresh OfKsk K1 0 ∷ fresh OfZsk Z1 1 ∷ [])

abbrev set2 : KeySetState
set2 = behind (rolled AlgorithmRoll [] (K1 ∷ Z1 ∷ []) set1) (fresh OfKsk K2 2 ∷ fresh OfZsk Z2 3 ∷ [])

abbrev set3 : KeySetState
set3 = behind (rolled ZskRoll (Z1 ∷ []) (Z2 ∷ []) set2) (fresh OfZsk Z3 4 ∷ [])

abbrev set4 : KeySetState
set4 = rolled ZskDoubleSignatureRoll (Z2 ∷ []) (Z3 ∷ []) set3

abbrev set5 : KeySetState
set5 = behind (rolled KskRoll (K1 ∷ []) (K2 ∷ []) set4) (fresh OfKsk K3 5 ∷ [])

abbrev set6 : KeySetState
set6 = behind (rolled KskDoubleDsRoll (K2 ∷ []) (K3 ∷ []) set5) (fresh OfCsk C1 0 ∷ [])

abbrev set7 : KeySetState
set7 = behind (rolled CskRoll (K3 ∷ Z3 ∷ []) (C1 ∷ []) set6) (fresh OfCsk C2 4 ∷ [])

pub record RollsSevenTimes : Type 0 where
  pub algorithm : Publishes AlgorithmRoll [] (K1 ∷ Z1 ∷ []) set1
      ((K1 ∷ Z1 ∷ []) ∷ (K1 ∷ []) ∷ (Z1 ∷ []) ∷ [] ∷ [])
      ((K1 ∷ Z1 ∷ []) ∷ (K1 ∷ []) ∷ (Z1 ∷ []) ∷ (K1 ∷ []) ∷ [])
      ((K1 ∷ Z1 ∷ []) ∷ (K1 ∷ []) ∷ (Z1 ∷ []) ∷ (K1 ∷ []) ∷ [])
  pub zsk : Publishes ZskRoll (Z1 ∷ []) (Z2 ∷ []) set2
      ((K1 ∷ Z1 ∷ Z2 ∷ []) ∷ (K1 ∷ []) ∷ (Z1 ∷ []) ∷ (K1 ∷ []) ∷ [])
      ((K1 ∷ Z1 ∷ Z2 ∷ []) ∷ (K1 ∷ []) ∷ (Z2 ∷ []) ∷ (K1 ∷ []) ∷ [])
      ((K1 ∷ Z2 ∷ []) ∷ (K1 ∷ []) ∷ (Z2 ∷ []) ∷ (K1 ∷ []) ∷ [])
  pub zsk_double_signature : Publishes ZskDoubleSignatureRoll (Z2 ∷ []) (Z3 ∷ []) set3
      ((K1 ∷ Z2 ∷ Z3 ∷ []) ∷ (K1 ∷ []) ∷ (Z2 ∷ Z3 ∷ []) ∷ (K1 ∷ []) ∷ [])
      ((K1 ∷ Z3 ∷ []) ∷ (K1 ∷ []) ∷ (Z3 ∷ []) ∷ (K1 ∷ []) ∷ [])
      ((K1 ∷ Z3 ∷ []) ∷ (K1 ∷ []) ∷ (Z3 ∷ []) ∷ (K1 ∷ []) ∷ [])
  pub ksk : Publishes KskRoll (K1 ∷ []) (K2 ∷ []) set4
      ((K1 ∷ K2 ∷ Z3 ∷ []) ∷ (K1 ∷ K2 ∷ []) ∷ (Z3 ∷ []) ∷ (K1 ∷ []) ∷ [])
      ((K1 ∷ K2 ∷ Z3 ∷ []) ∷ (K1 ∷ K2 ∷ []) ∷ (Z3 ∷ []) ∷ (K2 ∷ []) ∷ [])
      ((K2 ∷ Z3 ∷ []) ∷ (K2 ∷ []) ∷ (Z3 ∷ []) ∷ (K2 ∷ []) ∷ [])
  pub ksk_double_ds : Publishes KskDoubleDsRoll (K2 ∷ []) (K3 ∷ []) set5
      ((K2 ∷ Z3 ∷ []) ∷ (K2 ∷ []) ∷ (Z3 ∷ []) ∷ (K2 ∷ K3 ∷ []) ∷ [])
      ((K3 ∷ Z3 ∷ []) ∷ (K3 ∷ []) ∷ (Z3 ∷ []) ∷ (K2 ∷ K3 ∷ []) ∷ [])
      ((K3 ∷ Z3 ∷ []) ∷ (K3 ∷ []) ∷ (Z3 ∷ []) ∷ (K3 ∷ []) ∷ [])
  pub to_csk : Publishes CskRoll (K3 ∷ Z3 ∷ []) (C1 ∷ []) set6
      ((C1 ∷ K3 ∷ Z3 ∷ []) ∷ (C1 ∷ K3 ∷ []) ∷ (Z3 ∷ []) ∷ (K3 ∷ []) ∷ [])
      ((C1 ∷ K3 ∷ Z3 ∷ []) ∷ (C1 ∷ K3 ∷ []) ∷ (C1 ∷ []) ∷ (C1 ∷ []) ∷ [])
      ((C1 ∷ []) ∷ (C1 ∷ []) ∷ (C1 ∷ []) ∷ (C1 ∷ []) ∷ [])
  pub csk : Publishes CskRoll (C1 ∷ []) (C2 ∷ []) set7
      ((C1 ∷ C2 ∷ []) ∷ (C1 ∷ C2 ∷ []) ∷ (C1 ∷ []) ∷ (C1 ∷ []) ∷ [])
      ((C1 ∷ C2 ∷ []) ∷ (C1 ∷ C2 ∷ []) ∷ (C2 ∷ []) ∷ (C2 ∷ []) ∷ [])
      ((C2 ∷ []) ∷ (C2 ∷ []) ∷ (C2 ∷ []) ∷ (C2 ∷ []) ∷ [])

-- ---- calls that are refused on the way

abbrev started1 : KeySetState
started1 = behind set1 (start_of AlgorithmRoll [] (K1 ∷ Z1 ∷ []))

abbrev double_ds : List (ℕ × Call)
double_ds = (0, Start KskDoubleDsRoll (K1 ∷ []) (K2 ∷ [])) ∷ (0, Report1 KskDoubleDsRoll 10) ∷ (10 * second, Wait1 KskDoubleDsRoll) ∷ (11 * second, Report2 KskDoubleDsRoll 3600) ∷ []

abbrev double_signatures : List (ℕ × Call)
double_signatures =
    (0, Start ZskDoubleSignatureRoll (Z1 ∷ []) (Z2 ∷ []))
    ∷ (0, Report1 ZskDoubleSignatureRoll 3600)
    ∷ (3600 * second, Wait1 ZskDoubleSignatureRoll)
    ∷ (3600 * second, Report2 ZskDoubleSignatureRoll 3600)
    ∷ []

-- a KSK roll beside a future KSK that no list names
abbrev future_beside : KeySetState
future_beside = behind set2 (fresh OfKsk K3 5 ∷ (0, Start KskRoll (K1 ∷ []) (K2 ∷ [])) ∷ (0, Report1 KskRoll 10) ∷ [])

-- a KSK roll to two keys, of which one was seen later
abbrev later_seen : KeySetState
later_seen = behind set2 (fresh OfKsk K3 5 ∷ (0, Start KskRoll (K1 ∷ []) (K2 ∷ K3 ∷ [])) ∷ (0, Report1 KskRoll 10) ∷ (0, SetVisible K3 (5 * second)) ∷ [])

-- the only ZSK is a future one
abbrev future_zsk : KeySetState
future_zsk = behind (no_keys []) (fresh OfZsk Z1 1 ∷ [])

pub record RefusesOnTheWay : Type 0 where
  pub too_early : on_state (Wait1 AlgorithmRoll) (3594 * second) (behind started1 ((0, Report1 AlgorithmRoll 3600) ∷ [])) ≡ Err (Wait (6 * second))
  pub listed_twice : on_state (Start AlgorithmRoll [] (K1 ∷ Z1 ∷ K1 ∷ [])) 0 set1 ≡ Err WrongKeyState
  pub missing_between : on_state (Start AlgorithmRoll [] (K1 ∷ codes "A" ∷ K1 ∷ [])) 0 set1 ≡ Err KeyNotFound
  pub in_both_lists : on_state (Start AlgorithmRoll (K1 ∷ []) (K1 ∷ Z1 ∷ [])) 0 set1 ≡ Err WrongKeyState
  pub without_zsk : on_state (Start AlgorithmRoll [] (K1 ∷ [])) 0 set1 ≡ Err NoSuitableKeyPresent
  pub running : on_state (Start AlgorithmRoll [] []) 0 started1 ≡ Err WrongStateForRollOperation
  pub conflicting : on_state (Start KskRoll [] []) 0 started1 ≡ Err ConflictingRollInProgress
  pub zsk_in_a_ksk_roll : on_state (Start KskRoll (Z1 ∷ []) []) 0 set1 ≡ Err WrongKeyType
  pub another_algorithm : on_state (Start CskRoll [] (K1 ∷ [])) 0 set1 ≡ Err AlgorithmSetsMismatch
  pub future_zsk_alone : on_state (Start ZskRoll [] []) 0 future_zsk ≡ Err NoSuitableKeyPresent
  pub same_tag : on_state ((fresh OfKsk (codes "A") 1).1) 0 set1 ≡ Err DuplicateKeyTag
  pub same_reference : on_state ((fresh OfKsk K1 2).1) 0 set1 ≡ Err KeyExists
  pub double_ds_too_early : on_state (Wait2 KskDoubleDsRoll) (3605 * second) (behind set2 double_ds) ≡ Err (Wait (6 * second))
  pub double_ds_accepted : all_accepted set2 (double_ds ++ (3611 * second, Wait2 KskDoubleDsRoll) ∷ []) ≡ true
  pub double_signatures_too_early : on_state (Wait2 ZskDoubleSignatureRoll) (3600 * second) (behind set2 double_signatures) ≡ Err (Wait (3600 * second))
  pub double_signatures_accepted : all_accepted set2 (double_signatures ++ (7200 * second, Wait2 ZskDoubleSignatureRoll) ∷ []) ≡ true
  pub future_key_is_passed_over : all_accepted future_beside ((10 * second, Wait1 KskRoll) ∷ []) ≡ true
  pub unseen_key_is_missed : on_state (Wait1 KskRoll) (10 * second) (behind future_beside ((0, SetPresent K3 true) ∷ [])) ≡ Err MissingTimestamp
  pub greatest_rest : on_state (Wait1 KskRoll) (8 * second) later_seen ≡ Err (Wait (7 * second))
  pub beside_each_other : all_accepted set2 ((0, Start KskRoll (K1 ∷ []) (K2 ∷ [])) ∷ (0, Start ZskRoll (Z1 ∷ []) (Z2 ∷ [])) ∷ []) ≡ true
  pub ended : phase_of (rolled AlgorithmRoll [] (K1 ∷ Z1 ∷ []) set1) AlgorithmRoll ≡ None
