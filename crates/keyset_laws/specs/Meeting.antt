-- The law of rollovers: what is not retired meets.
use Rattle.std.specs.Prelude.{Result, Err, is_ok, take, ◌⊎◌, ◌≡◌, ℕ, Bool, true, false, not, ◌&&◌, ◌||◌, List, [], ◌∷◌, Some, nat_le, slice_get}
use Rattle.std.specs.Global.{Vec}
use Rattle.std.specs.List.{list_all, list_any}
use Rattle.keyset_keys.specs.declared.errors.Error.{Error}
use Rattle.keyset_keys.specs.declared.errors.Error.TheVariants.{Memory}
use Rattle.keyset_rolls.specs.declared.rolls.Action.{Action}
use Rattle.keyset_rolls.specs.declared.rolls.RollType.{RollType}
use Rattle.keyset_rolls.specs.declared.rolls.RollType.TheVariants.{KskRoll, KskDoubleDsRoll, CskRoll, AlgorithmRoll}
use Rattle.keyset.specs.KeyState.{Answer, KeySetState, ds}
use Rattle.keyset.specs.KeyAnswers.{Acts, Changes, GivesAtOnce}
use Rattle.keyset.specs.KeyRuns.{Call, behind, is_accepted, left, no_keys, on_state}
use Rattle.keyset.specs.KeyRunLaws.{Reports, by_rolls_alone}
use Rattle.keyset_laws.specs.KeyLife.{DnskeyAnswer, DsSet, Step, ZoneAnswer, accepted, is_first_wait, is_start, meet, retired, states}
use Rattle.keyset_laws.specs.Anchors.{Kept, Life, Unborn}
use Rattle.keyset_laws.specs.Sides.{Side, is_empty}

-- the starts of rolls that take a DS set for granted
abbrev pub starts_from_ds : Call → Bool
starts_from_ds c = is_start KskRoll c || is_start KskDoubleDsRoll c || is_start CskRoll c

-- whether none of these stands before the first start of a roll of the algorithm, by which a zone's first DS set comes
abbrev pub algorithm_first : List Step → Bool
algorithm_first [] = true
algorithm_first (t ∷ ts) = is_start AlgorithmRoll t.call || (not (starts_from_ds t.call) && algorithm_first ts)

-- whether no call comes behind a moment
abbrev pub by_then : ℕ → List (ℕ × Call) → Bool
by_then moment cs = list_all (λ c. nat_le c.0 moment) cs

-- Whatever calls a key set has behind it, accepted and refused, by this moment, none of which set a flag or a stamp by hand or
-- started a roll of KSKs or CSKs before one of the algorithm: a DS set that isn't empty, a DNSKEY answer and an answer of the zone,
-- each of some state, meet where none of the three is retired at the moment (RFC 6781, section 4.1; RFC 7583).
abbrev pub UnretiredThingsMeet : Type 0
UnretiredThingsMeet = (name : List (List ℕ)) (cs : List (ℕ × Call)) (moment i j k : ℕ) (x y z : KeySetState) → by_rolls_alone cs ≡ true → by_then moment cs ≡ true →
    let s = no_keys name in
    let ts = accepted s cs in
    algorithm_first ts ≡ true
    → slice_get (states s ts) i ≡ Some x → slice_get (states s ts) j ≡ Some y → slice_get (states s ts) k ≡ Some z
    → retired DsSet s ts i moment ≡ false → retired DnskeyAnswer s ts j moment ≡ false → retired ZoneAnswer s ts k moment ≡ false
    → is_empty (ds x) ≡ false → meet x y z ≡ true

-- What each roll keeps, behind such calls: either no DS set was published yet and no roll that may publish one runs, or each side of a
-- validation is kept.
abbrev pub RollsKeepSides : Type 0
RollsKeepSides = (name : List (List ℕ)) (cs : List (ℕ × Call)) (moment : ℕ) → by_rolls_alone cs ≡ true → by_then moment cs ≡ true →
    let s = behind (no_keys name) cs in
    let life : Life = record { start = no_keys name; steps = accepted (no_keys name) cs; moment = moment } in
    algorithm_first life.steps ≡ true → (p : RollType → Reports) × (Unborn life life.steps s ⊎ ((side : Side) → Kept side life life.steps s p))

-- Behind such calls an empty DS set is that of a state before the first wait of the first roll of the algorithm: that wait is not
-- among the calls before it.
abbrev pub EmptyDsSetsComeFirst : Type 0
EmptyDsSetsComeFirst = (name : List (List ℕ)) (cs : List (ℕ × Call)) (i : ℕ) (x : KeySetState) → by_rolls_alone cs ≡ true →
    let s = no_keys name in
    let ts = accepted s cs in
    algorithm_first ts ≡ true → slice_get (states s ts) i ≡ Some x → is_empty (ds x) ≡ true → list_any (λ t. is_first_wait AlgorithmRoll t.call) (take i ts) ≡ false

-- A call of a key set left the keys that the list of calls goes on from, and was accepted where it returned Ok. Only where memory
-- ran out is it none of the list; it changed nothing then.
abbrev pub GoesOn : {X : Type 0} → KeySetState → KeySetState → Result X Error → Answer → Type 0
GoesOn old new result answer = (result ≡ Err Memory) × (new ≡ old) ⊎ (new ≡ left old answer) × (is_ok result ≡ is_accepted answer)

-- what the contracts of a key set's calls say: of those that answer actions, of those that don't, and of those that take no memory
pub record CallsMakeLives : Type 0 where
  pub acting : (old new : KeySetState) (result : Result (Vec Action) Error) (c : Call) (now : ℕ) → Acts old new result (on_state c now old) → GoesOn old new result (on_state c now old)
  pub changing : (old new : KeySetState) (result : Result (Unit {0}) Error) (c : Call) (now : ℕ) → Changes old new result (on_state c now old) → GoesOn old new result (on_state c now old)
  pub at_once : (old new : KeySetState) (result : Result (Unit {0}) Error) (c : Call) (now : ℕ) → GivesAtOnce (λ _. []) old new result (on_state c now old) → (new ≡ left old (on_state c now old)) × (is_ok result ≡ is_accepted (on_state c now old))
