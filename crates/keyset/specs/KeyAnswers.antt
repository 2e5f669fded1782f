-- What the calls of a key set return, beside the definitions.
use Rattle.std.specs.Prelude.{◌≡◌, List, [], Option, Some, None, Result, Ok, Err, IsSome, String, string_bytes}
use Rattle.std.specs.Global.{Vec}
use Rattle.std.specs.Duration.{as_nanos}
use Rattle.keyset_keys.specs.declared.errors.Error.{Error}
use Rattle.keyset_keys.specs.declared.errors.Error.TheVariants as error
use Rattle.keyset.specs.KeyState as keys
use Rattle.keyset_rolls.specs.declared.rolls.Action.{Action}
use Rattle.keyset.specs.KeyState.{Key, KeySetState, Answer, Reference, Refusal, add, write}

-- the refusal that an error says; none where memory ran out
abbrev pub refusal_of : Error → Option Refusal
refusal_of error.KeyExists = Some keys.KeyExists
refusal_of error.KeyNotFound = Some keys.KeyNotFound
refusal_of error.KeyNotOld = Some keys.KeyNotOld
refusal_of error.DuplicateKeyTag = Some keys.DuplicateKeyTag
refusal_of error.WrongKeyType = Some keys.WrongKeyType
refusal_of error.WrongKeyState = Some keys.WrongKeyState
refusal_of error.NoSuitableKeyPresent = Some keys.NoSuitableKeyPresent
refusal_of error.WrongStateForRollOperation = Some keys.WrongStateForRollOperation
refusal_of error.ConflictingRollInProgress = Some keys.ConflictingRollInProgress
refusal_of error.AlgorithmSetsMismatch = Some keys.AlgorithmSetsMismatch
refusal_of (error.Wait rest) = Some (keys.Wait (as_nanos rest))
refusal_of error.UnknownRollType = Some keys.UnknownRollType
refusal_of error.MissingTimestamp = Some keys.MissingTimestamp
refusal_of error.Memory = None

-- a setting of a key is refused for this reason
abbrev pub IsRefusedAs : Option Refusal → Result Key Refusal → Type 0
IsRefusedAs None set = ⊥
IsRefusedAs (Some refusal) set = set ≡ Err refusal

-- an accepted call
abbrev pub IsAccepted : Answer → Type 0
IsAccepted (Ok a) = Unit {0}
IsAccepted (Err e) = ⊥

-- The error says why the answer is a refusal, or that memory ran out. Memory comes last: it can be what is missing only
-- where the call would have been accepted.
abbrev pub Fails : Option Refusal → Answer → Type 0
Fails None answer = IsAccepted answer
Fails (Some refusal) answer = answer ≡ Err refusal

-- What a call returned, seen by view, and what it left, are what the definition gives, unless memory ran out for what an
-- accepted call needs. Then, and where the call is refused, nothing changed.
abbrev pub Gives : {X : Type 0} → (X → List Action) → KeySetState → KeySetState → Result X Error → Answer → Type 0
Gives view old new (Ok x) answer = answer ≡ Ok (new, view x)
Gives view old new (Err e) answer = (new ≡ old) × Fails (refusal_of e) answer

-- the answer of a call that takes no memory is this refusal
abbrev pub Refuses : Option Refusal → Answer → Type 0
Refuses None answer = ⊥
Refuses (Some refusal) answer = answer ≡ Err refusal

abbrev pub GivesAtOnce : {X : Type 0} → (X → List Action) → KeySetState → KeySetState → Result X Error → Answer → Type 0
GivesAtOnce view old new (Ok x) answer = answer ≡ Ok (new, view x)
GivesAtOnce view old new (Err e) answer = (new ≡ old) × Refuses (refusal_of e) answer

-- what calls returned and left is what the definition gives, for calls that answer actions and for calls that answer
-- nothing
abbrev pub Acts : KeySetState → KeySetState → Result (Vec Action) Error → Answer → Type 0
Acts old new result answer = Gives (λ (v : Vec Action). v.items) old new result answer

abbrev pub Changes : KeySetState → KeySetState → Result (Unit {0}) Error → Answer → Type 0
Changes old new result answer = Gives (λ _. []) old new result answer

-- the call added this key
abbrev pub Adds : {A : Type 0} → KeySetState → KeySetState → Result (Unit {0}) Error → String A → Key → Type 0
Adds old new result reference key = Changes old new result (add (string_bytes reference) key old)

-- the call set something of a key
abbrev pub Writes : KeySetState → KeySetState → Result (Unit {0}) Error → (Key → Result Key Refusal) → Reference → Type 0
Writes old new result set reference = GivesAtOnce (λ _. []) old new result (write set reference old)

-- the call listed these actions, unless memory ran out
abbrev pub Lists : List Action → Result (Vec Action) Error → Type 0
Lists actions (Ok v) = v.items ≡ actions
Lists actions (Err e) = e ≡ error.Memory

-- a setting changed a key as it says, or was refused and changed nothing
abbrev pub Sets : {X : Type 0} → Key → Key → Result X Error → Result Key Refusal → Type 0
Sets old new (Ok x) set = set ≡ Ok new
Sets old new (Err e) set = (new ≡ old) × IsRefusedAs (refusal_of e) set

-- a check found this fault, or none
abbrev pub Finds : {X : Type 0} → Result X Error → Option Refusal → Type 0
Finds (Ok x) fault = fault ≡ None
Finds (Err e) fault = (fault ≡ refusal_of e) × IsSome fault
