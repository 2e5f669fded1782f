-- What the flags of a key print, and why a call is refused.
use Rattle.std.specs.Prelude.{ℕ, ◌-◌, ◌^◌, ◌/◌, ◌%◌, Bool, true, false, List, [], ◌∷◌, ◌++◌, codes, decimal}
use Rattle.std.specs.Duration.{as_nanos}
use Rattle.std.specs.Fmt.{padded_integral, format_spec}
use Rattle.std.specs.declared.time.Duration.{Duration}
use Rattle.keyset_keys.specs.declared.errors.Error.{Error}
use Rattle.keyset_keys.specs.declared.errors.Error.TheVariants as error
use Rattle.keyset_keys.specs.Keys.{Flags}

-- texts with a comma and a blank between two
abbrev pub joined : List (List ℕ) → List ℕ
joined [] = []
joined (t ∷ []) = t
joined (t ∷ u ∷ us) = t ++ codes ", " ++ joined (u ∷ us)

abbrev pub where_set : Bool → List ℕ → List (List ℕ)
where_set true t = t ∷ []
where_set false t = []

-- the stage of a key, by old, signer and present
abbrev pub stage : Bool → Bool → Bool → List ℕ
stage false false false = codes "(Future)"
stage false false true = codes " (Incoming)"
stage false true false = []
stage false true true = codes " (Active)"
stage true true true = codes " (Leaving)"
stage true false true = codes " (Retired)"
stage true false false = codes " (Stale)"
stage true true false = []

abbrev pub flags_text : Flags → List ℕ
flags_text f =
    joined (where_set f.old (codes "Old") ++ where_set f.signer (codes "Signer") ++ where_set f.present (codes "Present") ++ where_set f.at_parent (codes "At Parent"))
    ++ stage f.old f.signer f.present

-- whole seconds, and nine digits of nanoseconds
abbrev pub seconds_text : Duration → List ℕ
seconds_text d = decimal (as_nanos d / 1000000000) ++ 46 ∷ padded_integral (format_spec 32 0 4 9 (2 ^ 64 - 1)) false [] (decimal (as_nanos d % 1000000000))

abbrev pub error_text : Error → List ℕ
error_text error.KeyExists = codes "key already exists"
error_text error.KeyNotFound = codes "key not found"
error_text error.KeyNotOld = codes "key is still in use, not old"
error_text error.DuplicateKeyTag = codes "Key tag already present"
error_text error.WrongKeyType = codes "key has the wrong type"
error_text error.WrongKeyState = codes "key is in the wrong state"
error_text error.NoSuitableKeyPresent = codes "no suitable key present after key roll"
error_text error.WrongStateForRollOperation = codes "wrong roll state for operation"
error_text error.ConflictingRollInProgress = codes "conflicting roll is in progress"
error_text error.AlgorithmSetsMismatch = codes "algorithm set mismatch for non-algorithm key roll"
error_text (error.Wait rest) = codes "wait for duration " ++ seconds_text rest ++ codes "s"
error_text error.UnknownRollType = codes "unable to parse string as roll type"
error_text error.MissingTimestamp = codes "timestamp is missing"
error_text error.Memory = codes "out of memory"
