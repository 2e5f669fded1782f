-- Hashes are read back from their texts (RFC 5155, 3.3).
use Rattle.std.specs.Prelude.{◌≡◌, ◌⊎◌, ℕ, ◌<◌, ◌≤◌, List, length, Result, Ok, Err, IfOk}
use Rattle.std.specs.List.{AllByRecursion}
use Rattle.definitions.specs.Base32hex.{base32hex}
use Rattle.numbers.specs.declared.base32hex.DecodeError.TheVariants as decode
use Rattle.denial_fields.specs.Texts.{ReadsHash}
use Rattle.denial_fields.specs.declared.error.OwnerHashFromStrError.{OwnerHashFromStrError}
use Rattle.denial_fields.specs.declared.error.OwnerHashFromStrError.TheVariants.{DecodeError, Memory}

-- there was no memory for the hash, or for its digits
abbrev pub WantsMemory : Result (List ℕ) OwnerHashFromStrError → Type 0
WantsMemory r = (r ≡ Err Memory) ⊎ (r ≡ Err (DecodeError decode.Memory))

abbrev pub HashesAreReadBack : Type 0
HashesAreReadBack =
    (octets : List ℕ) (r : Result (List ℕ) OwnerHashFromStrError) → AllByRecursion (λ o. o < 256) octets → length octets ≤ 255
    → IfOk r (AllByRecursion (λ o. o < 256)) → ReadsHash (base32hex octets) r → (r ≡ Ok octets) ⊎ WantsMemory r
