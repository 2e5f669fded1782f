-- Salts are read back from their texts (RFC 5155, 3.3).
use Rattle.std.specs.Prelude.{◌≡◌, ◌⊎◌, ℕ, ◌<◌, ◌≤◌, List, length, Result, Ok, Err}
use Rattle.std.specs.List.{AllByRecursion}
use Rattle.denial_fields.specs.Texts.{salt_text, ReadsSalt}
use Rattle.denial_fields.specs.declared.error.Nsec3SaltFromStrError.{Nsec3SaltFromStrError}
use Rattle.denial_fields.specs.declared.error.Nsec3SaltFromStrError.TheVariants as salt

abbrev pub SaltsAreReadBack : Type 0
SaltsAreReadBack =
    (octets : List ℕ) (r : Result (List ℕ) Nsec3SaltFromStrError) → AllByRecursion (λ o. o < 256) octets → length octets ≤ 255
    → ReadsSalt (salt_text octets) r → (r ≡ Ok octets) ⊎ (r ≡ Err salt.Memory)
