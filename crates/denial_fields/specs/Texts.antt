-- Salts and hashes as text (RFC 5155, 3.3).
use Rattle.std.specs.Prelude.{◌≡◌, ℕ, ◌<◌, ◌≤◌, List, [], ◌∷◌, length, codes, Result, Ok, Err, if◌then◌else◌}
use Rattle.std.specs.Str.{bytes_eq, str_to_ascii_lowercase}
use Rattle.hex.specs.Hex.{decode_of}
use Rattle.definitions.specs.Base32hex.{base32hex}
use Rattle.names_rdata.specs.Unknown.{hex}
use Rattle.numbers.specs.Refusing.{RefusedText}
use Rattle.denial_fields.specs.declared.error.Nsec3SaltFromStrError.{Nsec3SaltFromStrError}
use Rattle.denial_fields.specs.declared.error.Nsec3SaltFromStrError.TheVariants as salt
use Rattle.denial_fields.specs.declared.error.OwnerHashFromStrError.{OwnerHashFromStrError}
use Rattle.denial_fields.specs.declared.error.OwnerHashFromStrError.TheVariants as hash

-- the text of a salt: two digits an octet, or a hyphen for no octets
abbrev pub salt_text : List ℕ → List ℕ
salt_text [] = codes "-"
salt_text (o ∷ octets) = hex (o ∷ octets)

-- a text's digits: a hyphen stands for none
abbrev pub salt_digits : List ℕ → List ℕ
salt_digits text = if bytes_eq text (codes "-") then [] else text

-- the salt of the digits; or why there is none
abbrev pub ReadsSalt : List ℕ → Result (List ℕ) Nsec3SaltFromStrError → Type 0
ReadsSalt text (Ok salt) = (decode_of (salt_digits text) ≡ Ok salt) × (length salt ≤ 255)
ReadsSalt text (Err (salt.DecodeError e)) = decode_of (salt_digits text) ≡ Err e
ReadsSalt text (Err (salt.Nsec3SaltError e)) = (octets : List ℕ) × (decode_of (salt_digits text) ≡ Ok octets) × (255 < length octets)
ReadsSalt text (Err salt.Memory) = Unit {0}

-- the octets of the digits, in either case; or why there are none
abbrev pub ReadsHash : List ℕ → Result (List ℕ) OwnerHashFromStrError → Type 0
ReadsHash text (Ok octets) = (base32hex octets ≡ str_to_ascii_lowercase text) × (length octets ≤ 255)
ReadsHash text (Err (hash.DecodeError e)) = RefusedText text e
ReadsHash text (Err (hash.OwnerHashError e)) = (octets : List ℕ) × (base32hex octets ≡ str_to_ascii_lowercase text) × (255 < length octets)
ReadsHash text (Err hash.Memory) = Unit {0}
