-- Fields whose numbers are what their octets say.
use Rattle.std.proofs.Common.{◌≡◌, ℕ, zero, suc, ◌/◌, ◌<◌, ◌^◌, List, ◌∷◌, ◌++◌, length, get_or, refl, arith, lit<}
use Rattle.std.specs.Int.{w16, w32, from_be_bytes, to_be_bytes}
use Rattle.std.specs.List.{flat_map}
use Rattle.std.proofs.Math.Nat.{mod-lt}
use Rattle.std.proofs.lemmas.Nat.{be_bytes_2, be_bytes_4, from_be_bytes-to_be_bytes_4}
use Rattle.definitions.specs.Name.{Name, low, wire}
use Rattle.definitions.specs.Signing.{Fields, signed_octets, signed_owner}

-- ---- numbers as their octets say them

small_16 : (n i : ℕ) → get_or (to_be_bytes w16 n) i 0 < 256
small_16 n zero = mod-lt (n / 256 ^ suc zero) (lit< tt)
small_16 n (suc zero) = mod-lt n (lit< tt)
small_16 n (suc (suc i)) = lit< tt

pub said_16 : ℕ → ℕ
said_16 n = from_be_bytes w16 (to_be_bytes w16 n)

back_16 : (n : ℕ) → to_be_bytes w16 (said_16 n) ≡ to_be_bytes w16 n
unfolding said_16
back_16 n = be_bytes_2 (to_be_bytes w16 n) (said_16 n) refl (small_16 n) refl

pub fits_16 : (n : ℕ) → said_16 n < 2 ^ 16
unfolding said_16
fits_16 n = omega (arith, small_16 n 0, small_16 n 1)

small_32 : (n i : ℕ) → get_or (to_be_bytes w32 n) i 0 < 256
small_32 n zero = mod-lt (n / 256 ^ suc (suc (suc zero))) (lit< tt)
small_32 n (suc zero) = mod-lt (n / 256 ^ suc (suc zero)) (lit< tt)
small_32 n (suc (suc zero)) = mod-lt (n / 256 ^ suc zero) (lit< tt)
small_32 n (suc (suc (suc zero))) = mod-lt n (lit< tt)
small_32 n (suc (suc (suc (suc i)))) = lit< tt

pub said_32 : ℕ → ℕ
said_32 n = from_be_bytes w32 (to_be_bytes w32 n)

back_32 : (n : ℕ) → to_be_bytes w32 (said_32 n) ≡ to_be_bytes w32 n
unfolding said_32
back_32 n = be_bytes_4 (to_be_bytes w32 n) (said_32 n) refl (small_32 n) refl

pub fits_32 : (n : ℕ) → said_32 n < 2 ^ 32
unfolding said_32
fits_32 n = omega (arith, small_32 n 0, small_32 n 1, small_32 n 2, small_32 n 3)

pub kept_32 : (n : ℕ) → n < 2 ^ 32 → said_32 n ≡ n
unfolding said_32
kept_32 n h = from_be_bytes-to_be_bytes_4 n h

-- ---- fields with such numbers

abbrev pub tidied : Fields → Fields
tidied f = record f { ttl = said_32 f.ttl; expiration = said_32 f.expiration; inception = said_32 f.inception; tag = said_16 f.tag }

abbrev octets_with : Fields → Name → List (List ℕ) → List ℕ → List ℕ → List ℕ → List ℕ → List ℕ
octets_with f owner ds ttl expiration inception tag =
    (to_be_bytes w16 f.covered ++ f.algorithm ∷ f.labels ∷ ttl ++ expiration ++ inception ++ tag ++ wire (low f.signer))
    ++ flat_map (λ d. wire (signed_owner f.labels owner) ++ to_be_bytes w16 f.covered ++ to_be_bytes w16 1 ++ ttl ++ to_be_bytes w16 (length d) ++ d) ds

pub tidied_octets : (f : Fields) (owner : Name) (ds : List (List ℕ)) → signed_octets (tidied f) owner 1 ds ≡ signed_octets f owner 1 ds
tidied_octets f owner ds = λ i. octets_with f owner ds (back_32 f.ttl i) (back_32 f.expiration i) (back_32 f.inception i) (back_16 f.tag i)
