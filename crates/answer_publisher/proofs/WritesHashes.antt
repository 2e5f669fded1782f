-- The data of a chain of hashes are read, whatever its parameters.
use Rattle.std.proofs.Common.{◌≡◌, ℕ, zero, suc, ◌/◌, ◌<◌, ◌^◌, List, ◌∷◌, ◌++◌, length, get_or, Some, refl, subst, ap, arith, lit<}
use Rattle.std.specs.Int.{w16, from_be_bytes, to_be_bytes}
use Rattle.std.proofs.Math.Nat.{mod-lt}
use Rattle.std.proofs.lemmas.Nat.{be_bytes_2}
use Rattle.definitions.specs.Bitmap.{bitmap}
use Rattle.definitions.specs.Name.{Name}
use Rattle.definitions.specs.Zone.{Zone}
use Rattle.definitions.specs.ZoneChain.{ChainParameters, excludes, flags_of, nsec3_data, nsec3_next, nsec3_types}
use Rattle.messages.specs.Message.{HashedNext, nsec3_of}
use Rattle.messages.proofs.Nsec3Read.{chain_reads}

octets_small : (n i : ℕ) → get_or (to_be_bytes w16 n) i 0 < 256
octets_small n zero = mod-lt (n / 256 ^ suc zero) (lit< tt)
octets_small n (suc zero) = mod-lt n (lit< tt)
octets_small n (suc (suc i)) = lit< tt

-- the number that two octets say
said : ℕ → ℕ
said n = from_be_bytes w16 (to_be_bytes w16 n)

said_so : (n : ℕ) → to_be_bytes w16 (said n) ≡ to_be_bytes w16 n
unfolding said
said_so n = be_bytes_2 (to_be_bytes w16 n) (said n) refl (octets_small n) refl

said_small : (n : ℕ) → said n < 65536
unfolding said
said_small n = omega (arith, octets_small n 0, octets_small n 1)

pub chain_is_read : (hash : Name → List ℕ) (z : Zone) (p : ChainParameters) (o : Name) → (n : HashedNext) × (nsec3_of (nsec3_data hash z p o) ≡ Some n)
chain_is_read hash z p o =
    let next = nsec3_next hash z (excludes p) o in
    let bits = bitmap (nsec3_types z p.dnskey o) in
    let q : ChainParameters = record p { iterations = said p.iterations } in
    let n : HashedNext = record { algorithm = p.algorithm; flags = flags_of p; iterations = said p.iterations; salt = p.salt; next = next; bits = bits } in
    let same : nsec3_data hash z q o ≡ nsec3_data hash z p o = ap (λ octets. p.algorithm ∷ flags_of p ∷ octets ++ length p.salt ∷ p.salt ++ length next ∷ next ++ bits) (said_so p.iterations) in
    (n, subst (λ d. nsec3_of d ≡ Some n) same (chain_reads hash z q o (said_small p.iterations)))
