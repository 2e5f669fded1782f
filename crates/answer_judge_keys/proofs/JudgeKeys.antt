-- Keys and the data that spell them.
use Rattle.std.proofs.Common.{arith, Fits, w8, ◌≡◌, ℕ, zero, suc, ◌+◌, ◌-◌, ◌*◌, ◌<◌, length, take, drop, List, [], ◌∷◌, ◌++◌, Some, get_or, refl, sym, ap, ◌∙◌}
use Rattle.std.specs.Int.{w16, to_be_bytes}
use Rattle.std.specs.Prelude.{slice_range}
use Rattle.std.proofs.lemmas.List.{get_or-take, get_or-drop}
use Rattle.std.proofs.lemmas.Nat.{be_bytes_2}
use Rattle.definitions.specs.Dnskey.{Dnskey, dnskey_data, dnskey_of_data}

two_small : (a b : ℕ) → a < 256 → b < 256 → (i : ℕ) → get_or (a ∷ b ∷ []) i 0 < 256
two_small a b x y zero = x
two_small a b x y (suc zero) = y
two_small a b x y (suc (suc i)) = omega arith

under_take : (n : ℕ) (l : List ℕ) (i : ℕ) → i < length (take n l) → i < n
under_take zero l i h = absurd (omega (arith, h))
under_take (suc n) [] i h = absurd (omega (arith, h))
under_take (suc n) (x ∷ l) zero h = omega arith
under_take (suc n) (x ∷ l) (suc i) h = let less = under_take n l i (omega (arith, h)) in omega (arith, less)

-- octets of a message are octets
pub range_small : (m : List ℕ) (a b : ℕ) → ((i : ℕ) → Fits w8 (get_or m i 0)) → (i : ℕ) → i < length (slice_range m a b) → get_or (slice_range m a b) i 0 < 256
range_small m a b small i h =
    let inside : i < b - a = under_take (b - a) (drop a m) i h in
    let is : get_or (slice_range m a b) i 0 ≡ get_or m (a + i) 0 = get_or-take (b - a) (drop a m) i 0 inside ∙ get_or-drop a m i 0 in
    let s = small (a + i) in
    omega (arith, is)

-- the data are those of the key that they spell
pub data_spelled : (d : List ℕ) (k : Dnskey) → ((i : ℕ) → i < length d → get_or d i 0 < 256) → Some k ≡ dnskey_of_data d → d ≡ dnskey_data k
data_spelled [] k small h = cc
data_spelled (a ∷ []) k small h = cc
data_spelled (a ∷ b ∷ []) k small h = cc
data_spelled (a ∷ b ∷ p ∷ []) k small h = cc
data_spelled (a ∷ b ∷ p ∷ g ∷ rest) k small h =
    let is : k ≡ record { flags = a * 256 + b; protocol = p; algorithm = g; octets = rest } = cc in
    let first : a < 256 = small 0 (omega arith) in
    let second : b < 256 = small 1 (omega arith) in
    let flags : to_be_bytes w16 (a * 256 + b) ≡ a ∷ b ∷ [] = be_bytes_2 (a ∷ b ∷ []) (a * 256 + b) refl (two_small a b first second) (omega arith) in
    sym (ap dnskey_data is ∙ ap (λ octets. octets ++ p ∷ g ∷ rest) flags)
