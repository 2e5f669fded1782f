-- The key that a DNSKEY record's data spell.
use Rattle.std.proofs.Common.{◌≡◌, ℕ, ◌+◌, ◌*◌, ◌<◌, ◌≤◌, List, [], ◌∷◌, length, Some, None, Result, Ok, Err, refl, sym, ap, ◌∙◌, arith, zero-add}
use Rattle.std.specs.Int.{byte_at}
use Rattle.std.proofs.lemmas.List.{append-nil}
use Rattle.std.proofs.lemmas.Nat.{from_be_bytes-to_be_bytes_2}
use Rattle.definitions.specs.Dnskey.{Dnskey, dnskey_data, dnskey_of_data}
use Rattle.definitions.specs.Reading.{ReadFault}
use Rattle.names_rdata.specs.Reading.{data_at}
use Rattle.denial_fields.specs.Ended.{ended_part}
use Rattle.messages.proofs.WrittenData.{ended}

-- what is read of some octets, from the first to the last
abbrev pub found : List ℕ → Result (List ℕ) ReadFault
found d = data_at ended_part (record { octets = d; place = 0; end = length d })

-- a key's data spell it
pub key_read_back : (k : Dnskey) → k.flags < 65536 → dnskey_of_data (dnskey_data k) ≡ Some k
key_read_back k small =
    let back = from_be_bytes-to_be_bytes_2 k.flags small in
    let value : byte_at 1 k.flags * 256 + byte_at 0 k.flags ≡ k.flags = omega (arith, back) in
    λ i. Some (record { flags = value i; protocol = k.protocol; algorithm = k.algorithm; octets = k.octets })

-- four octets and others are read
four : (a b p g : ℕ) (rest : List ℕ) → length (a ∷ b ∷ p ∷ g ∷ rest) ≤ 65535 → found (a ∷ b ∷ p ∷ g ∷ rest) ≡ Ok (a ∷ b ∷ p ∷ g ∷ rest)
four a b p g rest few =
    let d : List ℕ = a ∷ b ∷ p ∷ g ∷ rest in
    (λ i. data_at ended_part (record { octets = sym (append-nil d) i; place = 0; end = sym (zero-add (length d)) i })) ∙ ended (a ∷ b ∷ p ∷ g ∷ []) rest refl few [] []

-- the key that was read
pub key_found : (d : List ℕ) (k : Dnskey) → length d ≤ 65535 → k.flags < 65536 → found d ≡ Ok (dnskey_data k) → Some k ≡ dnskey_of_data d
key_found [] k few small h = cc
key_found (a ∷ []) k few small h = cc
key_found (a ∷ b ∷ []) k few small h = cc
key_found (a ∷ b ∷ p ∷ []) k few small h = cc
key_found (a ∷ b ∷ p ∷ g ∷ rest) k few small h =
    let d : List ℕ = a ∷ b ∷ p ∷ g ∷ rest in
    let there = four a b p g rest few in
    let same : dnskey_data k ≡ d = cc in
    sym (key_read_back k small) ∙ ap dnskey_of_data same

-- or none
pub no_key : (d : List ℕ) (f : ReadFault) → length d ≤ 65535 → found d ≡ Err f → None ≡ dnskey_of_data d
no_key [] f few h = refl
no_key (a ∷ []) f few h = refl
no_key (a ∷ b ∷ []) f few h = refl
no_key (a ∷ b ∷ p ∷ []) f few h = refl
no_key (a ∷ b ∷ p ∷ g ∷ rest) f few h = let there = four a b p g rest few in cc
