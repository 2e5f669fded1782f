-- Bitmaps that are built type by type (RFC 4034, 4.1.2).
use Rattle.std.specs.Prelude.{◌≡◌, ℕ, zero, suc, ◌+◌, ◌-◌, ◌/◌, ◌%◌, ◌^◌, ◌==◌, List, [], ◌∷◌, ◌++◌, take, drop, if◌then◌else◌, nat_eq}
use Rattle.std.specs.List.{flat_map}
use Rattle.definitions.specs.Bitmap.{below, bitmap, window}

-- octets that are the one spelling of some types
abbrev pub IsBuilt : List ℕ → Type 0
IsBuilt octets = (ts : List ℕ) × (octets ≡ bitmap ts)

abbrev pub zeros : ℕ → List ℕ
zeros zero = []
zeros (suc n) = 0 ∷ zeros n

-- octets with some between
abbrev pub inserted : List ℕ → ℕ → List ℕ → List ℕ
inserted octets place more = take place octets ++ (more ++ drop place octets)

-- how many octets the window of a number has at the front; 0 where another window or none stands there
abbrev pub window_len : ℕ → List ℕ → ℕ
window_len number (n ∷ len ∷ rest) = if nat_eq n number then len else 0
window_len number _ = 0

-- an octet with one more bit, the first of eight the highest
abbrev pub with_bit : ℕ → ℕ → ℕ
with_bit octet k = if octet / 2 ^ (7 - k) % 2 == 1 then octet else octet + 2 ^ (7 - k)

-- the windows of lower numbers
abbrev pub windows_before : List ℕ → ℕ → List ℕ
windows_before ts number = flat_map (window ts) (below number)
