-- The set of types of an NSEC or NSEC3 record (RFC 4034, 4.1.2).
use Rattle.std.specs.Prelude.{ℕ, zero, suc, ◌+◌, ◌-◌, ◌*◌, ◌/◌, ◌%◌, ◌^◌, Bool, true, false, ◌&&◌, ◌==◌, List, [], ◌∷◌, ◌++◌, length, map, take, drop, Option, Some, None, if◌then◌else◌, nat_eq, nat_le, slice_index, is_some, sum_by}
use Rattle.std.specs.List.{list_any, flat_map}

-- the numbers below n, ascending
abbrev pub below : ℕ → List ℕ
below zero = []
below (suc n) = below n ++ n ∷ []

-- Octets of a whole window, and how many windows there are: words, since a numeral unfolds in every goal.
unfoldable pub window_size : ℕ
window_size = 32

unfoldable pub window_count : ℕ
window_count = 256

-- an octet: the first of eight bits is the highest
unfoldable pub octet_of : List ℕ → ℕ → ℕ → ℕ
octet_of ts window i = sum_by (λ k. if list_any (nat_eq (window * 256 + i * 8 + k)) ts then 2 ^ (7 - k) else 0) (below 8)

-- all but the last
abbrev pub before_last : List ℕ → List ℕ
before_last bs = take (length bs - 1) bs

-- without the zeros at the end
abbrev pub trimmed : List ℕ → List ℕ
trimmed [] = []
trimmed (b ∷ bs) = let r = trimmed bs in if (b == 0) && (length r == 0) then [] else b ∷ r

-- the octets of a window, up to the last that is not zero
abbrev pub window_octets : List ℕ → ℕ → List ℕ
window_octets ts w = trimmed (map (octet_of ts w) (below window_size))

-- a window: its number, how many octets, and the octets; none where it is empty
abbrev pub window : List ℕ → ℕ → List ℕ
window ts w = let bs = window_octets ts w in if length bs == 0 then [] else w ∷ length bs ∷ bs

-- the one spelling of a set
abbrev pub bitmap : List ℕ → List ℕ
bitmap ts = flat_map (window ts) (below window_count)

-- Windows as they are spelled, in any order: a number, a length of 1 to 32, and that many octets.
abbrev pub windows_upto : ℕ → List ℕ → Option (List (ℕ × List ℕ))
windows_upto n [] = Some []
windows_upto zero (w ∷ bs) = None
windows_upto (suc n) (w ∷ []) = None
windows_upto (suc n) (w ∷ len ∷ bs) = elim (nat_le 1 len && nat_le len 32 && nat_le len (length bs)) [
  | true ↦ elim (windows_upto n (drop len bs)) [ None ↦ None | Some ws ↦ Some ((w, take len bs) ∷ ws) ]
  | false ↦ None
]

abbrev pub windows : List ℕ → Option (List (ℕ × List ℕ))
windows bs = windows_upto (length bs) bs

-- the octets spell windows
abbrev pub is_bitmap : List ℕ → Bool
is_bitmap bs = is_some (windows bs)

-- the bit of a type in the octets of its window
abbrev pub bit_in : List ℕ → ℕ → Bool
bit_in octets t = slice_index octets (t % 256 / 8) / 2 ^ (7 - t % 8) % 2 == 1

-- the first window of a type's number has its bit
abbrev pub in_windows : List (ℕ × List ℕ) → ℕ → Bool
in_windows [] t = false
in_windows (w ∷ ws) t = if w.0 == t / 256 then bit_in w.1 t else in_windows ws t

-- the bitmap has a type
abbrev pub bitmap_has : List ℕ → ℕ → Bool
bitmap_has bs t = elim (windows bs) [ None ↦ false | Some ws ↦ in_windows ws t ]
