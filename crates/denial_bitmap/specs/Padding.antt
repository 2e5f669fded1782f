-- Windows that grow (RFC 4034, 4.1.2).
use Rattle.std.specs.Prelude.{◌≡◌, ℕ, zero, suc, ◌-◌, List, [], ◌∷◌, ◌++◌, length}
use Rattle.std.specs.List.{flat_map}
use Rattle.definitions.specs.Bitmap.{bitmap, window, window_octets}
use Rattle.denial_bitmap.specs.Building.{zeros, windows_before}

-- octets filled up with zeros to a least number
abbrev pub padded : List ℕ → ℕ → List ℕ
padded octets n = octets ++ zeros (n - length octets)

-- a given number of consecutive numbers from one on
abbrev pub from : ℕ → ℕ → List ℕ
from a zero = []
from a (suc n) = a ∷ from (suc a) n

-- the windows of higher numbers
abbrev pub windows_after : List ℕ → ℕ → List ℕ
windows_after ts number = flat_map (window ts) (from (suc number) (255 - number))

-- a bitmap in which a window has room for a least number of octets
abbrev pub roomy : List ℕ → ℕ → ℕ → List ℕ
roomy ts number needed =
    let octets = padded (window_octets ts number) needed in
    windows_before ts number ++ ((number ∷ length octets ∷ octets) ++ windows_after ts number)

-- octets that are the bitmap of some types, and the place where the window of a number stands or is to stand
abbrev pub IsPlaced : List ℕ → List ℕ → ℕ → ℕ → Type 0
IsPlaced ts octets place number = (octets ≡ bitmap ts) × (place ≡ length (windows_before ts number))
