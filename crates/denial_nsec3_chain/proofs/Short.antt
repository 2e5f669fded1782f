-- How many octets the parts of an NSEC3 record have at most.
use Rattle.std.proofs.Common.{ℕ, ◌*◌, ◌≤◌, Bool, true, false, List, [], ◌∷◌, ◌++◌, length, arith, length-append}
use Rattle.std.specs.Prelude.{◌==◌, if◌then◌else◌}
use Rattle.std.specs.List.{flat_map}
use Rattle.definitions.specs.Base32hex.{base32hex}
use Rattle.definitions.specs.Bitmap.{below, bitmap, window, window_octets, window_count}
use Rattle.definitions.proofs.BitmapLaws.{length-window, length-below}
use Rattle.definitions.specs.Name.{Name}
use Rattle.denial_nsec3_hash.specs.Hashing.{FitsName}
use Rattle.denial_nsec_data.specs.Hashed.{nsec3_with, nsec3_octets}

window_short : (ts : List ℕ) (w : ℕ) → length (window ts w) ≤ 34
window_short ts w = go (length (window_octets ts w) == 0)
  where
    go : (b : Bool) → length (if b then [] else w ∷ length (window_octets ts w) ∷ window_octets ts w) ≤ 34
    go true = omega arith
    go false = omega (arith, length-window ts w)

flat_short : (f : ℕ → List ℕ) (ns : List ℕ) → ((n : ℕ) → length (f n) ≤ 34) → length (flat_map f ns) ≤ 34 * length ns
flat_short f [] h = omega arith
flat_short f (n ∷ ns) h = omega (arith, h n, flat_short f ns h, length-append (f n) (flat_map f ns))

-- 256 windows of at most 34 octets
pub bitmap_short : (ts : List ℕ) → length (bitmap ts) ≤ 8704
unfolding window_count
bitmap_short ts = omega (arith, flat_short (window ts) (below 256) (window_short ts), length-below 256)

-- a digit for each octet at least
digits_long : (h : List ℕ) → length h ≤ length (base32hex h)
digits_long [] = omega arith
digits_long (a ∷ []) = omega arith
digits_long (a ∷ b ∷ []) = omega arith
digits_long (a ∷ b ∷ c ∷ []) = omega arith
digits_long (a ∷ b ∷ c ∷ d ∷ []) = omega arith
digits_long (a ∷ b ∷ c ∷ d ∷ e ∷ rest) = let r : length rest ≤ length (base32hex rest) = digits_long rest in omega arith

-- a hash that fits a name is short
pub fitting_short : (apex : Name) (h : List ℕ) → FitsName apex h → length h ≤ 255
fitting_short apex h n = omega (arith, digits_long h, n.labels.0.short)

pub data_short : (salt next types : List ℕ) → length salt ≤ 255 → length next ≤ 255 → length types ≤ 8704 → length (nsec3_octets (nsec3_with 0 0 0 salt next types)) ≤ 65535
data_short salt next types s n t = omega (arith, length-append salt (length next ∷ next ++ types), length-append next types)
