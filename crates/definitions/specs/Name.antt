-- A name is its labels, the leftmost first, without the root's; a label is its octets (RFC 1035, 3.1).
use Rattle.std.specs.Prelude.{ℕ, ◌+◌, ◌<◌, ◌≤◌, Bool, false, ◌||◌, List, [], ◌∷◌, ◌++◌, map, reverse, length, sum_by}
use Rattle.std.specs.List.{AllByRecursion, flat_map}
use Rattle.std.specs.Str.{bytes_eq, str_to_ascii_lowercase}
use Rattle.std.specs.declared.cmp.Ordering.{Ordering}
use Rattle.std.specs.Ordering.{nat_cmp}
use Rattle.std.specs.Cmp.Lexicographic.{slice_cmp}
use lib.Pointwise.{pointwise}

abbrev pub Label : Type 0
Label = List ℕ

abbrev pub Name : Type 0
Name = List (List ℕ)

-- ASCII letters lowered, label by label (RFC 4034, 6.2)
abbrev pub low : Name → Name
low n = map str_to_ascii_lowercase n

-- octets of the wire form, the root's included (RFC 1035, 3.1)
abbrev pub wire_len : Name → ℕ
wire_len n = sum_by (λ l. length l + 1) n + 1

-- each label behind its length, and the root's octet (RFC 1035, 3.1)
abbrev pub wire : Name → List ℕ
wire n = flat_map (λ l. length l ∷ l) n ++ 0 ∷ []

-- 1 to 63 octets (RFC 1035, 2.3.4)
pub record IsLabel (l : Label) : Type 0 where
  pub some : 0 < length l
  pub short : length l ≤ 63

-- at most 255 octets in wire form (RFC 1035, 2.3.4)
pub record IsName (n : Name) : Type 0 where
  pub labels : AllByRecursion IsLabel n
  pub short : wire_len n ≤ 255

-- whether two names have the same octets
abbrev pub labels_eq : Name → Name → Bool
labels_eq a b = pointwise bytes_eq a b

-- whether two names are the same up to ASCII case (RFC 4343, 3)
abbrev pub same : Name → Name → Bool
same a b = labels_eq (low a) (low b)

-- n is at or above m: it is m, or at or above the parent of m
abbrev pub at_or_above : Name → Name → Bool
at_or_above n [] = same n []
at_or_above n (l ∷ m) = same n (l ∷ m) || at_or_above n m

-- n is at or above the parent of m
abbrev pub strictly_above : Name → Name → Bool
strictly_above n [] = false
strictly_above n (l ∷ m) = at_or_above n m

-- the lowered labels from the root on
abbrev pub from_root : Name → Name
from_root n = reverse (low n)

-- two labels octet by octet, letters lowered
abbrev pub label_cmp : Label → Label → Ordering
label_cmp a b = slice_cmp nat_cmp (str_to_ascii_lowercase a) (str_to_ascii_lowercase b)

-- canonical order: labels from the right, lowered, octet by octet; an absent label first (RFC 4034, 6.1)
abbrev pub name_cmp : Name → Name → Ordering
name_cmp a b = slice_cmp (slice_cmp nat_cmp) (from_root a) (from_root b)
