-- The names of addresses (RFC 1035, 3.5; RFC 3596, 2.5).
use Rattle.std.specs.Prelude.{ℕ, ◌+◌, ◌-◌, ◌/◌, ◌%◌, List, [], ◌∷◌, ◌++◌, map, reverse, if◌then◌else◌, nat_lt}
use Rattle.std.specs.List.{flat_map}
use Rattle.std.specs.Net.Addr.{ipv4_octets, ipv6_octets}
use Rattle.std.specs.declared.net.IpAddr.{IpAddr}
use Rattle.std.specs.declared.net.IpAddr.TheVariants.{V4, V6}
use Rattle.definitions.specs.Name.{Name, Label}
use Rattle.definitions.specs.Text.{three_digits}

-- a number up to 255 in decimal digits
abbrev pub decimal_label : ℕ → Label
decimal_label v =
    if nat_lt v 10 then (48 + v % 10) ∷ [] else (if nat_lt v 100 then (48 + v / 10 % 10) ∷ (48 + v % 10) ∷ [] else three_digits v)

-- a number up to 15 as a digit
abbrev pub hex_digit : ℕ → ℕ
hex_digit v = if nat_lt v 10 then 48 + v else 97 + v - 10

-- in-addr.arpa
abbrev pub below_in_addr : Name
below_in_addr = (105 ∷ 110 ∷ 45 ∷ 97 ∷ 100 ∷ 100 ∷ 114 ∷ []) ∷ (97 ∷ 114 ∷ 112 ∷ 97 ∷ []) ∷ []

-- ip6.arpa
abbrev pub below_ip6 : Name
below_ip6 = (105 ∷ 112 ∷ 54 ∷ []) ∷ (97 ∷ 114 ∷ 112 ∷ 97 ∷ []) ∷ []

-- a label for each octet
abbrev pub decimal_labels : List ℕ → Name
decimal_labels octets = map decimal_label octets

-- a label for the lower four bits of each octet, and one for its upper four
abbrev pub hex_labels : List ℕ → Name
hex_labels octets = flat_map (λ o. (hex_digit (o % 16) ∷ []) ∷ (hex_digit (o / 16) ∷ []) ∷ []) octets

-- the octets from the last to the first
abbrev pub reverse_name : IpAddr → Name
reverse_name (V4 a) = decimal_labels (reverse (ipv4_octets a)) ++ below_in_addr
reverse_name (V6 a) = hex_labels (reverse (ipv6_octets a)) ++ below_ip6
