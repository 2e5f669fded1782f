-- Keys as a DNSKEY record has them (RFC 4034, 2), key tags (appendix B) and digests (5.1.4).
use Rattle.std.specs.Prelude.{ℕ, ◌+◌, ◌-◌, ◌*◌, ◌/◌, ◌%◌, Bool, List, [], ◌∷◌, ◌++◌, length, nat_lt, nat_eq, slice_index, if◌then◌else◌, Option, Some, None, ◌&&◌}
use Rattle.std.specs.Int.{w16, to_be_bytes}
use Rattle.std.specs.Str.{bytes_eq}
use Rattle.definitions.specs.Name.{Name, wire, low}

pub record Dnskey : Type 0 where
  pub flags : ℕ
  pub protocol : ℕ
  pub algorithm : ℕ
  pub octets : List ℕ

-- a DNSKEY record's data (RFC 4034, 2.1)
abbrev pub dnskey_data : Dnskey → List ℕ
dnskey_data k = to_be_bytes w16 k.flags ++ k.protocol ∷ k.algorithm ∷ k.octets

-- the key that a DNSKEY record's data spell: at least four octets
abbrev pub dnskey_of_data : List ℕ → Option Dnskey
dnskey_of_data (a ∷ b ∷ p ∷ g ∷ octets) = Some (record { flags = a * 256 + b; protocol = p; algorithm = g; octets = octets })
dnskey_of_data _ = None

-- the sum of octets as 16-bit numbers from the left, a last single octet as the upper half
abbrev pub sum16 : List ℕ → ℕ
sum16 [] = 0
sum16 (a ∷ []) = a * 256
sum16 (a ∷ b ∷ bs) = a * 256 + b + sum16 bs

-- the tag of a sum: its upper 16 bits are added once (RFC 4034, appendix B)
abbrev pub tag_of_sum : ℕ → ℕ
tag_of_sum s = (s + s / 65536) % 65536

-- the tag of a key of algorithm 1: the upper two of its last three octets (RFC 4034, appendix B.1)
abbrev pub rsamd5_tag : List ℕ → ℕ
rsamd5_tag octets =
    let n = length octets in
    if nat_lt n 3 then 0 else slice_index octets (n - 3) * 256 + slice_index octets (n - 2)

abbrev pub key_tag : Dnskey → ℕ
key_tag k = if nat_eq k.algorithm 1 then rsamd5_tag k.octets else tag_of_sum (sum16 (dnskey_data k))

-- whether two keys are the same
abbrev pub same_key : Dnskey → Dnskey → Bool
same_key a b = nat_eq a.flags b.flags && nat_eq a.protocol b.protocol && nat_eq a.algorithm b.algorithm && bytes_eq a.octets b.octets

-- what a DS record's digest is made of (RFC 4034, 5.1.4)
abbrev pub digested : Name → Dnskey → List ℕ
digested apex k = wire (low apex) ++ dnskey_data k

-- a DS record's data without where they lie (RFC 4034, 5.1)
pub record Ds : Type 0 where
  pub tag : ℕ
  pub algorithm : ℕ
  pub digest_type : ℕ
  pub digest : List ℕ
