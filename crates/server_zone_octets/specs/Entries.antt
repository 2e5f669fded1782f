-- Signatures as entries in octets.
use Rattle.std.specs.Prelude.{ℕ, Bool, ◌+◌, ◌-◌, ◌<◌, ◌≤◌, ◌==◌, ◌&&◌, ◌||◌, List, [], ◌∷◌, ◌++◌, drop, length, map, nat_le, replicate, take, if◌then◌else◌}
use Rattle.std.specs.Int.{w16, from_be_bytes}
use Rattle.std.specs.List.{flat_map}
use Rattle.names_rdata.specs.Composing.{with_length}
use Rattle.definitions.specs.Dnskey.{Dnskey, dnskey_data}
use Rattle.server_answers.specs.Inputs.{Input}
use Rattle.answer_judge_octets.specs.Written.{IsLong, IsShort, with_long_length}
use Rattle.server_answers.specs.Table.{Made, made}

-- The key's data and the signature behind their lengths in two octets, between them what the
-- signature is made over behind its length in four.
abbrev pub made_octets : Made → List ℕ
made_octets m = with_length (dnskey_data m.input.key) ++ with_long_length m.input.octets ++ with_length m.signature

pub record FitsMade (m : Made) : Type 0 where
  pub flags : m.input.key.flags < 65536
  pub short : 4 + length m.input.key.octets ≤ 65535
  pub octets : IsLong m.input.octets
  pub signature : IsShort m.signature

-- ---- those that are asked for

-- The modulus of an RSA key stands behind its exponent, whose length stands in front: in one
-- octet, or in two behind an octet 0 (RFC 3110, 2).
abbrev pub modulus_len : List ℕ → ℕ
modulus_len [] = 0
modulus_len (e ∷ rest) = if (e == 0) && nat_le 2 (length rest) then length (drop 2 rest) - from_be_bytes w16 (take 2 rest) else length rest - e

-- the algorithms of RSA (RFC 3110; RFC 5155; RFC 5702)
abbrev pub is_rsa : ℕ → Bool
is_rsa a = (a == 5) || (a == 7) || (a == 8) || (a == 10)

-- how many octets the signatures of a key have; 0 where it is of another algorithm
abbrev pub room_for : Dnskey → ℕ
room_for k =
    if is_rsa k.algorithm then modulus_len k.octets
    else if (k.algorithm == 13) || (k.algorithm == 15) then 64
    else if k.algorithm == 14 then 96
    else if k.algorithm == 16 then 114
    else 0

-- an input with room for its signature, all of it 0
abbrev pub asked : Input → Made
asked i = made i (replicate (room_for i.key) 0)

abbrev pub entries_of : List Input → List ℕ
entries_of inputs = flat_map made_octets (map asked inputs)
