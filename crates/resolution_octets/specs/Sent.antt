-- Messages as they are handed in, in octets.
use Rattle.std.specs.Prelude.{ℕ, ◌<◌, List, ◌++◌}
use Rattle.std.specs.Int.{w16, to_be_bytes}
use Rattle.names_rdata.specs.Composing.{with_length}
use Rattle.answer_judge_octets.specs.Written.{IsLong, IsShort, with_long_length}

-- a message, and in octets the names of the zone that it is of and of the question that it answers
pub record Sent : Type 0 where
  pub zone : List ℕ
  pub name : List ℕ
  pub rtype : ℕ
  pub octets : List ℕ

abbrev pub IsTwoOctets : ℕ → Type 0
IsTwoOctets n = n < 65536

pub record FitsSent (s : Sent) : Type 0 where
  pub zone : IsShort s.zone
  pub name : IsShort s.name
  pub rtype : IsTwoOctets s.rtype
  pub octets : IsLong s.octets

-- Both names behind their lengths in two octets, the type in two, the message behind its length in four.
abbrev pub sent_octets : Sent → List ℕ
sent_octets s = with_length s.zone ++ with_length s.name ++ to_be_bytes w16 s.rtype ++ with_long_length s.octets
