-- What is said of a zone by its lines.
use Rattle.std.specs.Prelude.{◌≡◌, ◌⊎◌, ℕ, ◌+◌, Bool, List, length, min, unwrap_or, Option, Some, None}
use Rattle.definitions.specs.Text.{text_of_name}
use Rattle.server_zone.specs.States.{State}
use Rattle.server_zone_octets.specs.Dues.{IsUnsaid, told_code}
use Rattle.server_zone_octets.specs.Telling.{IsPut}
use Rattle.server_zone_octets.specs.declared.code.ZoneCode.{ZoneCode}
use Rattle.server_zone_octets.specs.declared.code.ZoneCode.TheVariants as c
use Rattle.server_zone_octets.specs.declared.facts.OctetFacts.{OctetFacts}

-- the size of what is said, the only one that is known
abbrev pub facts_size : ℕ
facts_size = 40

-- the first second behind the last replacement, at most the greatest number of 64 bits; 0 where there is none
abbrev pub second_behind : Option ℕ → ℕ
second_behind None = 0
second_behind (Some second) = min (second + 1) 18446744073709551615

-- of a zone whose name has so many octets as text
abbrev pub facts_of : State → ℕ → OctetFacts
facts_of s n = record { size = facts_size; len = n; last = unwrap_or s.last 0; answers_from = second_behind s.closed; ttl = s.ttl; life = s.life }

-- it is said, and the name stands in front of what was there, where there is room
pub record AreFactsTold (s : State) (new : OctetFacts) (before after : List ℕ) (code : ZoneCode) : Type 0 where
  pub facts_are : new ≡ facts_of s (length (text_of_name s.zone.apex))
  pub fits : Bool
  pub put : IsPut (text_of_name s.zone.apex) before after fits
  pub code_is : code ≡ told_code fits

-- why nothing is said
abbrev pub AreUnsaidFor : OctetFacts → ZoneCode → Type 0
AreUnsaidFor old c.BadCall = old.size ≡ facts_size → ⊥
AreUnsaidFor old c.OutOfMemory = Unit {0}
AreUnsaidFor old _ = ⊥

abbrev pub SaysFacts : State → OctetFacts → OctetFacts → List ℕ → List ℕ → ZoneCode → Type 0
SaysFacts s old new before after code =
    ((old.size ≡ facts_size) × AreFactsTold s new before after code) ⊎ (IsUnsaid old new before after × AreUnsaidFor old code)
