-- When and why a zone's records are not replaced.
use Rattle.std.specs.Prelude.{◌≡◌, ℕ, ◌/◌, max, Bool, true, false, List, Option, Some, None, nat_le, if◌then◌else◌}
use Rattle.std.specs.Option.{option_map}
use Rattle.messages.specs.HandedRr.{HandedRr}
use Rattle.answer_terms.specs.Hashing.{Hasher}
use Rattle.answer_terms.specs.ZoneView.{AcceptedZone}
use Rattle.answer_zone.specs.Faults.{RefusesZone, first_fault}
use Rattle.answer_publisher.specs.declared.fault.ReplaceFault.{ReplaceFault}
use Rattle.answer_publisher.specs.declared.fault.ReplaceFault.TheVariants.{TooSoon, Zone}

-- the whole seconds of a moment in nanoseconds
abbrev pub whole_second : ℕ → ℕ
whole_second at = at / 1000000000

-- the later of two seconds, the first of which may be missing
abbrev pub later : Option ℕ → ℕ → Option ℕ
later None second = Some second
later (Some latest) second = Some (max latest second)

-- the greatest whole second at which an answer was given, with one more answer
abbrev pub noted : Option ℕ → ℕ → Option ℕ
noted latest at = later latest (whole_second at)

-- an answer was given in the second of a moment, or in a later one
abbrev pub is_too_soon : Option ℕ → ℕ → Bool
is_too_soon None at = false
is_too_soon (Some latest) at = nat_le (whole_second at) latest

-- what is refused before any memory is taken: a replacement that comes too soon, and a list that is at fault by itself
abbrev pub refused_ahead : AcceptedZone → Option ℕ → ℕ → List HandedRr → Option ReplaceFault
refused_ahead z latest at rs = if is_too_soon latest at then Some TooSoon else option_map Zone (first_fault z.apex z.mode z.limit rs)

-- why other records do not replace those of a zone: they come too soon; else as those of a new zone with its apex, chain and limit
abbrev pub RefusesReplacement : Hasher → AcceptedZone → Option ℕ → ℕ → List HandedRr → ReplaceFault → Type 0
RefusesReplacement hash z latest at rs TooSoon = is_too_soon latest at ≡ true
RefusesReplacement hash z latest at rs (Zone f) = (is_too_soon latest at ≡ false) × RefusesZone hash z.apex z.mode z.limit rs f
