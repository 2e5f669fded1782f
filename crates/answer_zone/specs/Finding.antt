-- Whether a zone has what is asked for.
use Rattle.std.specs.Prelude.{ℕ, Bool, true, false, ◌&&◌, [], ◌∷◌, Option, Some, None, nat_lt, if◌then◌else◌}
use Rattle.definitions.specs.Name.{Name, low}
use Rattle.definitions.specs.Zone.{Zone, has, is_live, verdict}
use Rattle.definitions.specs.ZoneChain.{Mode, Nsec, Nsec3}
use Rattle.answer_zone.specs.ZoneAnswers.{answered}

-- an RRset stands in the answer section: the name's own, or that of the wildcard that stands for it
abbrev pub finds : Zone → Name → ℕ → Bool
finds z q t = nat_lt 0 (answered (verdict z false q t))

-- a chain of names, which has an NSEC record at each (RFC 4034, 4)
abbrev pub links_names : Mode → Bool
links_names Nsec = true
links_names (Nsec3 iterations salt optout) = false

-- a DNAME of the zone stands at the name, and redirects what is below it (RFC 6672, 2.3)
abbrev pub zone_redirects : Zone → Name → Bool
zone_redirects z o = has z o 39 && is_live z o

-- the nearest such name above another, as this one spells it
abbrev pub redirecting : Zone → Name → Option Name
redirecting z [] = None
redirecting z (l ∷ q) = if zone_redirects z (low q) then Some q else redirecting z q
