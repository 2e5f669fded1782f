-- Where a zone leads elsewhere, as a server asks for the alias (RFC 1034, 4.3.2; RFC 6672, 3.2).
use Rattle.std.specs.Prelude.{ℕ, Bool, not, ◌&&◌, ◌||◌}
use Rattle.std.specs.Option.{is_some}
use Rattle.definitions.specs.Name.{Name}
use Rattle.definitions.specs.Zone.{Zone}
use Rattle.answer_zone.specs.Finding.{finds, redirecting}

-- the zone has not what is asked for, but a CNAME that answers for the name, or a DNAME above it
abbrev pub leads_elsewhere : Zone → Name → ℕ → Bool
leads_elsewhere z name t = not (finds z name t) && (finds z name 5 || is_some (redirecting z name))
