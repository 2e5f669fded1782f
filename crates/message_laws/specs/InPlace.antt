-- Which question a zone answers in the place of another, and where aliases lead.
use Rattle.std.specs.Prelude.{◌≡◌, false, Some, None, if◌then◌else◌}
use Rattle.definitions.specs.Name.{Name}
use Rattle.definitions.specs.Zone.{Records, StarRecords, Verdict, Zone, verdict}
use Rattle.messages.specs.Message.{Asked}
use Rattle.answer_zone.specs.Finding.{finds, redirecting}
use Rattle.answer_findings.specs.Seen.{one_name}

-- The question that a zone answers where it is asked one that is allowed: that; or, where it has no such RRset, the one for the CNAME that
-- answers for the name, or for the DNAME of the nearest name above at which one stands (RFC 1034, 4.3.2; RFC 6672, 3.2).
abbrev pub in_place : Zone → Asked → Asked
in_place z q =
    if finds z q.name q.rtype then q
    else if finds z q.name 5 then record { name = q.name; rtype = 5; class = q.class }
    else elim (redirecting z q.name) [ None ↦ q | Some d ↦ record { name = d; rtype = 39; class = q.class } ]

-- the data of an RRset are one name's
abbrev pub SpellsOne : Verdict → Type 0
SpellsOne (Records datas) = (target : Name) × (one_name datas ≡ Some target)
SpellsOne (StarRecords datas) = (target : Name) × (one_name datas ≡ Some target)
SpellsOne _ = Unit {0}

-- an alias that is answered in place of a question leads to one name
abbrev pub LeadsToOne : Zone → Asked → Type 0
LeadsToOne z q = finds z q.name q.rtype ≡ false → SpellsOne (verdict z false (in_place z q).name (in_place z q).rtype)
