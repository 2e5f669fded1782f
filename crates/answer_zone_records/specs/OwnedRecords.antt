-- The records of one owner among those of a zone.
use Rattle.std.specs.Prelude.{◌≡◌, ℕ, Bool, ◌==◌, List, [], map, filter, Option, Some, None}
use Rattle.definitions.specs.Name.{Name, same}
use Rattle.plain.specs.declared.record.Record.{Record}
use Rattle.plain.specs.declared.zone_data.ZoneRecordData.{ZoneRecordData}
use Rattle.messages.specs.HandedRr.{HandedRr, handed_of}

-- a record of class IN
abbrev pub IsInternet : {O : Type 0} → Record Name (ZoneRecordData O Name) → Type 0
IsInternet r = r.class ≡ 1

-- the records of a group, if there is one
abbrev pub handed_in : {O : Type 0} → Option (List (Record Name (ZoneRecordData O Name))) → List HandedRr
handed_in None = []
handed_in (Some g) = map handed_of g

-- those that a name owns, up to case
abbrev pub owned_by : Name → List HandedRr → List HandedRr
owned_by q rs = filter (λ r. same r.owner q) rs

abbrev pub is_of_type : ℕ → HandedRr → Bool
is_of_type t r = r.rtype == t

-- the TTL of a record, if there is one
abbrev pub ttl_in : Option HandedRr → ℕ
ttl_in None = 0
ttl_in (Some r) = r.ttl
