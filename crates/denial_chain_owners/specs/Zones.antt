-- The zone of some records, and how it spells its names (RFC 4034, 6.2).
use Rattle.std.specs.Prelude.{ℕ, List, [], ◌∷◌, map, if◌then◌else◌}
use Rattle.definitions.specs.Name.{Name, low, labels_eq}
use Rattle.definitions.specs.Zone.{Rr, Zone}
use Rattle.plain.specs.declared.record.Record.{Record}

-- a record as one of a zone: its owner as it is spelled, type, and data in canonical form
abbrev pub rr_of : {N D : Type 0} → (N → Name) → (D → ℕ) → (D → List ℕ) → Record N D → Rr
rr_of name rtype canonical r = record { spelled = name r.owner; rtype = rtype r.content; bytes = canonical r.content }

-- the zone of an apex and some records
abbrev pub zone_of : {N D : Type 0} → (N → Name) → (D → ℕ) → (D → List ℕ) → Name → List (Record N D) → Zone
zone_of name rtype canonical apex rs = record { name = apex; records = map (rr_of name rtype canonical) rs }

-- an owner in lower case, as the first of its records spells it
abbrev pub spelled_among : {N D : Type 0} → (N → Name) → List (Record N D) → Name → Name
spelled_among name [] o = o
spelled_among name (r ∷ rs) o = if labels_eq (low (name r.owner)) o then name r.owner else spelled_among name rs o

-- an owner as its first record spells it, and the apex as it is handed in
abbrev pub spelled_as : {N D : Type 0} → (N → Name) → Name → List (Record N D) → Name → Name
spelled_as name apex rs o = if labels_eq (low apex) o then apex else spelled_among name rs o
