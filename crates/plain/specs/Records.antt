-- Records in wire form (RFC 1035, 3.2.1), and their canonical order.
use Rattle.std.specs.Prelude.{ℕ, List, ◌++◌}
use Rattle.std.specs.Int.{w16, w32, to_be_bytes}
use Rattle.std.specs.Ordering.{nat_cmp, ordering_then}
use Rattle.std.specs.declared.cmp.Ordering.{Ordering}
use Rattle.definitions.specs.Name.{Name, wire, low, name_cmp}
use Rattle.names_rdata.specs.Composing.{with_length}
use Rattle.plain.specs.declared.record.Record.{Record}

-- the octets of type, class and TTL
abbrev pub head_octets : ℕ → ℕ → ℕ → List ℕ
head_octets rtype class ttl = to_be_bytes w16 rtype ++ (to_be_bytes w16 class ++ to_be_bytes w32 ttl)

-- the octets of a record: owner, type, class, TTL, and the data behind their length
abbrev pub spelled : Name → ℕ → ℕ → ℕ → List ℕ → List ℕ
spelled owner rtype class ttl octets = wire owner ++ (head_octets rtype class ttl ++ with_length octets)

-- the octets of a record whose owner has a name and whose data have a type and octets
abbrev pub record_octets : {N D : Type 0} → (N → Name) → (D → ℕ) → (D → List ℕ) → Record N D → List ℕ
record_octets name rtype octets r = spelled (name r.owner) (rtype r.content) r.class r.ttl (octets r.content)

-- the octets of a record in canonical form: the owner in lower case, and the data in canonical form (RFC 4034, 6.2)
abbrev pub record_canonical : {N D : Type 0} → (N → Name) → (D → ℕ) → (D → List ℕ) → Record N D → List ℕ
record_canonical name rtype octets r = spelled (low (name r.owner)) (rtype r.content) r.class r.ttl (octets r.content)

-- the canonical order of records: by class, owner, type and data
abbrev pub record_canonical_cmp : {N D : Type 0} → (N → Name) → (D → ℕ) → (D → D → Ordering) → Record N D → Record N D → Ordering
record_canonical_cmp name rtype by_data a b =
    ordering_then (nat_cmp a.class b.class)
    (ordering_then (name_cmp (name a.owner) (name b.owner)) (ordering_then (nat_cmp (rtype a.content) (rtype b.content)) (by_data a.content b.content)))
