-- RRsets whose records have unequal TTLs (RFC 2181, 5.2).
use Rattle.std.specs.Prelude.{ℕ, Bool, not, ◌&&◌, nat_eq, List}
use Rattle.std.specs.List.{list_any}
use Rattle.definitions.specs.Name.{Name, low, same}
use Rattle.definitions.specs.Zone.{is_kept}
use Rattle.plain.specs.declared.record.Record.{Record}
use Rattle.denial_chain_owners.specs.Zones.{zone_of}

-- records of one type with unequal TTLs, RRSIG records aside (RFC 4034, 3)
abbrev pub unlike_ttls : {N D : Type 0} → (D → ℕ) → Record N D → Record N D → Bool
unlike_ttls rtype r s =
    nat_eq (rtype r.content) (rtype s.content) && not (nat_eq r.ttl s.ttl) && not (nat_eq (rtype r.content) 46)

-- some RRset of a kept owner has unequal TTLs, RRSIG records aside
abbrev pub has_unequal_ttls : {N D : Type 0} → (N → Name) → (D → ℕ) → (D → List ℕ) → Name → Bool → List (Record N D) → Bool
has_unequal_ttls name rtype canonical apex excluding rs =
    let z = zone_of name rtype canonical apex rs in
    list_any (λ r. is_kept z excluding (low (name r.owner))
    && list_any (λ s. same (name r.owner) (name s.owner) && unlike_ttls rtype r s) rs) rs
