-- The records of the owners that have records of a chain (RFC 4034, 4; RFC 4035, 2.3; RFC 5155, 7.1).
use Rattle.std.specs.Prelude.{ℕ, Bool, false, List, filter, Option, Some, None}
use Rattle.std.specs.Borrow.{Bor}
use Rattle.definitions.specs.Name.{Name}
use Rattle.definitions.specs.Zone.{is_kept}
use Rattle.denial_rrsets.specs.Groups.{group_owner, groups, in_zone, of_one_owner}
use Rattle.denial_chain_owners.specs.Zones.{zone_of}
use Rattle.plain.specs.declared.record.Record.{Record}

-- records by owner: those of each kept owner of their zone, in their order
abbrev pub kept_groups : {N D : Type 0} → (N → Name) → (D → ℕ) → (D → List ℕ) → Name → Bool → List (Record N D) → List (List (Record N D))
kept_groups name rtype canonical apex excluding rs =
    let z = zone_of name rtype canonical apex rs in
    filter (λ g. is_kept z excluding (group_owner name g)) (groups (of_one_owner name) rs)

-- a group's owner is at or below a delegation, if there is one
abbrev pub below_cut : {N D : Type 0} → (N → Name) → Option (Bor N) → List (Record N D) → Bool
below_cut name None g = false
below_cut name (Some c) g = in_zone name (name c.now) g
