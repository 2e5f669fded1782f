-- The types at an owner that its record of a chain tells of (RFC 4035, 2.3; RFC 5155, 7.1).
use Rattle.std.specs.Prelude.{ℕ, Bool, false, nat_eq, List, [], ◌∷◌, map, Option, Some, None, if◌then◌else◌}
use Rattle.std.specs.List.{list_any}
use Rattle.definitions.specs.Name.{Name}
use Rattle.denial_rrsets.specs.Groups.{zone_cut}
use Rattle.plain.specs.declared.record.Record.{Record}

-- records of a type are among some
abbrev pub has_type : {N D : Type 0} → (D → ℕ) → ℕ → List (Record N D) → Bool
has_type rtype t g = list_any (λ r. nat_eq (rtype r.content) t) g

-- the types of an owner's records; at a delegation NS, and DS where there is one
abbrev pub own_types : {N D : Type 0} → (N → Name) → (D → ℕ) → Name → List (Record N D) → List ℕ
own_types name rtype apex g =
    if zone_cut name rtype apex g then 2 ∷ (if has_type rtype 43 g then 43 ∷ [] else [])
    else map (λ r. rtype r.content) g

-- a type is the last of some
abbrev pub last_is : Option ℕ → ℕ → Bool
last_is None t = false
last_is (Some s) t = nat_eq s t
