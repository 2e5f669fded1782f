-- What walks over evidence of a tree may want in all.
use Rattle.std.specs.Prelude.{ℕ, zero, suc, ◌+◌, ◌*◌, Bool, List, [], ◌∷◌, ◌++◌, map, Option, Some, None, length, sum_by, if◌then◌else◌}
use Rattle.std.specs.List.{flat_map, list_any}
use Rattle.definitions.specs.Name.{Name, strictly_above}
use Rattle.messages.specs.Message.{Asked}
use Rattle.tree_laws.specs.Tree.{Tree, TreeZone, is_bound, refers_to, zone_at}
use Rattle.evidence_laws.specs.Walking.{renamed}
use Rattle.resolution_walk.specs.Laws.{tails}
use Rattle.resolution_walk.specs.Wanted.{wanted_of}
use Rattle.resolution_walk.specs.declared.ending.Wanted.{Wanted}

-- the zone that a zone of a tree hands a question down to, by a delegation that has DS records of a known kind
abbrev pub handed_down : (List ℕ → Bool) → Tree → Name → ℕ → TreeZone → Option TreeZone
handed_down knows tree q t z = elim (refers_to z.zone q t) [ None ↦ None | Some c ↦ if is_bound knows z.zone c then zone_at tree c else None ]

-- the names of the zones that a question is handed down through, from one on, by so many delegations at most
abbrev pub zones_down : (List ℕ → Bool) → Tree → Name → ℕ → ℕ → TreeZone → List Name
zones_down knows tree q t zero z = z.zone.name ∷ []
zones_down knows tree q t (suc cuts) z = z.zone.name ∷ elim (handed_down knows tree q t z) [ None ↦ [] | Some below ↦ zones_down knows tree q t cuts below ]

-- the last of some zones, down a way, that stands above a name
abbrev pub last_above : Name → List Name → Name
last_above n [] = []
last_above n (z ∷ zs) = if list_any (λ y. strictly_above y n) zs then last_above n zs else z

-- of zones down a way, their keys and their answers to a question; and for DS at its name and the names above, of the last one above
abbrev pub wanted_of_zones : Asked → List Name → List Wanted
wanted_of_zones asked zs =
    flat_map (λ zone. wanted_of zone zone 48 ∷ wanted_of zone asked.name asked.rtype ∷ []) zs ++ map (λ n. wanted_of (last_above n zs) n 43) (tails asked.name)

-- what may be wanted on the way that a question is handed down
abbrev pub wanted_down : (List ℕ → Bool) → Tree → TreeZone → ℕ → Asked → List Wanted
wanted_down knows tree from cuts asked = wanted_of_zones asked (zones_down knows tree asked.name asked.rtype cuts from)

-- and for each of some names
abbrev pub wanted_for : (List ℕ → Bool) → Tree → TreeZone → ℕ → Asked → List Name → List Wanted
wanted_for knows tree from cuts asked names = flat_map (λ n. wanted_down knows tree from cuts (renamed asked n)) names

-- how many these are: for each name two of each zone on its way down, and one for each label
abbrev pub most_wanted : (List ℕ → Bool) → Tree → TreeZone → ℕ → Asked → List Name → ℕ
most_wanted knows tree from cuts asked names = sum_by (λ n. length (zones_down knows tree n asked.rtype cuts from) * 2 + length n) names
