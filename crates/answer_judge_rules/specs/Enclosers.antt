-- Closest enclosers by how many labels they have, and the wildcards under them.
use Rattle.std.specs.Prelude.{◌≡◌, ℕ, true, false, List, [], ◌∷◌, length, Option, Some, None}
use Rattle.definitions.specs.Name.{Name, at_or_above}
use Rattle.definitions.specs.Zone.{Verdict, star_under}
use Rattle.denial_laws.specs.Facts.{Link}
use Rattle.denial_laws.specs.NsecRules.{first_some, at_star}
use Rattle.denial_laws.specs.Nsec3Rules.{last_labels}

-- how many labels a name has at its end that another has there too: those of the longest among the name and its ancestors that
-- the other is at or below
abbrev pub shared : Name → Name → ℕ
shared [] m = 0
shared (l ∷ n) m = elim (at_or_above (l ∷ n) m) [ true ↦ length (l ∷ n) | false ↦ shared n m ]

-- what records say of the wildcard under an encloser, if there is one
abbrev pub told_of_star : Name → ℕ → List Link → Option Name → Option Verdict
told_of_star apex t fs o = elim o [ None ↦ None | Some e ↦ first_some (at_star apex (star_under e) t) fs ]

-- no record tells of the wildcard under the ancestor of a name that has so many labels
abbrev pub IsUntold : Name → Name → ℕ → List Link → ℕ → Type 0
IsUntold apex q t fs n = first_some (at_star apex (star_under (last_labels n q)) t) fs ≡ None
