-- What facts prove of a name and a type: all rules, in the order in which they are tried.
use Rattle.std.specs.Prelude.{ℕ, ◌+◌, true, false, List, [], ◌∷◌, Option, Some, None}
use Rattle.definitions.specs.Name.{Name, at_or_above}
use Rattle.definitions.specs.Zone.{Verdict, Records}
use Rattle.denial_laws.specs.Facts.{Rrset, HashLink, Facts, is_expanded}
use Rattle.denial_laws.specs.NsecRules.{denied, expanded}
use Rattle.denial_laws.specs.Nsec3Rules.{hash_denied, hash_expanded, hashed_denied, last_labels}

-- by NSEC3 records where there is one, otherwise by NSEC records
abbrev pub by_chain : Name → (Name → List ℕ) → Facts → Name → ℕ → Option Verdict
by_chain apex hash f q t = elim f.hash_links [ [] ↦ denied apex q t f.links | _ ∷ _ ↦ hash_denied apex hash q t f.hash_links ]

abbrev pub by_wildcard : Name → (Name → List ℕ) → Facts → Rrset → Name → Option Verdict
by_wildcard apex hash f r q = elim f.hash_links [ [] ↦ expanded apex q r f.links | _ ∷ _ ↦ hash_expanded hash q r f.hash_links ]

-- the verdict that the facts prove of a name at or below the apex, if any: the RRset itself; expanded, where it may speak for
-- the name; or without it what the chain denies
abbrev pub decided_inside : Name → (Name → List ℕ) → Facts → Name → ℕ → Option Verdict
decided_inside apex hash f q t = elim f.rrset [
  | None ↦ by_chain apex hash f q t
  | Some r ↦ elim (is_expanded r q) [ false ↦ Some (Records r.datas) | true ↦ by_wildcard apex hash f r q ]
]

-- Of names outside the zone nothing is proved: beside an apex that is a wildcard name the last record would cover them.
abbrev pub decided : Name → (Name → List ℕ) → Facts → Name → ℕ → Option Verdict
decided apex hash f q t = elim (at_or_above apex q) [ true ↦ decided_inside apex hash f q t | false ↦ None ]

-- the names that are hashed for it, in order, each once
abbrev pub hashed_by_chain : Name → (Name → List ℕ) → List HashLink → Name → List Name
hashed_by_chain apex hash [] q = []
hashed_by_chain apex hash (f ∷ fs) q = hashed_denied apex hash q (f ∷ fs)

abbrev pub hashed_by_wildcard : List HashLink → Rrset → Name → List Name
hashed_by_wildcard [] r q = []
hashed_by_wildcard (f ∷ fs) r q = last_labels (r.labels + 1) q ∷ []

abbrev pub hashed_inside : Name → (Name → List ℕ) → Facts → Name → List Name
hashed_inside apex hash f q = elim f.rrset [
  | None ↦ hashed_by_chain apex hash f.hash_links q
  | Some r ↦ elim (is_expanded r q) [ false ↦ [] | true ↦ hashed_by_wildcard f.hash_links r q ]
]

abbrev pub hashed : Name → (Name → List ℕ) → Facts → Name → List Name
hashed apex hash f q = elim (at_or_above apex q) [ true ↦ hashed_inside apex hash f q | false ↦ [] ]
