-- The rules on NSEC3 records, with choices. What no choice concerns is that of `denial_laws`.
use Rattle.std.specs.Prelude.{ℕ, ◌+◌, Bool, true, false, List, [], ◌∷◌, Option, Some, None}
use Rattle.std.specs.List.{list_any}
use Rattle.definitions.specs.Name.{Name, low, same}
use Rattle.definitions.specs.Zone.{Verdict, NoName, StarRecords, StarNoType, Open, star_under}
use Rattle.denial_laws.specs.Facts.{Rrset, HashLink}
use Rattle.denial_laws.specs.NsecRules.{first_some, or_else}
use Rattle.denial_laws.specs.Nsec3Rules.{is_at, covers_hash, is_matched, encloses, cut_above, last_labels}
use Rattle.counterexamples_denial.specs.Choices.{Choices}
use Rattle.counterexamples_denial.specs.NsecChoices.{at_name_with, star_lacks_with}

abbrev pub at_hash_with : Choices → Name → Name → ℕ → List ℕ → HashLink → Option Verdict
at_hash_with c apex q t h f = elim (is_at h f) [ true ↦ at_name_with c apex q t f.bits | false ↦ None ]

abbrev pub opts_out : Choices → HashLink → Bool
opts_out c f = elim c.opt_out [ true ↦ f.opt_out | false ↦ false ]

abbrev pub star_at_with : Choices → List ℕ → ℕ → HashLink → Option Verdict
star_at_with c h t f = elim (is_at h f) [
  | true ↦ elim (star_lacks_with c f.bits t) [ true ↦ Some StarNoType | false ↦ None ]
  | false ↦ elim (covers_hash h f) [ true ↦ Some NoName | false ↦ None ]
]

-- what the wildcard decides
abbrev pub hash_star_with : Choices → (Name → List ℕ) → Name → ℕ → List HashLink → Option Verdict
hash_star_with c hash e t fs = elim c.wildcards [
  | true ↦ first_some (star_at_with c (hash (low (star_under e))) t) fs
  | false ↦ Some NoName
]

abbrev pub beyond_with : Choices → (Name → List ℕ) → Name → ℕ → List HashLink → List ℕ → HashLink → Option Verdict
beyond_with c hash e t fs h f = elim (covers_hash h f) [
  | true ↦ elim (opts_out c f) [ true ↦ Some Open | false ↦ hash_star_with c hash e t fs ]
  | false ↦ None
]

abbrev pub cut_above_with : Choices → Name → Name → List ℕ → List HashLink → Option Verdict
cut_above_with c apex e h fs = elim c.delegations [ true ↦ first_some (cut_above apex e h) fs | false ↦ None ]

abbrev pub encloses_with : Choices → List ℕ → HashLink → Bool
encloses_with c h f = elim c.redirections [ true ↦ encloses h f | false ↦ is_at h f ]

abbrev pub enclosed_with : Choices → Name → (Name → List ℕ) → Name → Name → ℕ → List HashLink → Option Verdict
enclosed_with c apex hash closer e t fs =
    let h = hash (low e) in
    or_else (cut_above_with c apex e h fs)
    (elim (list_any (encloses_with c h) fs) [ true ↦ first_some (beyond_with c hash e t fs (hash (low closer))) fs | false ↦ None ])

abbrev pub climbed_with : Choices → Name → (Name → List ℕ) → Name → ℕ → List HashLink → Option Verdict
climbed_with c apex hash [] t fs = None
climbed_with c apex hash (l ∷ p) t fs = elim (same (l ∷ p) apex) [
  | true ↦ None
  | false ↦ elim (is_matched fs (hash (low p))) [
    | true ↦ enclosed_with c apex hash (l ∷ p) p t fs
    | false ↦ climbed_with c apex hash p t fs
  ]
]

abbrev pub hash_denied_with : Choices → Name → (Name → List ℕ) → Name → ℕ → List HashLink → Option Verdict
hash_denied_with c apex hash q t fs =
    let h = hash (low q) in
    elim (is_matched fs h) [ true ↦ first_some (at_hash_with c apex q t h) fs | false ↦ climbed_with c apex hash q t fs ]

-- the name that must not exist: one label longer than the wildcard's parent
abbrev pub closer_with : Choices → Name → Rrset → Name
closer_with c q r = elim c.label_counts [ true ↦ last_labels (r.labels + 1) q | false ↦ q ]

abbrev pub hash_expanded_by_with : Choices → List ℕ → Rrset → HashLink → Option Verdict
hash_expanded_by_with c h r f = elim (covers_hash h f) [
  | true ↦ elim (opts_out c f) [ true ↦ Some Open | false ↦ Some (StarRecords r.datas) ]
  | false ↦ None
]

abbrev pub hash_expanded_with : Choices → (Name → List ℕ) → Name → Rrset → List HashLink → Option Verdict
hash_expanded_with c hash q r fs = first_some (hash_expanded_by_with c (hash (low (closer_with c q r))) r) fs
