-- Names that are hashed one after another, until one fails, and what links say of a gap.
use Rattle.std.specs.Prelude.{◌≡◌, ℕ, ◌+◌, ◌≤◌, Bool, true, false, ◌&&◌, List, length, Option, Some, None, is_none, unwrap_or, [], ◌∷◌, Result, Ok, Err}
use Rattle.std.specs.List.{list_any}
use Rattle.definitions.specs.Name.{Name, low, same, wire}
use Rattle.definitions.specs.Zone.{Verdict, Open, Records, star_under}
use Rattle.denial_nsec3_hash.specs.declared.hasher.HashError.{HashError}
use Rattle.denial_nsec3_hash.specs.declared.hasher.HashError.TheVariants.{Failed, Memory}
use Rattle.denial_laws.specs.Facts.{HashLink, Link, Rrset, is_expanded}
use Rattle.denial_laws.specs.NsecRules.{denied, expanded}
use Rattle.denial_laws.specs.Nsec3Rules.{asks_star, covers_hash, hash_denied, hash_expanded, hashed_denied, last_labels}
use Rattle.answer_judge_rules.specs.Hashes.{up_to}

-- names are hashed as a link says
abbrev pub answered_as : (List ℕ → ℕ → ℕ → List ℕ → Option (List ℕ)) → HashLink → Name → Option (List ℕ)
answered_as hash l n = hash (wire (low n)) 1 l.iterations l.salt

abbrev pub hash_as : (List ℕ → ℕ → ℕ → List ℕ → Option (List ℕ)) → HashLink → Name → List ℕ
hash_as hash l n = unwrap_or (answered_as hash l n) []

abbrev pub fails_as : (List ℕ → ℕ → ℕ → List ℕ → Option (List ℕ)) → HashLink → Name → Bool
fails_as hash l n = is_none (answered_as hash l n)

-- Names were hashed in turn until one failed, and counted; where memory ran out before that, no more were.
abbrev pub HashesInTurn : {T : Type 0} → (Name → Bool) → List Name → ℕ → ℕ → Result T HashError → Type 0
HashesInTurn fails ns before after (Ok v) = (list_any fails ns ≡ false) × (after ≡ before + length ns)
HashesInTurn fails ns before after (Err Failed) = (list_any fails ns ≡ true) × (after ≡ before + length (up_to fails ns))
HashesInTurn fails ns before after (Err Memory) = (before ≤ after) × (after ≤ before + length (up_to fails ns))

-- a record that covers the hash under opt-out
abbrev pub opens : List ℕ → HashLink → Bool
opens h f = covers_hash h f && f.opt_out

abbrev pub open_among : List ℕ → List HashLink → Option Verdict
open_among h fs = elim (list_any (opens h) fs) [ true ↦ Some Open | false ↦ None ]

-- the wildcard under the closest encloser, where a record without opt-out covers the next closer name first
abbrev pub hashed_beyond : List ℕ → Name → List HashLink → List Name
hashed_beyond h e fs = elim (asks_star h fs) [ true ↦ star_under e ∷ [] | false ↦ [] ]

-- ---- what facts decide inside a zone, by either chain

abbrev pub by_names : Name → Option Rrset → List Link → Name → ℕ → Option Verdict
by_names apex r fs q t = elim r [
  | None ↦ denied apex q t fs
  | Some r ↦ elim (is_expanded r q) [ false ↦ Some (Records r.datas) | true ↦ expanded apex q r fs ]
]

abbrev pub by_hashes : Name → (Name → List ℕ) → Option Rrset → List HashLink → Name → ℕ → Option Verdict
by_hashes apex hash r fs q t = elim r [
  | None ↦ hash_denied apex hash q t fs
  | Some r ↦ elim (is_expanded r q) [ false ↦ Some (Records r.datas) | true ↦ hash_expanded hash q r fs ]
]

abbrev pub hashed_by : Name → (Name → List ℕ) → Option Rrset → List HashLink → Name → List Name
hashed_by apex hash r fs q = elim r [
  | None ↦ hashed_denied apex hash q fs
  | Some r ↦ elim (is_expanded r q) [ false ↦ [] | true ↦ last_labels (r.labels + 1) q ∷ [] ]
]
