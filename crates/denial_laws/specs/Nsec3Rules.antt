-- What NSEC3 records prove of a name and a type, by the hashes of names (RFC 5155, 8; RFC 6840, 4.1 and 4.3).
use Rattle.std.specs.Prelude.{ℕ, ◌+◌, ◌-◌, Bool, true, false, not, ◌&&◌, List, [], ◌∷◌, length, drop, Option, Some, None}
use Rattle.std.specs.List.{list_any}
use Rattle.std.specs.Str.{bytes_eq}
use Rattle.definitions.specs.Name.{Name, low, same}
use Rattle.definitions.specs.Covering.{hash_covers}
use Rattle.definitions.specs.Bitmap.{bitmap_has}
use Rattle.definitions.specs.Zone.{Verdict, NoName, StarRecords, StarNoType, Delegated, Open, star_under}
use Rattle.denial_laws.specs.Facts.{Rrset, HashLink}
use Rattle.denial_laws.specs.NsecRules.{first_some, or_else, is_cut, star_lacks, at_name}

-- the record has this hash as its owner's
abbrev pub is_at : List ℕ → HashLink → Bool
is_at h f = bytes_eq f.owner h

abbrev pub covers_hash : List ℕ → HashLink → Bool
covers_hash h f = hash_covers f.owner f.next h

abbrev pub is_matched : List HashLink → List ℕ → Bool
is_matched fs h = list_any (is_at h) fs

-- What a record says of the name whose hash it has: at a delegation of DS alone.
abbrev pub at_hash : Name → Name → ℕ → List ℕ → HashLink → Option Verdict
at_hash apex q t h f = elim (is_at h f) [ true ↦ at_name apex q t f.bits | false ↦ None ]

-- A record at an ancestor of the name. One with DNAME proves nothing of names below it (RFC 6840, 4.1).
abbrev pub encloses : List ℕ → HashLink → Bool
encloses h f = is_at h f && not (bitmap_has f.bits 39)

-- a delegation above the name: what lies below it is the child zone's, and this zone can't deny it
abbrev pub cut_above : Name → Name → List ℕ → HashLink → Option Verdict
cut_above apex p h f = elim (encloses h f && is_cut apex p f.bits) [ true ↦ Some Delegated | false ↦ None ]

-- the wildcard: there without the type, or not there
abbrev pub star_at : List ℕ → ℕ → HashLink → Option Verdict
star_at h t f = elim (is_at h f) [
  | true ↦ elim (star_lacks f.bits t) [ true ↦ Some StarNoType | false ↦ None ]
  | false ↦ elim (covers_hash h f) [ true ↦ Some NoName | false ↦ None ]
]

-- The next closer name is covered, so nothing below the closest encloser exists on the way to the name. Under opt-out an
-- unsigned delegation may lie in the gap: nothing is proved (RFC 5155, 6 and 8.6); otherwise the wildcard decides.
abbrev pub beyond : (Name → List ℕ) → Name → ℕ → List HashLink → List ℕ → HashLink → Option Verdict
beyond hash e t fs h f = elim (covers_hash h f) [
  | true ↦ elim f.opt_out [ true ↦ Some Open | false ↦ first_some (star_at (hash (low (star_under e))) t) fs ]
  | false ↦ None
]

-- from the closest encloser, which a record matches, and the next closer name below it
abbrev pub enclosed : Name → (Name → List ℕ) → Name → Name → ℕ → List HashLink → Option Verdict
enclosed apex hash closer e t fs =
    let h = hash (low e) in
    or_else (first_some (cut_above apex e h) fs)
    (elim (list_any (encloses h) fs) [ true ↦ first_some (beyond hash e t fs (hash (low closer))) fs | false ↦ None ])

-- the parents of a name, up to the apex, until one is matched
abbrev pub by_closest_encloser : Name → (Name → List ℕ) → Name → ℕ → List HashLink → Option Verdict
by_closest_encloser apex hash [] t fs = None
by_closest_encloser apex hash (l ∷ p) t fs = elim (same (l ∷ p) apex) [
  | true ↦ None
  | false ↦ elim (is_matched fs (hash (low p))) [
    | true ↦ enclosed apex hash (l ∷ p) p t fs
    | false ↦ by_closest_encloser apex hash p t fs
  ]
]

-- a name that is matched, or else its ancestors
abbrev pub hash_denied : Name → (Name → List ℕ) → Name → ℕ → List HashLink → Option Verdict
hash_denied apex hash q t fs =
    let h = hash (low q) in
    elim (is_matched fs h) [ true ↦ first_some (at_hash apex q t h) fs | false ↦ by_closest_encloser apex hash q t fs ]

-- the last labels of a name, so many
abbrev pub last_labels : ℕ → Name → Name
last_labels n q = drop (length q - n) q

-- the name one label longer than the wildcard's parent must not exist (RFC 5155, 8.8); under opt-out it may
abbrev pub hash_expanded_by : List ℕ → Rrset → HashLink → Option Verdict
hash_expanded_by h r f = elim (covers_hash h f) [
  | true ↦ elim f.opt_out [ true ↦ Some Open | false ↦ Some (StarRecords r.datas) ]
  | false ↦ None
]

abbrev pub hash_expanded : (Name → List ℕ) → Name → Rrset → List HashLink → Option Verdict
hash_expanded hash q r fs = first_some (hash_expanded_by (hash (low (last_labels (r.labels + 1) q))) r) fs

-- ---- which names are hashed, in order

-- the first record that covers the next closer name asks for the wildcard, unless it opts out
abbrev pub asks_star : List ℕ → List HashLink → Bool
asks_star h [] = false
asks_star h (f ∷ fs) = elim (covers_hash h f) [ true ↦ not f.opt_out | false ↦ asks_star h fs ]

-- the wildcard under the closest encloser, though it may be a name that was hashed on the way up
abbrev pub hashed_enclosed : Name → (Name → List ℕ) → Name → Name → List HashLink → List Name
hashed_enclosed apex hash closer e fs =
    let h = hash (low e) in
    elim (first_some (cut_above apex e h) fs) [
      | Some v ↦ []
      | None ↦ elim (list_any (encloses h) fs && asks_star (hash (low closer)) fs) [ true ↦ star_under e ∷ [] | false ↦ [] ]
    ]

abbrev pub hashed_climbing : Name → (Name → List ℕ) → Name → List HashLink → List Name
hashed_climbing apex hash [] fs = []
hashed_climbing apex hash (l ∷ p) fs = elim (same (l ∷ p) apex) [
  | true ↦ []
  | false ↦ p ∷ elim (is_matched fs (hash (low p))) [
    | true ↦ hashed_enclosed apex hash (l ∷ p) p fs
    | false ↦ hashed_climbing apex hash p fs
  ]
]

abbrev pub hashed_denied : Name → (Name → List ℕ) → Name → List HashLink → List Name
hashed_denied apex hash q fs = q ∷ elim (is_matched fs (hash (low q))) [ true ↦ [] | false ↦ hashed_climbing apex hash q fs ]
