-- A tree of zones, and what it says of a question (RFC 1034, 4.3.2; RFC 4035, 5).
use Rattle.std.specs.Prelude.{◌≡◌, ℕ, Bool, true, false, not, ◌&&◌, ◌==◌, List, [], ◌∷◌, Option, Some, None, if◌then◌else◌}
use Rattle.std.specs.List.{find, list_any}
use Rattle.definitions.specs.Name.{Name, low, same, labels_eq, at_or_above}
use Rattle.definitions.specs.Zone.{Zone, Verdict, apex_of, cut, is_open, data_at, verdict}
use Rattle.denial_laws.specs.Aliases.{is_aliased}
use Rattle.denial_laws.specs.Leading.{Lead, To, LeadsTo}

-- a zone of a tree, and whether its chain opts out (RFC 5155, 6)
pub record TreeZone : Type 0 where
  pub zone : Zone
  pub optout : Bool

-- its zones; of two of one name the first counts
abbrev pub Tree : Type 0
Tree = List TreeZone

abbrev pub is_zone_of : Name → TreeZone → Bool
is_zone_of n z = same z.zone.name n

abbrev pub zone_at : Tree → Name → Option TreeZone
zone_at tree n = find (is_zone_of n) tree

-- The delegation that a zone refers a question to: the topmost at or above its name. For DS at the delegation itself the zone
-- answers (RFC 4035, 3.1.4.1).
abbrev pub refers_to : Zone → Name → ℕ → Option Name
refers_to z q t = elim (cut z (low q)) [ None ↦ None | Some c ↦ if labels_eq c (low q) && (t == 43) then None else Some c ]

-- The delegation has a DS record of a kind that is known; without one, what is below it counts as unsigned (RFC 4035, 5.2).
abbrev pub is_bound : (List ℕ → Bool) → Zone → Name → Bool
is_bound knows z c = list_any knows (data_at z c 43)

-- a question for a name at or below the apex; DS at the apex is the zone's above it
abbrev pub is_within : Zone → Name → ℕ → Bool
is_within z q t = at_or_above (apex_of z) q && not (same z.name q && (t == 43))

-- What a tree says: the verdict of a zone, by the zone's name; nothing that is signed, below a delegation or since opt-out leaves
-- the name open in a zone; that the name is an alias, and where it leads.
pub data Said : Type 0 where
  Secure : Name → Verdict → Said
  Unsigned : Name → Said
  LeftOpen : Name → Said
  Leads : Lead → Said

-- what a zone says by itself
abbrev pub SaysItself : (List ℕ → Bool) → Name → ℕ → TreeZone → Said → Type 0
SaysItself knows q t z (Secure n v) =
    (n ≡ z.zone.name) × (refers_to z.zone q t ≡ None) × (is_open z.zone z.optout (low q) ≡ false) × (is_aliased z.zone z.optout q t ≡ false) × (v ≡ verdict z.zone z.optout q t)
SaysItself knows q t z (Unsigned c) = (refers_to z.zone q t ≡ Some c) × (is_bound knows z.zone c ≡ false)
SaysItself knows q t z (LeftOpen n) = (n ≡ z.zone.name) × (is_open z.zone z.optout (low q) ≡ true) × (is_aliased z.zone z.optout q t ≡ false)
SaysItself knows q t z (Leads lead) = LeadsTo z.zone z.optout q t lead

-- What a tree says of a question, from one of its zones on: what that zone says by itself; or what is said below, from the zone
-- on that it refers the question to by a delegation which has DS records.
pub data Says (knows : List ℕ → Bool) (tree : Tree) (q : Name) (t : ℕ) (said : Said) : TreeZone → Type 0 where
  Itself : {z : TreeZone} → SaysItself knows q t z said → Says knows tree q t said z
  Below : {z below : TreeZone} {c : Name} → refers_to z.zone q t ≡ Some c → is_bound knows z.zone c ≡ true → zone_at tree c ≡ Some below → Says knows tree q t said below → Says knows tree q t said z

-- whether it is a name that an alias leads to
abbrev pub leads_on : Said → Bool
leads_on (Leads (To n)) = true
leads_on _ = false

-- What a tree says of a question at the end of aliases, and the names that they lead to, each sought from the same zone on.
pub data Resolves (knows : List ℕ → Bool) (tree : Tree) (from : TreeZone) (t : ℕ) (said : Said) : Name → List Name → Type 0 where
  Ends : {q : Name} → is_within from.zone q t ≡ true → Says knows tree q t said from → leads_on said ≡ false → Resolves knows tree from t said q []
  Led : {q n : Name} {ns : List Name} → is_within from.zone q t ≡ true → Says knows tree q t (Leads (To n)) from → Resolves knows tree from t said n ns → Resolves knows tree from t said q (n ∷ ns)
