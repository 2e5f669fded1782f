-- Delegations among a zone's records, and which questions they refer away.
use Rattle.std.specs.Prelude.{◌≡◌, ℕ, Bool, true, false, not, ◌&&◌, ◌==◌, Some, None}
use Rattle.definitions.specs.Name.{Name, labels_eq}
use Rattle.definitions.specs.Zone.{Zone, cut}

-- the topmost delegation at or above a name is not the name itself
abbrev pub is_cut_off : Zone → Name → Bool
is_cut_off z q = elim (cut z q) [ None ↦ false | Some c ↦ not (labels_eq c q) ]

-- DS at a delegation is the parent's (RFC 4035, 3.1.4.1)
abbrev pub is_parents : Name → Name → ℕ → Bool
is_parents c q t = labels_eq c q && (t == 43)

-- a delegation refers a question away
pub record Refers (z : Zone) (q : Name) (t : ℕ) (c : Name) : Type 0 where
  pub topmost : cut z q ≡ Some c
  pub away : is_parents c q t ≡ false

-- none does
abbrev pub NoneRefers : Zone → Name → ℕ → Type 0
NoneRefers z q t = (c : Name) → cut z q ≡ Some c → is_parents c q t ≡ true
