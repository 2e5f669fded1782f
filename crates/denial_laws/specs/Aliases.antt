-- Aliases: which names CNAME and DNAME records lead elsewhere, and zones in which these records are in order
-- (RFC 1034, 3.6.2; RFC 6672).
use Rattle.std.specs.Prelude.{◌≡◌, ℕ, Bool, true, false, not, ◌&&◌, ◌||◌, ◌==◌, [], ◌∷◌, Some, None, Contains}
use Rattle.definitions.specs.Name.{Name, low, strictly_above}
use Rattle.definitions.specs.Zone.{Zone, owners, has, is_delegation, is_live, is_open, cut, exists, ce, star_under}

-- CNAME 5 and DNAME 39
abbrev pub is_alias_type : ℕ → Bool
is_alias_type t = (t == 5) || (t == 39)

-- a DNAME stands strictly above the name, and redirects it (RFC 6672, 2.3)
abbrev pub is_redirected : Zone → Name → Bool
is_redirected z [] = false
is_redirected z (l ∷ q) = (has z q 39 && is_live z q) || is_redirected z q

-- a CNAME at the owner answers for each type but its own (RFC 1034, 3.6.2)
abbrev pub has_alias : Zone → Name → ℕ → Bool
has_alias z o t = has z o 5 && not (t == 5)

-- the name's own CNAME, or where the name does not exist that of the wildcard at its closest encloser (RFC 4592, 3.3.1);
-- what stands at or below a delegation is the child zone's
abbrev pub has_own_alias : Zone → Name → ℕ → Bool
has_own_alias z q t = elim (cut z q) [
  | Some c ↦ false
  | None ↦ elim (exists z q) [
    | true ↦ has_alias z q t
    | false ↦ elim (ce z q) [ None ↦ false | Some e ↦ has_alias z (star_under e) t ]
  ]
]

-- The name is an alias for a question of this type: it is redirected, or has a CNAME that opt-out does not leave open.
abbrev pub is_aliased : Zone → Bool → Name → ℕ → Bool
is_aliased z optout name t = let q = low name in is_redirected z q || (not (is_open z optout q) && has_own_alias z q t)

-- Aliases are in order.
pub record IsOrderly (z : Zone) : Type 0 where
  -- nothing stands beside a CNAME (RFC 1034, 3.6.2)
  pub alone : (o : Name) (t : ℕ) → has z o 5 ≡ true → has z o t ≡ true → t ≡ 5
  -- no DNAME stands at a delegation (RFC 6672, 2.3)
  pub uncut : (o : Name) → has z o 39 ≡ true → is_delegation z o ≡ false
  -- nothing stands below a DNAME (RFC 6672, 2.4)
  pub childless : (o below : Name) → has z o 39 ≡ true → Contains (owners z) below → strictly_above o below ≡ false
