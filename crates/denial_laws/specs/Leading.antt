-- Where aliases lead: the name that a CNAME gives, and what a DNAME makes of a name below it (RFC 1034, 3.6.2; RFC 6672, 2.2).
use Rattle.std.specs.Prelude.{◌≡◌, ◌⊎◌, ℕ, ◌-◌, Bool, true, false, [], ◌∷◌, ◌++◌, length, take, Option, Some, None, nat_le, if◌then◌else◌}
use Rattle.definitions.specs.Name.{Name, low, strictly_above, wire, wire_len}
use Rattle.definitions.specs.Zone.{Zone, has, is_live, is_open, cut, exists, ce, star_under, data_at}
use Rattle.denial_laws.specs.Aliases.{IsOrderly, is_redirected, has_alias, is_aliased}

-- to a name, or to none: what a DNAME makes of it would have more than 255 octets
pub data Lead : Type 0 where
  To : Name → Lead
  TooLong : Lead

-- the name with its last labels, those of the DNAME's owner, exchanged for the target (RFC 6672, 2.2)
abbrev pub exchanged : Name → Name → Name → Lead
exchanged name owner target =
    let n = take (length name - length owner) name ++ target in
    if nat_le (wire_len n) 255 then To n else TooLong

-- a DNAME of the zone redirects the name
pub record IsRedirectedTo (z : Zone) (name : Name) (lead : Lead) : Type 0 where
  pub owner : Name
  pub target : Name
  pub stands : has z owner 39 ≡ true
  pub live : is_live z owner ≡ true
  pub above : strictly_above owner (low name) ≡ true
  pub datas : data_at z owner 39 ≡ wire target ∷ []
  pub is : lead ≡ exchanged name owner target

-- whose records answer for a name below no delegation: its own, or where it does not exist those of the wildcard at its closest
-- encloser
abbrev pub source_of : Zone → Name → Option Name
source_of z q = elim (cut z q) [
  | Some c ↦ None
  | None ↦ elim (exists z q) [
    | true ↦ Some q
    | false ↦ elim (ce z q) [ None ↦ None | Some e ↦ Some (star_under e) ]
  ]
]

-- nothing redirects the name or leaves it open, and a CNAME of the zone answers for it
pub record IsRenamedTo (z : Zone) (optout : Bool) (name : Name) (t : ℕ) (lead : Lead) : Type 0 where
  pub direct : is_redirected z (low name) ≡ false
  pub closed : is_open z optout (low name) ≡ false
  pub owner : Name
  pub target : Name
  pub source : source_of z (low name) ≡ Some owner
  pub answers : has_alias z owner t ≡ true
  pub datas : data_at z owner 5 ≡ wire target ∷ []
  pub is : lead ≡ To target

-- The name, as an alias for a question of this type, leads there.
abbrev pub LeadsTo : Zone → Bool → Name → ℕ → Lead → Type 0
LeadsTo z optout name t lead = IsRedirectedTo z name lead ⊎ IsRenamedTo z optout name t lead

-- what leads anywhere is an alias
abbrev pub OnlyAliasesLead : Type 0
OnlyAliasesLead = (z : Zone) (optout : Bool) (name : Name) (t : ℕ) (lead : Lead) → LeadsTo z optout name t lead → is_aliased z optout name t ≡ true

-- Where aliases are in order, each leads to one name at most.
abbrev pub AliasesLeadToOne : Type 0
AliasesLeadToOne =
    (z : Zone) (optout : Bool) (name : Name) (t : ℕ) (a b : Lead)
    → IsOrderly z → LeadsTo z optout name t a → LeadsTo z optout name t b → a ≡ b
