-- What the verdicts on other questions say of a name: of its CNAME, of a DNAME above it, of NS and DS at a delegation.
use Rattle.std.specs.Prelude.{◌≡◌, ◌↔◌, ◌⊎◌, ℕ, Bool, true, false, ◌==◌, List, [], ◌∷◌, Some}
use Rattle.definitions.specs.Name.{Name, low, wire, at_or_above, strictly_above}
use Rattle.definitions.specs.Zone.{Zone, Records, StarRecords, NoType, Delegated, Open, has, is_delegation, is_live, cut, data_at, verdict}
use Rattle.denial_laws.specs.Aliases.{is_aliased}
use Rattle.denial_laws.specs.Leading.{To, exchanged, IsRedirectedTo, IsRenamedTo}

-- ---- aliases

-- a name's own CNAME, where no DNAME redirects the name
abbrev pub OwnCnamesRename : Type 0
OwnCnamesRename =
    (z : Zone) (optout : Bool) (name target : Name) (t : ℕ)
    → verdict z optout name 5 ≡ Records (wire target ∷ []) → is_aliased z optout name 5 ≡ false → (t == 5) ≡ false
    → IsRenamedTo z optout name t (To target)

-- that of the wildcard that stands for it
abbrev pub StarCnamesRename : Type 0
StarCnamesRename =
    (z : Zone) (optout : Bool) (name target : Name) (t : ℕ)
    → verdict z optout name 5 ≡ StarRecords (wire target ∷ []) → is_aliased z optout name 5 ≡ false → (t == 5) ≡ false
    → IsRenamedTo z optout name t (To target)

-- A name that opt-out leaves open is left open whatever is asked for. It is an alias for no type where it is none for one.
abbrev pub OpenWhateverAsked : Type 0
OpenWhateverAsked =
    (z : Zone) (optout : Bool) (name : Name) (t u : ℕ)
    → verdict z optout name t ≡ Open → is_aliased z optout name t ≡ false
    → (verdict z optout name u ≡ Open) × (is_aliased z optout name u ≡ false)

-- a DNAME strictly above a name
abbrev pub DnamesRedirect : Type 0
DnamesRedirect =
    (z : Zone) (optout : Bool) (owner target name : Name)
    → verdict z optout owner 39 ≡ Records (wire target ∷ []) → strictly_above owner name ≡ true
    → IsRedirectedTo z name (exchanged name owner target)

-- ---- delegations

-- the zone answers for DS, whether or not there is any
abbrev pub AnswersDs : Zone → Bool → Name → Type 0
AnswersDs z optout c = (verdict z optout c 43 ≡ NoType) ⊎ ((ds : List (List ℕ)) × (verdict z optout c 43 ≡ Records ds))

-- The zone delegates the name, and answers for its DS: no other delegation is above it.
abbrev pub OwnDsVerdictsCut : Type 0
OwnDsVerdictsCut =
    (z : Zone) (optout : Bool) (c name : Name)
    → verdict z optout c 2 ≡ Delegated → AnswersDs z optout c → at_or_above c name ≡ true
    → cut z (low name) ≡ Some (low c)

-- what the verdict on NS says of a name: it is a delegation, the topmost at or above itself
pub record TellsDelegation (z : Zone) (optout : Bool) (name : Name) : Type 0 where
  pub delegates : (verdict z optout name 2 ≡ Delegated) ↔ (is_delegation z (low name) ≡ true)
  pub topmost : is_delegation z (low name) ≡ true → cut z (low name) ≡ Some (low name)

abbrev pub DsVerdictsTellDelegations : Type 0
DsVerdictsTellDelegations = (z : Zone) (optout : Bool) (name : Name) → verdict z optout name 43 ≡ NoType → TellsDelegation z optout name

-- ---- records

-- the zone has these records of the type at a name that no delegation hides
pub record HasRecords (z : Zone) (name : Name) (t : ℕ) (datas : List (List ℕ)) : Type 0 where
  pub live : is_live z (low name) ≡ true
  pub there : has z (low name) t ≡ true
  pub datas_are : datas ≡ data_at z (low name) t

abbrev pub RecordsAreThere : Type 0
RecordsAreThere =
    (z : Zone) (optout : Bool) (name : Name) (t : ℕ) (datas : List (List ℕ))
    → verdict z optout name t ≡ Records datas → HasRecords z name t datas
