-- Which lists of records with aliases are accepted, and why others are refused (RFC 1034, 3.6.2; RFC 2181, 10.1; RFC 6672, 2.3, 2.4
-- and 3.3).
use Rattle.std.specs.Prelude.{◌≡◌, ◌⊎◌, ℕ, Bool, true, false, not, ◌&&◌, ◌||◌, ◌==◌, List, length, Option, Some, None, if◌then◌else◌}
use Rattle.std.specs.List.{list_any}
use Rattle.std.specs.Option.{is_none}
use Rattle.std.specs.Ordering.{is_eq, nat_cmp}
use Rattle.std.specs.Cmp.Lexicographic.{slice_cmp}
use Rattle.definitions.specs.Name.{Name, IsName, same, strictly_above, wire}
use Rattle.definitions.specs.ZoneChain.{Mode, optout_of}
use Rattle.messages.specs.HandedRr.{HandedRr, is_meta}
use Rattle.messages.specs.NameOctets.{name_of_octets}
use Rattle.messages.specs.Star.{begins_with_star}
use Rattle.answer_terms.specs.Accepting.{delegates_star, has_unlike_ttls, is_added_by_signing, is_alias, is_of_other_class, is_outside, over_limit, soas, sorted_records, zone_of}
use Rattle.answer_terms.specs.Chainable.{HasChain}
use Rattle.answer_terms.specs.Hashing.{Hasher}
use Rattle.answer_zone_records.specs.Faults.{IsChainFault}
use Rattle.answer_zone_records.specs.declared.fault.ZoneFault.{ZoneFault}
use Rattle.answer_zone_records.specs.declared.fault.ZoneFault.TheVariants as fault

-- the same data
abbrev pub has_data : HandedRr → HandedRr → Bool
has_data r s = is_eq (slice_cmp nat_cmp r.bytes s.bytes)

-- the same type and data
abbrev pub repeats : HandedRr → HandedRr → Bool
repeats r s = (s.rtype == r.rtype) && has_data r s

-- of one owner: beside a CNAME any record that is not the same (RFC 1034, 3.6.2; RFC 2181, 10.1)
abbrev pub rivals_cname : HandedRr → HandedRr → Bool
rivals_cname r s = (r.rtype == 5) && not (repeats r s)

-- of one owner: beside a DNAME another DNAME, or a delegation (RFC 6672, 2.3 and 2.4)
abbrev pub rivals_dname : Name → HandedRr → HandedRr → Bool
rivals_dname apex r s = (r.rtype == 39) && (((s.rtype == 39) && not (has_data r s)) || ((s.rtype == 2) && strictly_above apex s.owner))

-- of one owner: an alias leaves no place for the record
abbrev pub rivals : Name → HandedRr → HandedRr → Bool
rivals apex r s = rivals_cname r s || rivals_dname apex r s

-- below a DNAME (RFC 6672, 2.4)
abbrev pub is_below_dname : HandedRr → HandedRr → Bool
is_below_dname r s = (r.rtype == 39) && strictly_above r.owner s.owner

-- stands where an alias leaves no place for it
abbrev pub crowds : Name → HandedRr → HandedRr → Bool
crowds apex r s = (same s.owner r.owner && rivals apex r s) || is_below_dname r s

-- a DNAME at a wildcard name (RFC 6672, 3.3)
abbrev pub redirects_star : HandedRr → Bool
redirects_star r = (r.rtype == 39) && begins_with_star r.owner

-- the data are no name in wire form (RFC 1035, 3.3.1; RFC 6672, 2.1)
abbrev pub lacks_target : HandedRr → Bool
lacks_target r = is_none (name_of_octets r.bytes)

-- the alias is out of order among records
abbrev pub is_disorderly : Name → List HandedRr → HandedRr → Bool
is_disorderly apex sorted r = is_alias r && (lacks_target r || redirects_star r || list_any (crowds apex r) sorted)

-- an alias among them is
abbrev pub has_disorder : Name → List HandedRr → Bool
has_disorder apex sorted = list_any (is_disorderly apex sorted) sorted

-- the data of an alias are the wire form of the name that it leads to
pub record HasTarget (r : HandedRr) : Type 0 where
  pub name : Name
  pub is : IsName name
  pub written_is : r.written ≡ wire name

-- class IN, inside, of types that a zone holds before it is signed; no delegation at a wildcard name
pub record IsPlainList (apex : Name) (rs : List HandedRr) : Type 0 where
  pub of_class_in : list_any is_of_other_class rs ≡ false
  pub inside : list_any (is_outside apex) rs ≡ false
  pub unsigned : list_any is_added_by_signing rs ≡ false
  pub known : list_any is_meta rs ≡ false
  pub no_star_delegation : list_any delegates_star rs ≡ false

-- no record and no setting is at fault by itself, and aliases are in order
pub record IsOrderlyList (apex : Name) (mode : Mode) (limit : ℕ) (rs : List HandedRr) : Type 0 where
  pub plain : IsPlainList apex rs
  pub aliases : has_disorder apex (sorted_records rs) ≡ false
  pub within_limit : over_limit mode limit ≡ false

-- what a chain asks of a list: one SOA record, TTLs that are alike, hashes
pub record IsChained (hash : Hasher) (apex : Name) (mode : Mode) (rs : List HandedRr) : Type 0 where
  pub soa : length (soas apex (sorted_records rs)) ≡ 1
  pub ttls : has_unlike_ttls (zone_of apex rs) (optout_of mode) (sorted_records rs) ≡ false
  pub chain : HasChain hash mode (zone_of apex rs)

-- no fault: a list that is accepted as a zone with aliases
pub record IsAcceptedWithAliases (hash : Hasher) (apex : Name) (mode : Mode) (limit : ℕ) (rs : List HandedRr) : Type 0 where
  pub faultless : IsOrderlyList apex mode limit rs
  pub chained : IsChained hash apex mode rs

-- why a plain list is refused: aliases are out of order, else the chain has a fault; or memory is wanting
abbrev pub RefusesPlainList : Hasher → Name → Mode → List HandedRr → ZoneFault → Type 0
RefusesPlainList hash apex mode rs fault.Alias = has_disorder apex (sorted_records rs) ≡ true
RefusesPlainList hash apex mode rs (fault.Chain e) = (has_disorder apex (sorted_records rs) ≡ false) × IsChainFault hash apex mode rs e
RefusesPlainList hash apex mode rs fault.Memory = Unit {0}
RefusesPlainList hash apex mode rs _ = ⊥

-- the first fault of the list or a setting by itself, aliases aside
abbrev pub first_plain_fault : Name → Mode → ℕ → List HandedRr → Option ZoneFault
first_plain_fault apex mode limit rs =
    if list_any is_of_other_class rs then Some fault.WrongClass
    else if list_any (is_outside apex) rs then Some fault.OutsideApex
    else if list_any is_added_by_signing rs then Some fault.SignedType
    else if list_any is_meta rs then Some fault.MetaType
    else if list_any delegates_star rs then Some fault.StarNs
    else if over_limit mode limit then Some fault.IterationsOverLimit
    else None

-- the first fault before those of the chain: that, else aliases that are out of order
abbrev pub first_fault_with_aliases : Name → Mode → ℕ → List HandedRr → Option ZoneFault
first_fault_with_aliases apex mode limit rs = elim (first_plain_fault apex mode limit rs) [
  | Some f ↦ Some f
  | None ↦ if has_disorder apex (sorted_records rs) then Some fault.Alias else None
]

-- a fault that may be answered: the first of the list itself, else any of the chain
abbrev pub IsFaultWithAliases : Hasher → Name → Mode → ℕ → List HandedRr → ZoneFault → Type 0
IsFaultWithAliases hash apex mode limit rs (fault.Chain e) = (first_fault_with_aliases apex mode limit rs ≡ None) × IsChainFault hash apex mode rs e
IsFaultWithAliases hash apex mode limit rs f = first_fault_with_aliases apex mode limit rs ≡ Some f

-- why a list is refused as a zone with aliases: a fault, or want of memory, which only a list without a fault but of aliases or the
-- chain can meet
abbrev pub RefusesZoneWithAliases : Hasher → Name → Mode → ℕ → List HandedRr → ZoneFault → Type 0
RefusesZoneWithAliases hash apex mode limit rs f =
    ((f ≡ fault.Memory) × (first_plain_fault apex mode limit rs ≡ None)) ⊎ IsFaultWithAliases hash apex mode limit rs f
