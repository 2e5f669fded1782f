-- Which lists of records, as handed in, are accepted as a zone's, and the zone that an accepted list spells.
use Rattle.std.specs.Prelude.{◌≡◌, ℕ, Bool, false, not, ◌&&◌, ◌==◌, List, [], ◌∷◌, map, filter, nat_lt}
use Rattle.std.specs.List.{list_any}
use Rattle.std.specs.declared.cmp.Ordering.{Ordering}
use Rattle.std.specs.Ordering.{nat_cmp, ordering_then}
use Rattle.std.specs.Cmp.Lexicographic.{slice_cmp}
use Rattle.definitions.specs.Sorting.{sort_by}
use Rattle.definitions.specs.Name.{Name, low, at_or_above, same, name_cmp}
use Rattle.definitions.specs.Zone.{Zone, Rr, is_kept}
use Rattle.definitions.specs.ZoneChain.{Mode, Nsec, Nsec3}
use Rattle.messages.specs.HandedRr.{HandedRr, among, is_meta}
use Rattle.messages.specs.Star.{begins_with_star}

-- of another class than IN
abbrev pub is_of_other_class : HandedRr → Bool
is_of_other_class r = not (r.class == 1)

-- with an owner that is not at or below the apex
abbrev pub is_outside : Name → HandedRr → Bool
is_outside apex r = not (at_or_above apex r.owner)

-- of a type that signing adds (RFC 4034; RFC 5155)
abbrev pub is_added_by_signing : HandedRr → Bool
is_added_by_signing r = among (46 ∷ 47 ∷ 48 ∷ 50 ∷ 51 ∷ []) r.rtype

-- a CNAME or DNAME record
abbrev pub is_alias : HandedRr → Bool
is_alias r = among (5 ∷ 39 ∷ []) r.rtype

-- a delegation at a wildcard name (RFC 4592, 4.2)
abbrev pub delegates_star : HandedRr → Bool
delegates_star r = (r.rtype == 2) && begins_with_star r.owner

abbrev pub over_limit : Mode → ℕ → Bool
over_limit Nsec limit = false
over_limit (Nsec3 iterations salt optout) limit = nat_lt limit iterations

-- no record and no setting is at fault by itself
pub record IsFaultless (apex : Name) (mode : Mode) (limit : ℕ) (rs : List HandedRr) : Type 0 where
  pub of_class_in : list_any is_of_other_class rs ≡ false
  pub inside : list_any (is_outside apex) rs ≡ false
  pub unsigned : list_any is_added_by_signing rs ≡ false
  pub no_alias : list_any is_alias rs ≡ false
  pub known : list_any is_meta rs ≡ false
  pub no_star_delegation : list_any delegates_star rs ≡ false
  pub within_limit : over_limit mode limit ≡ false

-- by owner, type and canonical data (RFC 4034, 6.1 and 6.3)
abbrev pub record_cmp : HandedRr → HandedRr → Ordering
record_cmp a b = ordering_then (name_cmp a.owner b.owner) (ordering_then (nat_cmp a.rtype b.rtype) (slice_cmp nat_cmp a.bytes b.bytes))

-- in canonical order; of records that are equal up to TTL the first
abbrev pub sorted_records : List HandedRr → List HandedRr
sorted_records rs = sort_by record_cmp rs

abbrev pub rr_of : HandedRr → Rr
rr_of r = record { spelled = r.owner; rtype = r.rtype; bytes = r.bytes }

-- the zone of records in order
abbrev pub zone_with : Name → List HandedRr → Zone
zone_with apex sorted = record { name = apex; records = map rr_of sorted }

-- the zone that a list spells
abbrev pub zone_of : Name → List HandedRr → Zone
zone_of apex rs = zone_with apex (sorted_records rs)

-- records of one owner and type with unequal TTLs, signatures aside, at a kept owner (RFC 2181, 5.2)
abbrev pub unlike_ttls : HandedRr → HandedRr → Bool
unlike_ttls r s = same r.owner s.owner && (r.rtype == s.rtype) && not (r.ttl == s.ttl) && not (r.rtype == 46)

abbrev pub has_unlike_ttls : Zone → Bool → List HandedRr → Bool
has_unlike_ttls z optout sorted =
    let rs = filter (λ r. is_kept z optout (low r.owner)) sorted in
    list_any (λ r. list_any (unlike_ttls r) rs) rs

-- the SOA records at the apex
abbrev pub soas : Name → List HandedRr → List HandedRr
soas apex sorted = filter (λ r. same r.owner apex && (r.rtype == 6)) sorted
