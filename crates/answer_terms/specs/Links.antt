-- The links of a zone whose records are in order: each name that owns records, with the next.
use Rattle.std.specs.Prelude.{ℕ, Bool, true, ◌||◌, List, [], ◌∷◌, ◌++◌, map, filter}
use Rattle.std.specs.List.{list_any}
use Rattle.definitions.specs.Name.{Name, low, labels_eq, wire}
use Rattle.definitions.specs.Bitmap.{bitmap}
use Rattle.definitions.specs.Covering.{covers}
use Rattle.definitions.specs.ZoneChain.{nsec_names, nsec_next, nsec_types}
use Rattle.messages.specs.HandedRr.{HandedRr}
use Rattle.answer_terms.specs.Accepting.{zone_with}
use Rattle.answer_terms.specs.Served.{ServedRrset, canonical_group, spelled_among, spelled_as}

-- a link matches or covers one of some names
abbrev pub link_speaks : Name → List Name → Name → Name → Bool
link_speaks apex qs o next = list_any (λ q. labels_eq o q || covers (low apex) o next q) qs

-- a record of the chain as it is kept: its owner and the next name as they are spelled, and its data
pub record ChainLink : Type 0 where
  pub owner : Name
  pub next : Name
  pub octets : List ℕ

-- that of a name of the chain
abbrev pub link_at : Name → List HandedRr → Name → ChainLink
link_at apex rs o =
    let z = zone_with apex rs in
    let next = spelled_as apex rs (nsec_next z o) in
    record { owner = spelled_among rs o; next = next; octets = wire next ++ bitmap (nsec_types z true o) }

-- the chain of records in order
abbrev pub links_of : Name → List HandedRr → List ChainLink
links_of apex rs = map (link_at apex rs) (nsec_names (zone_with apex rs))

-- one as an RRset of an answer
abbrev pub group_of : ℕ → ChainLink → ServedRrset
group_of ttl l = canonical_group l.owner (low l.owner) 47 ttl (l.octets ∷ [])

-- the RRsets of those that match or cover one of some names
abbrev pub said_of : Name → ℕ → List Name → List ChainLink → List ServedRrset
said_of apex ttl qs ls = map (group_of ttl) (filter (λ l. link_speaks apex qs (low l.owner) (low l.next)) ls)
