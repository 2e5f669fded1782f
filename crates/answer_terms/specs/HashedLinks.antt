-- The chain of hashes of a zone whose records are in order: each name of the chain, with the next hash (RFC 5155, 7.1).
use Rattle.std.specs.Prelude.{ℕ, Bool, ◌||◌, List, [], ◌∷◌, map, filter}
use Rattle.std.specs.List.{list_any}
use Rattle.std.specs.Str.{bytes_eq}
use Rattle.definitions.specs.Name.{Name}
use Rattle.definitions.specs.Base32hex.{base32hex}
use Rattle.definitions.specs.Covering.{hash_covers}
use Rattle.definitions.specs.ZoneChain.{Mode, hashed_names, nsec3_data, nsec3_next, optout_of, parameters_of}
use Rattle.messages.specs.HandedRr.{HandedRr}
use Rattle.answer_terms.specs.Accepting.{zone_with}
use Rattle.answer_terms.specs.Served.{ServedRrset, canonical_group}

-- a record of the chain as it is kept: its owner, the hash that this spells, the next hash, and its data
pub record HashedLink : Type 0 where
  pub owner : Name
  pub hash : List ℕ
  pub next : List ℕ
  pub octets : List ℕ

-- that of a name of the chain
abbrev pub hashed_link_at : (Name → List ℕ) → Mode → Name → List HandedRr → Name → HashedLink
hashed_link_at hash mode apex rs o =
    let z = zone_with apex rs in
    record {
      owner = base32hex (hash o) ∷ apex;
      hash = hash o;
      next = nsec3_next hash z (optout_of mode) o;
      octets = nsec3_data hash z (parameters_of mode) o;
    }

-- the chain of records in order
abbrev pub hashed_links_of : (Name → List ℕ) → Mode → Name → List HandedRr → List HashedLink
hashed_links_of hash mode apex rs = map (hashed_link_at hash mode apex rs) (hashed_names hash (zone_with apex rs) (optout_of mode))

-- it matches or covers a hash
abbrev pub hashed_link_at_or_around : HashedLink → List ℕ → Bool
hashed_link_at_or_around l h = bytes_eq l.hash h || hash_covers l.hash l.next h

-- one of some
abbrev pub hashed_link_speaks : List (List ℕ) → HashedLink → Bool
hashed_link_speaks hs l = list_any (hashed_link_at_or_around l) hs

-- one as an RRset of an answer
abbrev pub hashed_group_of : ℕ → HashedLink → ServedRrset
hashed_group_of ttl l = canonical_group l.owner l.owner 50 ttl (l.octets ∷ [])

-- the RRsets of those that match or cover one of some hashes
abbrev pub hashed_said_of : ℕ → List (List ℕ) → List HashedLink → List ServedRrset
hashed_said_of ttl hs ls = map (hashed_group_of ttl) (filter (hashed_link_speaks hs) ls)
