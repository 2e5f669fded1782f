-- Laws of the definitions, which the module `laws` proves.
use Rattle.std.specs.Prelude.{◌≡◌, ◌↔◌, ℕ, ◌^◌, ◌<◌, ◌≤◌, Ok, Bool, true, ◌&&◌, ◌||◌, List, [], ◌∷◌, ◌++◌, map, filter, length, nat_eq, IsTrue}
use Rattle.std.specs.List.{AllByRecursion, Contains, list_any}
use Rattle.std.specs.Str.{bytes_eq}
use Rattle.std.specs.declared.cmp.Ordering.TheVariants.{Equal, Greater}
use Rattle.std.specs.Cmp.{IsTotalOrder}
use Rattle.definitions.specs.Name.{Name, IsName, wire, wire_len, low, same, name_cmp, at_or_above}
use Rattle.definitions.specs.Limits.{pointer_limit}
use Rattle.definitions.specs.Reading.{Reads, heads_of, pointers_of, name_at}
use Rattle.definitions.specs.Covering.{before, covers, hash_covers}
use Rattle.definitions.specs.Bitmap.{bitmap, is_bitmap, bitmap_has}
use Rattle.definitions.specs.ZoneChain.{links, nsec_names, nsec_next, nsec3_names, hashed_names, hashes, nsec3_next}
use Rattle.definitions.specs.Signing.{Fields, signed_owner, signed_octets, ascending}
use Rattle.definitions.specs.Zone.{Rr, Zone, owner_of, apex_of, owners, is_live, kept, verdict}

-- names are in one order, up to ASCII case
pub record OrdersNames : Type 0 where
  pub total : IsTotalOrder name_cmp
  pub equal : (a b : Name) → (name_cmp a b ≡ Equal) ↔ IsTrue (same a b)

-- what lies between two names at or below an apex is at or below it, and the apex is the first of these names
pub record IsInterval (apex : Name) : Type 0 where
  pub between : (a m b : Name) → IsTrue (at_or_above apex a) → IsTrue (at_or_above apex b) → (name_cmp a m ≡ Greater → ⊥) → (name_cmp m b ≡ Greater → ⊥) → IsTrue (at_or_above apex m)
  pub first : (m : Name) → IsTrue (at_or_above apex m) → name_cmp apex m ≡ Greater → ⊥

-- each strictly before the next
abbrev pub rising : List Name → Bool
rising [] = true
rising (a ∷ []) = true
rising (a ∷ b ∷ ns) = before a b && rising (b ∷ ns)

-- a link matches a name, or covers it
abbrev pub link_speaks : Name → Name → Name × Name → Bool
link_speaks apex q l = same l.0 q || covers apex l.0 l.1 q

-- exactly one of the links of rising names that begin with the apex speaks for each name at or below the apex
abbrev pub OneLinkSpeaks : Type 0
OneLinkSpeaks = (apex q : Name) (names : List Name) → IsTrue (rising (apex ∷ names)) → IsTrue (at_or_above apex q) → (l : Name × Name) × (filter (link_speaks apex q) (links apex (apex ∷ names)) ≡ l ∷ [])

-- a link of hashes matches a hash, or covers it
abbrev pub hash_link_speaks : List ℕ → List ℕ × List ℕ → Bool
hash_link_speaks h l = bytes_eq l.0 h || hash_covers l.0 l.1 h

-- exactly one of the links of ascending hashes, round a circle, speaks for each hash
abbrev pub OneHashLinkSpeaks : Type 0
OneHashLinkSpeaks = (first : List ℕ) (hashes : List (List ℕ)) (h : List ℕ) → IsTrue (ascending (first ∷ hashes)) → (l : List ℕ × List ℕ) × (filter (hash_link_speaks h) (links first (first ∷ hashes)) ≡ l ∷ [])

-- ---- octets

-- octets that begin with a name in wire form begin with one name only
abbrev pub WireSpells : Type 0
WireSpells = (n m : Name) (rest other : List ℕ) → IsName n → IsName m → wire n ++ rest ≡ wire m ++ other → (n ≡ m) × (rest ≡ other)

-- What every signature over an RRset has: fields, a class and data that fit their places, names, and a record.
pub record IsSignable (f : Fields) (owner : Name) (class : ℕ) (ds : List (List ℕ)) : Type 0 where
  pub covered : f.covered < 2 ^ 16
  pub ttl : f.ttl < 2 ^ 32
  pub expiration : f.expiration < 2 ^ 32
  pub inception : f.inception < 2 ^ 32
  pub tag : f.tag < 2 ^ 16
  pub signer : IsName f.signer
  pub named : IsName owner
  pub classed : class < 2 ^ 16
  pub some : 0 < length ds
  pub short : AllByRecursion (λ d. length d < 2 ^ 16) ds

-- Two signatures have the same fields, signers that are the same up to ASCII case, and the same records. Owners that
-- were expanded from one star are signed as that star.
pub record SignsSame (f g : Fields) (owner other : Name) (class kind : ℕ) (ds es : List (List ℕ)) : Type 0 where
  pub covered : f.covered ≡ g.covered
  pub algorithm : f.algorithm ≡ g.algorithm
  pub labels : f.labels ≡ g.labels
  pub ttl : f.ttl ≡ g.ttl
  pub expiration : f.expiration ≡ g.expiration
  pub inception : f.inception ≡ g.inception
  pub tag : f.tag ≡ g.tag
  pub signer : IsTrue (same f.signer g.signer)
  pub owners : signed_owner f.labels owner ≡ signed_owner g.labels other
  pub classes : class ≡ kind
  pub contents : ds ≡ es

-- signed octets spell one signed RRset
abbrev pub SignedOctetsSpell : Type 0
SignedOctetsSpell = (f g : Fields) (owner other : Name) (class kind : ℕ) (ds es : List (List ℕ)) → IsSignable f owner class ds → IsSignable g other kind es → signed_octets f owner class ds ≡ signed_octets g other kind es → SignsSame f g owner other class kind ds es

-- ---- zones

-- a record with its owner in lower case
abbrev pub lowered : Rr → Rr
lowered r = record r { spelled = owner_of r }

-- two zones have the same apex and the same records, in any order, however often each, and up to the case of names
pub record SameZone (z w : Zone) : Type 0 where
  pub apex : apex_of z ≡ apex_of w
  pub records : (r : Rr) → Contains (map lowered z.records) r ↔ Contains (map lowered w.records) r

-- the order and repetition of a zone's records mean nothing, nor does the case of its names
abbrev pub OrderMeansNothing : Type 0
OrderMeansNothing =
    (z w : Zone) → SameZone z w → (optout : Bool) (name : Name) (t : ℕ) → verdict z optout name t ≡ verdict w optout name t

-- ---- the chain of a zone

-- the record of a name of the chain matches a name or covers it (RFC 4034, 4)
abbrev pub nsec_speaks : Zone → Name → Name → Bool
nsec_speaks z q o = link_speaks (apex_of z) q (o, nsec_next z o)

-- The NSEC chain of a zone: the live owners, each once and in canonical order, and exactly one record matches or covers
-- each name at or below the apex.
pub record IsNsecChain (z : Zone) : Type 0 where
  pub live : (o : Name) → Contains (nsec_names z) o ↔ (Contains (owners z) o × IsTrue (is_live z o))
  pub rises : IsTrue (rising (nsec_names z))
  pub one : (q : Name) → IsTrue (at_or_above (apex_of z) q) → (o : Name) × (filter (nsec_speaks z q) (nsec_names z) ≡ o ∷ [])

-- every zone that has records at its apex has such an NSEC chain
abbrev pub NsecChainSpeaks : Type 0
NsecChainSpeaks = (z : Zone) → Contains (owners z) (apex_of z) → IsNsecChain z

-- no two of some names have one hash
abbrev pub NoneShare : (Name → List ℕ) → List Name → Type 0
NoneShare hash ns = (a b : Name) → Contains ns a → Contains ns b → hash a ≡ hash b → a ≡ b

-- no other name among some (the names of a chain) has the hash of a name
abbrev pub SharesNone : (Name → List ℕ) → List Name → Name → Type 0
SharesNone hash ns q = (n : Name) → Contains ns n → hash n ≡ hash q → n ≡ q

-- the record of a name of the chain matches a hash or covers it (RFC 5155, 8.3)
abbrev pub nsec3_speaks : (Name → List ℕ) → Zone → Bool → List ℕ → Name → Bool
nsec3_speaks hash z excluding h o = hash_link_speaks h (hash o, nsec3_next hash z excluding o)

-- The NSEC3 chain of a zone, no two names of which share a hash: a record for each kept name, in order of hash. The
-- hash of a name, where no other name of the chain has it, is one of the chain exactly where the name is kept. Exactly
-- one record matches or covers each hash.
pub record IsNsec3Chain (hash : Name → List ℕ) (z : Zone) (excluding : Bool) : Type 0 where
  pub each : (q : Name) → Contains (hashed_names hash z excluding) (low q) ↔ IsTrue (kept z excluding q)
  pub ascends : IsTrue (ascending (hashes hash z excluding))
  pub matches : (q : Name) → SharesNone hash (nsec3_names z excluding) (low q)
      → Contains (hashes hash z excluding) (hash (low q)) ↔ IsTrue (kept z excluding q)
  pub one : (h : List ℕ) → (o : Name) × (filter (nsec3_speaks hash z excluding h) (hashed_names hash z excluding) ≡ o ∷ [])

abbrev pub Nsec3ChainSpeaks : Type 0
Nsec3ChainSpeaks =
    (hash : Name → List ℕ) (z : Zone) (excluding : Bool) → Contains (owners z) (apex_of z)
    → NoneShare hash (nsec3_names z excluding) → IsNsec3Chain hash z excluding

-- ---- sets of types

-- the spelling of a set is a bitmap, and has the types of the set and no other
pub record SpellsSet (ts : List ℕ) : Type 0 where
  pub spelled : IsTrue (is_bitmap (bitmap ts))
  pub members : (t : ℕ) → t < 2 ^ 16 → bitmap_has (bitmap ts) t ≡ list_any (nat_eq t) ts

-- lists of types are spelled alike exactly where they have the same types
abbrev pub OneSpelling : Type 0
OneSpelling = (ts us : List ℕ) → (bitmap ts ≡ bitmap us) ↔ ((t : ℕ) → t < 2 ^ 16 → list_any (nat_eq t) ts ≡ list_any (nat_eq t) us)

-- ---- reading

-- looking at one head after another finds a name and the place behind it exactly where a name of at most 255 octets
-- stands and ends there
abbrev pub ReadsExactly : Type 0
ReadsExactly = (m : List ℕ) (p k : ℕ) (n : Name) (e : ℕ) → (name_at k m p ≡ Ok (n, e)) ↔ (Reads m p k n e × (wire_len n ≤ 255))

-- At most one name stands at a place. It ends at one place, within the octets, and has one number of pointers.
pub record EndsOnce (m : List ℕ) : Type 0 where
  pub one : (p k j : ℕ) (n o : Name) (e f : ℕ) → Reads m p k n e → Reads m p j o f → (n ≡ o) × (e ≡ f)
  pub pointers : (p k j : ℕ) (n o : Name) (e f : ℕ) (r : Reads m p k n e) (s : Reads m p j o f) → pointers_of r ≡ pointers_of s
  pub within : (p k : ℕ) (n : Name) (e : ℕ) → Reads m p k n e → (p < e) × (e ≤ length m)

-- how many heads are looked at, and how many of them are pointers
pub record IsShortReading {m : List ℕ} {p : ℕ} {n : Name} {e : ℕ} (r : Reads m p pointer_limit n e) : Type 0 where
  pub pointers : pointers_of r ≤ pointer_limit
  pub heads : heads_of r ≤ 383

abbrev pub ReadingIsShort : Type 0
ReadingIsShort = (m : List ℕ) (p : ℕ) (n : Name) (e : ℕ) (r : Reads m p pointer_limit n e) → wire_len n ≤ 255 → IsShortReading r
