-- When facts are true of a zone: the RRset is one that it has signed, and its records of denial say what is so.
use Rattle.std.specs.Prelude.{◌≡◌, ◌⊎◌, ℕ, ◌<◌, ◌≤◌, Bool, true, false, not, ◌&&◌, ◌||◌, ◌==◌, List, [], ◌∷◌, ◌++◌, map, filter, length, IfSome, Contains, nat_eq, nat_le}
use Rattle.std.specs.List.{AllByRecursion, list_any}
use Rattle.std.specs.Str.{bytes_eq}
use Rattle.definitions.specs.Name.{Name, low, same, at_or_above}
use Rattle.definitions.specs.Signing.{signed_owner}
use Rattle.definitions.specs.Bitmap.{bitmap, bitmap_has}
use Rattle.definitions.specs.Covering.{covers, hash_covers}
use Rattle.definitions.specs.Zone.{Zone, Rr, apex_of, owners, has, is_delegation, is_live, kept, exists, star_under, data_at}
use Rattle.definitions.specs.ZoneChain.{Mode, Nsec, Nsec3, with_parents, nsec_names, nsec_next, nsec_types, nsec3_types, nsec3_names, hashed_names, nsec3_next}
use Rattle.definitions.specs.Laws.{NoneShare, SharesNone}
use Rattle.denial_laws.specs.Aliases.{IsOrderly, is_alias_type, is_redirected}
use Rattle.denial_laws.specs.Facts.{Rrset, Link, HashLink, Facts, is_expanded}
use Rattle.denial_laws.specs.NsecRules.{has_nxname, is_bare, has_more, tells, shows}
use Rattle.denial_laws.specs.Saying.{HasStar, HasNoStar}

-- ---- the zone

-- types that signing adds, which no zone holds before (RFC 4034; RFC 5155)
abbrev pub is_added_type : ℕ → Bool
is_added_type t = list_any (nat_eq t) (46 ∷ 47 ∷ 48 ∷ 50 ∷ 51 ∷ [])

-- types that no question asks a judge for: those that signing adds, and aliases (RFC 1034, 3.6.2; RFC 6672)
abbrev pub is_foreign_type : ℕ → Bool
is_foreign_type t = is_added_type t || is_alias_type t

-- the first label is an asterisk
abbrev pub is_star : Name → Bool
is_star [] = false
is_star (l ∷ n) = bytes_eq l (42 ∷ [])

-- NS at a wildcard name: what it would delegate is nowhere said (RFC 4592, 4.2)
abbrev pub delegates_star : Rr → Bool
delegates_star r = (r.rtype == 2) && is_star r.spelled

-- types that are no data: 0, OPT, and those of questions and of messages alone, NXNAME among them (RFC 6895, 3.1; RFC 9824, 2)
abbrev pub is_meta_type : ℕ → Bool
is_meta_type t = nat_eq t 0 || nat_eq t 41 || (nat_le 128 t && nat_le t 255)

-- A zone that can be served: records at the apex, all of types of 16 bits (RFC 1035, 3.2.1), none of a type that signing adds or
-- that is no data, no NS at a wildcard, and aliases in order. Records outside the zone change nothing.
pub record IsServable (z : Zone) : Type 0 where
  pub apex : Contains (owners z) (apex_of z)
  pub typed : AllByRecursion (λ r. r.rtype < 65536) z.records
  pub ordinary : AllByRecursion (λ r. is_added_type r.rtype ≡ false) z.records
  pub real : AllByRecursion (λ r. is_meta_type r.rtype ≡ false) z.records
  pub stars : AllByRecursion (λ r. delegates_star r ≡ false) z.records
  pub aliases : IsOrderly z

-- ---- its RRsets

-- A zone signs the data of its live owners; of a delegation its DS alone (RFC 4035, 2.2).
abbrev pub is_signed : Zone → Name → ℕ → Bool
is_signed z o t = is_live z o && (not (is_delegation z o) || (t == 43)) && has z o t

-- The RRset is one that the zone has signed: under the name itself, or under the wildcard with its last labels, not above the
-- apex (RFC 4035, 5.3.2).
pub record IsTrueRrset (z : Zone) (q : Name) (t : ℕ) (r : Rrset) : Type 0 where
  pub signed : is_signed z (signed_owner r.labels q) t ≡ true
  pub datas : r.datas ≡ data_at z (signed_owner r.labels q) t
  pub inside : is_expanded r q ≡ true → length (apex_of z) ≤ r.labels

-- ---- the records of its chain

-- the record is that of a live owner, up to case
pub record IsTrueLink (z : Zone) (l : Link) : Type 0 where
  pub owner : Contains (nsec_names z) (low l.owner)
  pub next : low l.next ≡ nsec_next z (low l.owner)
  pub bits : l.bits ≡ bitmap (nsec_types z true (low l.owner))

-- The record is that of a name of the chain. How it says that it was hashed plays no part: its owner is the hash.
pub record IsTrueHashLink (z : Zone) (hash : Name → List ℕ) (optout : Bool) (l : HashLink) : Type 0 where
  pub name : Name
  pub named : Contains (hashed_names hash z optout) name
  pub owner : l.owner ≡ hash name
  pub next : l.next ≡ nsec3_next hash z optout name
  pub bits : l.bits ≡ bitmap (nsec3_types z true name)
  pub opts : l.opt_out ≡ optout

-- the records of a zone's chain: of one kind alone
abbrev pub AreChain : Zone → (Name → List ℕ) → Mode → Facts → Type 0
AreChain z hash Nsec f = AllByRecursion (IsTrueLink z) f.links × (f.hash_links ≡ [])
AreChain z hash (Nsec3 iterations salt optout) f = (f.links ≡ []) × AllByRecursion (IsTrueHashLink z hash optout) f.hash_links

-- ---- names that a question concerns

-- what a name stands under
abbrev pub parents : Name → List Name
parents [] = []
parents (l ∷ n) = with_parents n

-- The names that a question's proof may speak of: it, what it stands under up to the apex, and the wildcards under the latter.
-- None is longer than it.
abbrev pub concerned : Name → Name → List Name
concerned apex q = filter (at_or_above apex) (with_parents q) ++ map star_under (filter (at_or_above apex) (parents q))

-- a question concerns a name, in whichever case
abbrev pub Concerns : Zone → Name → Name → Type 0
Concerns z q x = Contains (concerned (apex_of z) (low q)) (low x)

-- ---- records that say what is so, whether they are the chain's or made for a question

-- Bits are true of a name, as far as a rule reads them: of NS, CNAME and DNAME they say whether the name has it, and they have
-- each type that the name has, at a delegation DS alone. They may have more.
pub record ShowsTypes (z : Zone) (o : Name) (bits : List ℕ) : Type 0 where
  pub two : bitmap_has bits 2 ≡ has z o 2
  pub alias : bitmap_has bits 5 ≡ has z o 5
  pub redirect : bitmap_has bits 39 ≡ has z o 39
  pub shows : (t : ℕ) → t < 65536 → (is_delegation z o ≡ false) ⊎ (t ≡ 43) → has z o t ≡ true → bitmap_has bits t ≡ true

-- the owner of an NSEC record exists, and has these types, without NXNAME
pub record IsThere (z : Zone) (l : Link) : Type 0 where
  pub exists_is : exists z (low l.owner) ≡ true
  pub types : ShowsTypes z (low l.owner) l.bits
  pub named : has_nxname l.bits ≡ false

-- the record covers no name that the question concerns
abbrev pub IsSilent : Zone → Name → Link → Type 0
IsSilent z q l = (x : Name) → Concerns z q x → covers z.name l.owner l.next x ≡ false

-- Of a name that exists without types a record may be made, which says nothing of other names that the question concerns
-- (RFC 9824, 3.2).
pub record IsBare (z : Zone) (q : Name) (l : Link) : Type 0 where
  pub there : IsThere z l
  pub silent : IsSilent z q l

-- The owner is made up: it does not exist, its types are at most RRSIG and NSEC (RFC 4470, 3), and the record tells nothing of it
-- to who asks for it.
pub record IsMadeUp (z : Zone) (q : Name) (l : Link) : Type 0 where
  pub gone : exists z (low l.owner) ≡ false
  pub bare : is_bare l.bits ≡ true
  pub untold : same l.owner q ≡ true → tells l ≡ false

-- It does not exist, and no wildcard stands for it: its types are NXNAME and those that signing adds, at least not NS
-- (RFC 9824, 2).
pub record IsDenied (z : Zone) (l : Link) : Type 0 where
  pub nxname : has_nxname l.bits ≡ true
  pub plain : bitmap_has l.bits 2 ≡ false
  pub missing : HasNoStar z (low l.owner)

-- It does not exist, and has the types of the wildcard that stands for it (RFC 9824, 3.3). It is not the name that is asked for:
-- of that the zone says what it says of a wildcard. The record says nothing of other names that the question concerns.
pub record IsStarred (z : Zone) (q : Name) (l : Link) : Type 0 where
  pub star : Name
  pub by : HasStar z (low l.owner) star
  pub types : ShowsTypes z star l.bits
  pub named : has_nxname l.bits ≡ false
  pub other : same l.owner q ≡ false
  pub silent : IsSilent z q l

-- what an NSEC record says of its owner
pub data SaysOfOwner (z : Zone) (q : Name) (l : Link) : Type 0 where
  -- a name of the zone, as its chain has it
  Own : IsThere z l → has_more l.bits ≡ true → SaysOfOwner z q l
  Bare : IsBare z q l → SaysOfOwner z q l
  MadeUp : IsMadeUp z q l → SaysOfOwner z q l
  Denied : IsDenied z l → SaysOfOwner z q l
  Starred : IsStarred z q l → SaysOfOwner z q l

-- An NSEC record says truly: of its owner, which lies in the zone, below no delegation and no DNAME, and need not exist; that no
-- live owner lies between it and its next name; and that what it shows above a name in between exists, if the question concerns
-- this. Its next name need not be one of the zone (RFC 4470).
pub record SaysTruly (z : Zone) (q : Name) (l : Link) : Type 0 where
  pub inside : is_live z (low l.owner) ≡ true
  pub direct : is_redirected z (low l.owner) ≡ false
  pub owner : SaysOfOwner z q l
  pub gap : (w : Name) → Contains (nsec_names z) w → covers z.name l.owner l.next w ≡ false
  pub shown : (p x : Name) → Concerns z q x → covers z.name l.owner l.next x ≡ true → at_or_above p x ≡ true → at_or_above z.name p ≡ true → shows l p ≡ true → exists z (low p) ≡ true

-- An NSEC3 record says truly of the names that a question concerns: one that has its owner's hash is kept and has these types,
-- and one whose hash it covers is not kept; its flag is the zone's. Its owner may be the hash of no name at all (RFC 7129, B).
pub record SaysTrulyHash (z : Zone) (hash : Name → List ℕ) (optout : Bool) (q : Name) (l : HashLink) : Type 0 where
  pub matched : (x : Name) → Concerns z q x → l.owner ≡ hash (low x) → (kept z optout x ≡ true) × ShowsTypes z (low x) l.bits
  pub covered : (x : Name) → Concerns z q x → hash_covers l.owner l.next (hash (low x)) ≡ true → kept z optout x ≡ false
  pub opts : l.opt_out ≡ optout

-- records of one kind alone, each of which says truly
abbrev pub SayTruly : Zone → (Name → List ℕ) → Mode → Name → Facts → Type 0
SayTruly z hash Nsec q f = AllByRecursion (SaysTruly z q) f.links × (f.hash_links ≡ [])
SayTruly z hash (Nsec3 iterations salt optout) q f = (f.links ≡ []) × AllByRecursion (SaysTrulyHash z hash optout q) f.hash_links

-- All facts are true: any of the zone's RRsets, and any records that say truly, in any order and repeated.
pub record AreTrue (z : Zone) (hash : Name → List ℕ) (mode : Mode) (q : Name) (t : ℕ) (f : Facts) : Type 0 where
  pub rrset : IfSome f.rrset (IsTrueRrset z q t)
  pub said : SayTruly z hash mode q f

-- ---- hashes

-- The names of the chain have different hashes, and no name of the chain shares its hash with another name that the question
-- concerns.
abbrev pub NoSharedHash : Zone → (Name → List ℕ) → Mode → Name → Type 0
NoSharedHash z hash Nsec q = Unit {0}
NoSharedHash z hash (Nsec3 iterations salt optout) q =
    NoneShare hash (nsec3_names z optout)
    × ((n : Name) → Contains (concerned (apex_of z) (low q)) n → SharesNone hash (nsec3_names z optout) n)
