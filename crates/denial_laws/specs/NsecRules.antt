-- What NSEC records prove of a name and a type (RFC 4035, 5.4; RFC 4592; RFC 6840, 4.1 and 4.3).
use Rattle.std.specs.Prelude.{ℕ, Bool, true, false, not, ◌&&◌, ◌||◌, ◌==◌, List, [], ◌∷◌, length, drop, Option, Some, None, if◌then◌else◌}
use Rattle.std.specs.List.{list_any}
use Rattle.std.specs.Str.{bytes_eq}
use Rattle.definitions.specs.Name.{Name, same, at_or_above, strictly_above}
use Rattle.definitions.specs.Covering.{covers}
use Rattle.definitions.specs.Bitmap.{bitmap_has}
use Rattle.definitions.specs.Zone.{Verdict, NoType, NoName, StarRecords, StarNoType, Delegated, star_under}
use Rattle.denial_laws.specs.Facts.{Rrset, Link}

-- the first of the answers on items in turn
abbrev pub first_some : {A B : Type 0} → (A → Option B) → List A → Option B
first_some f [] = None
first_some f (x ∷ xs) = elim (f x) [ None ↦ first_some f xs | Some y ↦ Some y ]

abbrev pub or_else : {A : Type 0} → Option A → Option A → Option A
or_else (Some x) other = Some x
or_else None other = other

-- the record is of a delegation: NS below the apex. Its bits are the parent's: replayed against the child zone they would
-- deny what that zone holds (RFC 6840, 4.1).
abbrev pub is_cut : Name → Name → List ℕ → Bool
is_cut apex owner bits = bitmap_has bits 2 && not (same owner apex)

-- A matching record proves that a type is missing, unless it has the type. One of an alias proves it of no type: the alias
-- answers for all (RFC 6840, 4.3).
abbrev pub lacks : List ℕ → ℕ → Bool
lacks bits t = not (bitmap_has bits t) && not (bitmap_has bits 5)

-- What a matching record proves missing at a wildcard: with NS there DS alone. Such a record is a delegation's, of the parent's
-- side, and would deny types that the child zone has (RFC 6840, 4.1).
abbrev pub star_lacks : List ℕ → ℕ → Bool
star_lacks bits t = lacks bits t && ((t == 43) || not (bitmap_has bits 2))

-- NXNAME is among the types: there is no such name (RFC 9824, 2)
abbrev pub has_nxname : List ℕ → Bool
has_nxname bits = bitmap_has bits 128

-- the octets of neither RRSIG nor NSEC, of NSEC, of RRSIG, and of both (RFC 4034, 4.1.2)
abbrev pub bare_bitmaps : List (List ℕ)
bare_bitmaps = [] ∷ (0 ∷ 6 ∷ 0 ∷ 0 ∷ 0 ∷ 0 ∷ 0 ∷ 1 ∷ []) ∷ (0 ∷ 6 ∷ 0 ∷ 0 ∷ 0 ∷ 0 ∷ 0 ∷ 2 ∷ []) ∷ (0 ∷ 6 ∷ 0 ∷ 0 ∷ 0 ∷ 0 ∷ 0 ∷ 3 ∷ []) ∷ []

-- No types but RRSIG and NSEC. A signer that makes records for questions makes up owners, which need not exist, and gives them
-- these (RFC 4470, 3); an owner of a chain has others (RFC 4035, 2.3).
abbrev pub is_bare : List ℕ → Bool
is_bare bits = list_any (bytes_eq bits) bare_bitmaps

-- the types of a name that exists: more than RRSIG and NSEC, and not NXNAME
abbrev pub has_more : List ℕ → Bool
has_more bits = not (is_bare bits) && not (has_nxname bits)

-- the first of the names below a name
abbrev pub first_below : Name → Name
first_below n = (0 ∷ []) ∷ n

-- The record tells which types its owner has: they are more, or the next name is the first below, as an empty non-terminal has it
-- (RFC 9824, 3.2). Another owner may be made up, and a wildcard may stand for it.
abbrev pub tells : Link → Bool
tells f = has_more f.bits || same f.next (first_below f.owner)

-- A record of the name itself with NXNAME denies the name, whatever type is asked for. Without this look the name would pass for
-- one that lacks the type (RFC 9824, 3).
abbrev pub denies : Name → Link → Option Verdict
denies q f = elim (same f.owner q && has_nxname f.bits) [ true ↦ Some NoName | false ↦ None ]

-- What a record that matches the name says: at a delegation of DS alone.
abbrev pub at_name : Name → Name → ℕ → List ℕ → Option Verdict
at_name apex q t bits = elim (is_cut apex q bits && not (t == 43)) [
  | true ↦ Some Delegated
  | false ↦ elim (lacks bits t) [ true ↦ Some NoType | false ↦ None ]
]

abbrev pub at_owner : Name → Name → ℕ → Link → Option Verdict
at_owner apex q t f = elim (same f.owner q && tells f) [ true ↦ at_name apex q t f.bits | false ↦ None ]

-- A record above a name, with DNAME in its bits, proves nothing of the name: what is below it is redirected
-- (RFC 6840, 4.1).
abbrev pub redirects : Name → Link → Bool
redirects q f = strictly_above f.owner q && bitmap_has f.bits 39

-- a delegation above the name: what lies below it is the child zone's, and this zone can't deny it
abbrev pub below_cut : Name → Name → Link → Option Verdict
below_cut apex q f = elim (is_cut apex f.owner f.bits && strictly_above f.owner q && not (bitmap_has f.bits 39)) [ true ↦ Some Delegated | false ↦ None ]

-- strictly between owner and next name, and nothing redirects the name
abbrev pub link_covers : Name → Link → Name → Bool
link_covers apex f q = covers apex f.owner f.next q && not (redirects q f)

-- the name that a record's owner shows to exist: the owner itself, or what it stands under, where it may be made up
abbrev pub shown_owner : Link → Name
shown_owner f = if has_more f.bits then f.owner else drop 1 f.owner

-- a record shows that a name exists: what its owner shows, or its next name, is at or below it
abbrev pub shows : Link → Name → Bool
shows f p = at_or_above p (shown_owner f) || at_or_above p f.next

-- The closest encloser that a covering record shows: the longest ancestor that it shows to exist (RFC 4592, 3.3.1). An ancestor
-- further up would let another wildcard speak for the name; one that is made up would hide the wildcard that does.
abbrev pub closest : Link → Name → Option Name
closest f [] = None
closest f (l ∷ q) = elim (shows f q) [ true ↦ Some q | false ↦ closest f q ]

-- the wildcard: there without the type, there with names below it alone, or not there; without this look a name that it stands
-- for would pass for one that does not exist; one whose own record has NXNAME is not there, and one whose own record has no more
-- than RRSIG and NSEC may be made up
abbrev pub at_star : Name → Name → ℕ → Link → Option Verdict
at_star apex s t f = elim (same f.owner s) [
  | true ↦ elim (star_lacks f.bits t && has_more f.bits) [ true ↦ Some StarNoType | false ↦ None ]
  | false ↦ elim (link_covers apex f s) [
    | true ↦ elim (strictly_above s f.next) [ true ↦ Some StarNoType | false ↦ Some NoName ]
    | false ↦ None
  ]
]

-- the name is covered: an empty non-terminal where the next name is below it, otherwise the wildcard decides
abbrev pub covered : Name → Name → ℕ → List Link → Link → Option Verdict
covered apex q t fs f = elim (link_covers apex f q) [
  | true ↦ elim (strictly_above q f.next) [
    | true ↦ Some NoType
    | false ↦ elim (closest f q) [ None ↦ None | Some e ↦ first_some (at_star apex (star_under e) t) fs ]
  ]
  | false ↦ None
]

-- each rule is tried on the records in turn, before the next rule is
abbrev pub denied : Name → Name → ℕ → List Link → Option Verdict
denied apex q t fs =
    or_else (first_some (denies q) fs)
    (or_else (first_some (at_owner apex q t) fs) (or_else (first_some (below_cut apex q) fs) (first_some (covered apex q t fs) fs)))

-- the closest encloser that a record shows has so many labels
abbrev pub encloses_at : ℕ → Option Name → Bool
encloses_at n None = false
encloses_at n (Some e) = length e == n

-- A wildcard's RRset answers for a name that does not exist, and from its closest encloser alone: otherwise the wildcard of an
-- ancestor further up, or one beside an existing name, would answer in its place (RFC 4035, 5.3.4).
abbrev pub expanded_by : Name → Name → Rrset → Link → Option Verdict
expanded_by apex q r f = elim (link_covers apex f q && not (strictly_above q f.next) && encloses_at r.labels (closest f q)) [ true ↦ Some (StarRecords r.datas) | false ↦ None ]

abbrev pub expanded : Name → Name → Rrset → List Link → Option Verdict
expanded apex q r fs = first_some (expanded_by apex q r) fs
