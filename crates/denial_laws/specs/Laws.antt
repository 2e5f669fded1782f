-- Laws of denial.
use Rattle.std.specs.Prelude.{◌≡◌, ◌↔◌, ◌⊎◌, ℕ, ◌+◌, ◌<◌, ◌≤◌, Bool, true, false, not, ◌&&◌, ◌||◌, List, [], ◌∷◌, ◌++◌, map, length, Option, Some, None, nat_eq, Contains}
use Rattle.std.specs.List.{AllByRecursion, list_any}
use Rattle.definitions.specs.Name.{Name, IsName, low, labels_eq, at_or_above}
use Rattle.definitions.specs.Zone.{Zone, Verdict, verdict, apex_of, star_under}
use Rattle.definitions.specs.ZoneChain.{Mode, Nsec, Nsec3, optout_of}
use Rattle.definitions.specs.Bitmap.{bitmap}
use Rattle.denial_laws.specs.Aliases.{is_aliased}
use Rattle.denial_laws.specs.Facts.{Facts}
use Rattle.denial_laws.specs.Deciding.{decided, hashed}
use Rattle.denial_laws.specs.NsecRules.{is_bare}
use Rattle.denial_laws.specs.Truth.{IsServable, AreChain, SayTruly, AreTrue, NoSharedHash, concerned, is_foreign_type, is_meta_type}
use Rattle.denial_laws.specs.OwnFacts.{own_facts}
use Rattle.denial_laws.specs.Saying.{IsVerdict}

-- Every question has exactly one verdict: the conditions of the verdicts shut each other out, and leave nothing over.
abbrev pub OneVerdict : Type 0
OneVerdict = (z : Zone) (optout : Bool) (name : Name) (t : ℕ) (v : Verdict) → IsVerdict z optout name t v ↔ (v ≡ verdict z optout name t)

-- What a zone says of a name that is no alias for the type: this verdict. Of an alias it says none.
abbrev pub IsSaidBy : Zone → Bool → Name → ℕ → Verdict → Type 0
IsSaidBy z optout q t v = (v ≡ verdict z optout q t) × (is_aliased z optout q t ≡ false)

-- Sound: whatever true facts are handed in, what they decide is the zone's verdict, and the name is no alias. Their records of
-- denial may be those of a chain, or such that a signer made for the question.
abbrev pub TrueFactsDecideTruly : Type 0
TrueFactsDecideTruly =
    (z : Zone) (hash : Name → List ℕ) (mode : Mode) (f : Facts) (q : Name) (t : ℕ) (v : Verdict)
    → IsServable z → t < 65536 → AreTrue z hash mode q t f
    → decided z.name hash f q t ≡ Some v → IsSaidBy z (optout_of mode) q t v

-- The records of a zone's chain say truly, where no two names of it share a hash, and none shares its hash with another name that
-- the question concerns.
abbrev pub ChainsSayTruly : Type 0
ChainsSayTruly =
    (z : Zone) (hash : Name → List ℕ) (mode : Mode) (q : Name) (f : Facts)
    → IsServable z → NoSharedHash z hash mode q → AreChain z hash mode f → SayTruly z hash mode q f

-- Of the spellings of sets of types those are bare that have no types but RRSIG and NSEC.
abbrev pub BareIsOfTwoTypes : Type 0
BareIsOfTwoTypes =
    (ts : List ℕ) → (is_bare (bitmap ts) ≡ true) ↔ ((t : ℕ) → t < 65536 → list_any (nat_eq t) ts ≡ true → (t ≡ 46) ⊎ (t ≡ 47))

-- what facts decide is what any zone says of which they are true
abbrev pub DecidesTruly : Name → (Name → List ℕ) → Facts → Name → ℕ → Option Verdict → Type 0
DecidesTruly apex hash f q t None = Unit {0}
DecidesTruly apex hash f q t (Some v) =
    (z : Zone) (mode : Mode) → z.name ≡ apex → IsServable z → AreTrue z hash mode q t f
    → IsSaidBy z (optout_of mode) q t v

-- Types that are asked for: not those that signing adds, aliases, and types that are no data (RFC 1035, 3.2.3; RFC 6891, 6.1;
-- RFC 6895, 3.1)
abbrev pub is_asked_type : ℕ → Bool
is_asked_type t = not (is_foreign_type t || is_meta_type t)

-- Complete: the zone's own answer decides its verdict of a name that is no alias.
abbrev pub OwnAnswersDecide : Type 0
OwnAnswersDecide =
    (z : Zone) (hash : Name → List ℕ) (mode : Mode) (q : Name) (t : ℕ)
    → IsServable z → NoSharedHash z hash mode q → t < 65536 → at_or_above (apex_of z) q ≡ true → is_asked_type t ≡ true
    → is_aliased z (optout_of mode) q t ≡ false
    → decided z.name hash (own_facts z hash mode q t) q t ≡ Some (verdict z (optout_of mode) q t)

-- One zone says the same by NSEC records as by NSEC3 records without opt-out.
abbrev pub BothChainsSayTheSame : Type 0
BothChainsSayTheSame =
    (z : Zone) (hash : Name → List ℕ) (iterations : ℕ) (salt : List ℕ) (q : Name) (t : ℕ)
    → IsServable z → NoSharedHash z hash (Nsec3 iterations salt false) q → t < 65536 → at_or_above (apex_of z) q ≡ true → is_asked_type t ≡ true
    → is_aliased z false q t ≡ false
    → decided z.name hash (own_facts z hash Nsec q t) q t
    ≡ decided z.name hash (own_facts z hash (Nsec3 iterations salt false) q t) q t

-- the names that a question concerns are names where its own is one: at most 255 octets in wire form (RFC 1035, 2.3.4)
abbrev pub ConcernedAreNames : Type 0
ConcernedAreNames = (apex q n : Name) → IsName q → Contains (concerned apex q) n → IsName n

-- no name twice, up to case
abbrev pub each_once : List Name → Bool
each_once [] = true
each_once (n ∷ ns) = not (list_any (labels_eq n) ns) && each_once ns

-- at most the wildcard under the last of names
abbrev pub WildcardUnderLast : List Name → List Name → Type 0
WildcardUnderLast ns [] = Unit {0}
WildcardUnderLast ns (s ∷ more) = (more ≡ []) × (before : List Name) × (n : Name) × (ns ≡ before ++ n ∷ []) × (s ≡ star_under n)

-- At most the labels of the name, the root's counted, and one are hashed: the name and ancestors of it, each once, and behind
-- them at most the wildcard under the last.
pub record HashesFew (apex : Name) (hash : Name → List ℕ) (f : Facts) (q : Name) : Type 0 where
  pub few : length (hashed apex hash f q) ≤ length q + 2
  pub up : List Name
  pub wildcard : List Name
  pub parts : hashed apex hash f q ≡ up ++ wildcard
  pub above : AllByRecursion (λ n. at_or_above n q ≡ true) up
  pub once : each_once (map low up) ≡ true
  pub under : WildcardUnderLast up wildcard

abbrev pub FewHashes : Type 0
FewHashes = (apex : Name) (hash : Name → List ℕ) (f : Facts) (q : Name) → HashesFew apex hash f q
