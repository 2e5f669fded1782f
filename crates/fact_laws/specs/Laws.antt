-- Laws of facts that include others.
use Rattle.std.specs.Prelude.{◌≡◌, ℕ, ◌<◌, List, Some, Contains}
use Rattle.definitions.specs.Name.{Name}
use Rattle.definitions.specs.Zone.{Verdict, Zone}
use Rattle.definitions.specs.ZoneChain.{Mode}
use Rattle.denial_laws.specs.Deciding.{decided}
use Rattle.denial_laws.specs.Facts.{Facts, HashLink, Link}
use Rattle.denial_laws.specs.Truth.{AreTrue, IsServable}

-- the RRset of the question is that of other facts, or none as there; their links are among the links, in any order
pub record Includes (f other : Facts) : Type 0 where
  pub rrset : f.rrset ≡ other.rrset
  pub links : (l : Link) → Contains other.links l → Contains f.links l
  pub hash_links : (l : HashLink) → Contains other.hash_links l → Contains f.hash_links l

-- What facts decide, true facts decide that include them.
abbrev pub MoreFactsDecide : Type 0
MoreFactsDecide =
    (z : Zone) (hash : Name → List ℕ) (mode : Mode) (f more : Facts) (q : Name) (t : ℕ) (v : Verdict)
    → IsServable z → t < 65536 → AreTrue z hash mode q t more → Includes more f
    → decided z.name hash f q t ≡ Some v → decided z.name hash more q t ≡ Some v
