-- How often walks over evidence of a tree want messages.
use Rattle.std.specs.Prelude.{ℕ, ◌+◌, ◌≤◌, Bool, List, ◌∷◌, length}
use Rattle.definitions.specs.Name.{Name}
use Rattle.messages.specs.Message.{Asked}
use Rattle.tree_laws.specs.Tree.{Said, Resolves, Tree, TreeZone}
use Rattle.evidence_laws.specs.Given.{Given}
use Rattle.evidence_laws.specs.KnownDs.{knows}
use Rattle.evidence_laws.specs.Staying.{HasOctets}
use Rattle.evidence_laws.specs.Truth.{IsOfTree, SignedZone, tree_of, zone_of}
use Rattle.resolution_walk.specs.declared.walk.Limits.{Limits}
use Rattle.walk_laws.specs.Loop.{Loops}
use Rattle.walk_laws.specs.Tree.{most_wanted, zones_down}

-- evidence of a tree, whose messages are octets
pub record IsReadOfTree (class : ℕ) (zones : List SignedZone) (anchor : SignedZone) (e : Given) : Type 0 where
  pub of : IsOfTree e class zones anchor
  pub octets : HasOctets e

-- Where a tree leads a question through aliases, a loop over evidence of it has no more calls that want messages than may be wanted of
-- these names, whatever the limit of messages.
abbrev pub TreesWantFew : Type 0
TreesWantFew =
    (asked : Asked) (limits : Limits) (most m n : ℕ) (from e : Given) (zones : List SignedZone) (anchor : SignedZone) (said : Said) (names : List Name)
    → Resolves (knows from.algorithms) (tree_of zones) (zone_of anchor) asked.rtype said asked.name names
    → Loops (IsReadOfTree asked.class zones anchor) asked limits most from m n e → m ≤ most_wanted (knows from.algorithms) (tree_of zones) (zone_of anchor) limits.cuts asked (asked.name ∷ names)

-- The zones on a way down are one more than the delegations that are allowed, at most.
abbrev pub ZonesAreFew : Type 0
ZonesAreFew = (knows : List ℕ → Bool) (tree : Tree) (q : Name) (t cuts : ℕ) (z : TreeZone) → length (zones_down knows tree q t cuts z) ≤ 1 + cuts
