-- What a walk ends in is what the tree says.
use Rattle.std.specs.Prelude.{◌≡◌, ℕ, Bool, true, List, [], ◌∷◌, Some, IfSome}
use Rattle.definitions.specs.Name.{Name}
use Rattle.messages.specs.Message.{Asked}
use Rattle.tree_laws.specs.Tree.{Tree, TreeZone, Resolves, is_bound, refers_to, zone_at}
use Rattle.evidence_laws.specs.KnownDs.{knows}
use Rattle.evidence_laws.specs.Given.{Given}
use Rattle.evidence_laws.specs.Truth.{IsOfTree, IsUnbound, SignedZone, tree_of, zone_of}
use Rattle.resolution_walk.specs.Ended.{said_of}
use Rattle.resolution_walk.specs.declared.ending.Ending.{Ending}
use Rattle.resolution_walk.specs.declared.ending.Ending.TheVariants as ends
use Rattle.resolution_walk.specs.declared.ending.Walk.{Walk}

-- A tree leads a question from one of its zones down to another, by delegations that have DS records of a known kind.
pub data LeadsDown (knows : List ℕ → Bool) (tree : Tree) (q : Name) (t : ℕ) (to : TreeZone) : TreeZone → Type 0 where
  There : LeadsDown knows tree q t to to
  Further : {z below : TreeZone} {c : Name} → refers_to z.zone q t ≡ Some c → is_bound knows z.zone c ≡ true → zone_at tree c ≡ Some below → LeadsDown knows tree q t to below → LeadsDown knows tree q t to z

-- The DS data of a delegation that a tree leaves unsigned: all that the zone has there which refers the question to it.
pub record AreOfCut (algorithms : List ℕ) (tree : Tree) (from : TreeZone) (q : Name) (t : ℕ) (c : Name) (datas : List (List ℕ)) : Type 0 where
  pub zone : TreeZone
  pub leads : LeadsDown (knows algorithms) tree q t zone from
  pub refers : refers_to zone.zone q t ≡ Some c
  pub unbound : IsUnbound algorithms zone c datas

abbrev pub HasDsTruly : List ℕ → Tree → TreeZone → Name → ℕ → Ending → Type 0
HasDsTruly algorithms tree from q t (ends.Unsigned c datas) = AreOfCut algorithms tree from q t c datas
HasDsTruly algorithms tree from q t _ = Unit {0}

-- the name at the end of aliases
abbrev pub last_of : Name → List Name → Name
last_of q [] = q
last_of q (n ∷ ns) = last_of n ns

-- Of evidence of a tree nothing is said but what the tree says, through the aliases that the tree has; and of a delegation that is not
-- signed, of the name at the end of these, the DS data are those of the tree.
pub record WalksTruly (e : Given) (asked : Asked) (w : Walk) : Type 0 where
  pub says : IfSome (said_of w.ending) (λ said. (zones : List SignedZone) (anchor : SignedZone) → IsOfTree e asked.class zones anchor
      → Resolves (knows e.algorithms) (tree_of zones) (zone_of anchor) asked.rtype said asked.name w.through.items)
  pub ds : (zones : List SignedZone) (anchor : SignedZone) → IsOfTree e asked.class zones anchor
      → HasDsTruly e.algorithms (tree_of zones) (zone_of anchor) (last_of asked.name w.through.items) asked.rtype w.ending
