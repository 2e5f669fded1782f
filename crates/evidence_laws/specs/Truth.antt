-- What evidence tells is what the tree says.
use Rattle.std.specs.Prelude.{◌≡◌, ◌⊎◌, ℕ, Bool, true, List, [], ◌∷◌, Option, Some, map, Contains}
use Rattle.definitions.specs.Dnskey.{Ds}
use Rattle.definitions.specs.Limits.{pointer_limit}
use Rattle.definitions.specs.Name.{Name}
use Rattle.definitions.specs.Zone.{cut, data_at}
use Rattle.messages.specs.Message.{Asked}
use Rattle.resolution_step.specs.Versions.{Version}
use Rattle.answer_judge.specs.Judging.{JudgeInput}
use Rattle.answer_judge_facts.specs.declared.validity.Validity.{Validity}
use Rattle.resolution_step.specs.Table.{AreTrue, Tried, answers_with, passes_in}
use Rattle.resolution_step.specs.Truth.{AreHonestBeside}
use Rattle.tree_laws.specs.Tree.{Tree, TreeZone, Said, Resolves, is_bound, zone_at}
use Rattle.tree_laws.specs.Orderly.{IsOrderlyZone}
use Rattle.resolution_step.specs.KnownDs.{known_ds, knows}
use Rattle.resolution_step.specs.Truth.{zone_of_version}
pub use Rattle.resolution_step.specs.Truth.{IsUnbound}
use Rattle.evidence_laws.specs.Given.{Given, IsOf}
use Rattle.evidence_laws.specs.Walking.{Follows}

-- a zone that doesn't change: its name, its records and how its chain is made
pub record SignedZone : Type 0 where
  pub apex : Name
  pub version : Version

abbrev pub zone_of : SignedZone → TreeZone
zone_of s = zone_of_version s.apex s.version

abbrev pub tree_of : List SignedZone → Tree
tree_of zones = map zone_of zones

-- a zone of the tree hands out this DS set for a name: its DS records of a known kind at a delegation that is below no other, one at
-- least
pub record HandsOut (algorithms : List ℕ) (zones : List SignedZone) (c : Name) (ds : List Ds) : Type 0 where
  pub parent : SignedZone
  pub there : Contains zones parent
  pub delegates : cut (zone_of parent).zone c ≡ Some c
  pub bound : is_bound (knows algorithms) (zone_of parent).zone c ≡ true
  pub ds_are : ds ≡ known_ds algorithms (data_at (zone_of parent).zone c 43)

-- A zone of the tree by its name and DS set: the anchor's, or one that a zone above hands out.
pub record IsAnchored (e : Given) (zones : List SignedZone) (anchor s : SignedZone) (ds : List Ds) : Type 0 where
  pub there : Contains zones s
  pub by : ((s ≡ anchor) × (ds ≡ e.ds)) ⊎ HandsOut e.algorithms zones s.apex ds

-- Evidence of a tree: its zones are in order and don't change; each that is delegated with DS of a known kind is there; the anchor
-- is one of them; and zone by zone, beside the zone's own DS set, nothing is forged in the messages of the zone, for whichever
-- questions of a class they are judged.
pub record IsOfTree (e : Given) (class : ℕ) (zones : List SignedZone) (anchor : SignedZone) : Type 0 where
  pub in_order : (s : SignedZone) → Contains zones s → IsOrderlyZone (zone_of s)
  pub whole : (s : SignedZone) (q c : Name) → Contains zones s → cut (zone_of s).zone q ≡ Some c → is_bound (knows e.algorithms) (zone_of s).zone c ≡ true
      → (below : SignedZone) × Contains zones below × (below.apex ≡ c) × (zone_at (tree_of zones) c ≡ Some (zone_of below))
  pub anchor_there : Contains zones anchor
  pub anchor_is : anchor.apex ≡ e.anchor
  pub passes : Tried → Bool
  pub true_are : AreTrue (passes_in e.table) passes
  pub honest : (s : SignedZone) (ds : List Ds) (asked : Asked) (h : JudgeInput) → asked.class ≡ class → IsAnchored e zones anchor s ds → IsOf e s.apex ds asked h
      → AreHonestBeside (answers_with passes) pointer_limit h (s.version ∷ [])

-- What evidence of a tree tells, through aliases, is what the tree says, through the aliases that the tree has, however long it lasts.
abbrev pub EvidenceTellsTruly : Type 0
EvidenceTellsTruly =
    (e : Given) (zones : List SignedZone) (anchor : SignedZone) (asked : Asked) (said : Said) (ns : List Name) (validity : Option Validity)
    → IsOfTree e asked.class zones anchor → Follows e said asked ns validity
    → Resolves (knows e.algorithms) (tree_of zones) (zone_of anchor) asked.rtype said asked.name ns
