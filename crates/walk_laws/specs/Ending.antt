-- Where a walk over evidence of a tree ends.
use Rattle.std.specs.Prelude.{◌≡◌, ℕ, zero, suc, ◌≤◌, Bool, true, List, ◌∷◌, length, Option, Some, None, is_none, Contains}
use Rattle.std.specs.Global.{Vec}
use Rattle.definitions.specs.Dnskey.{Ds}
use Rattle.definitions.specs.Name.{Name, at_or_above}
use Rattle.messages.specs.Message.{Asked}
use Rattle.answer_judge.specs.declared.verdict.Refusal.{Refusal}
use Rattle.answer_findings.specs.Table.{Tried}
use Rattle.tree_laws.specs.Laws.{AreAlike}
use Rattle.tree_laws.specs.Tree.{Said, Resolves, Tree, TreeZone}
use Rattle.evidence_laws.specs.Given.{Given}
use Rattle.evidence_laws.specs.KnownDs.{knows}
use Rattle.evidence_laws.specs.Truth.{IsAnchored, IsOfTree, SignedZone, tree_of, zone_of}
use Rattle.evidence_laws.specs.Walking.{renamed}
use Rattle.resolution_walk.specs.Ended.{said_of}
use Rattle.resolution_walk.specs.Judged.{IsUntold}
use Rattle.resolution_walk.specs.Stopping.{StopsWithin}
use Rattle.resolution_walk.specs.Truth.{WalksTruly, last_of}
use Rattle.resolution_walk.specs.declared.ending.Ending.TheVariants as ends
use Rattle.resolution_walk.specs.declared.ending.Walk.{Walk}
use Rattle.resolution_walk.specs.declared.ending.Wanted.{Wanted}
use Rattle.resolution_walk.specs.declared.walk.Limits.{Limits}
use Rattle.walk_laws.specs.Tree.{handed_down, zones_down}

-- ---- limits

-- a question is handed down by so many delegations at most
abbrev pub is_near : (List ℕ → Bool) → Tree → Name → ℕ → ℕ → TreeZone → Bool
is_near knows tree q t zero z = is_none (handed_down knows tree q t z)
is_near knows tree q t (suc cuts) z = elim (handed_down knows tree q t z) [ None ↦ true | Some below ↦ is_near knows tree q t cuts below ]

-- limits that leave room for the way that a tree leads a question, through the names of these aliases
pub record LeaveRoom (limits : Limits) (knows : List ℕ → Bool) (tree : Tree) (from : TreeZone) (asked : Asked) (names : List Name) : Type 0 where
  pub aliases : length names ≤ limits.aliases
  pub cuts : (n : Name) → Contains (asked.name ∷ names) n → is_near knows tree n asked.rtype limits.cuts from ≡ true

-- ---- ends

-- A walk ends in an answer that tells nothing, to the question or for DS at a name between: of a zone that the tree hands one of these
-- names down through, which aliases led the walk to.
pub record IsUntoldOf (asked : Asked) (cuts : ℕ) (zones : List SignedZone) (anchor : SignedZone) (names : List Name) (e : Given) (w : Walk) : Type 0 where
  pub name : Name
  pub named : Contains (asked.name ∷ names) name
  pub last : name ≡ last_of asked.name w.through.items
  pub zone : SignedZone
  pub ds : List Ds
  pub anchored : IsAnchored e zones anchor zone ds
  pub above : at_or_above zone.apex name ≡ true
  pub down : Contains (zones_down (knows e.algorithms) (tree_of zones) name asked.rtype cuts (zone_of anchor)) zone.apex
  pub of : Name
  pub by : Vec Ds
  pub sought : Name
  pub rtype : ℕ
  pub refusal : Option Refusal
  pub is : w.ending ≡ ends.Untold of by sought rtype refusal
  pub untold : IsUntold e (renamed asked name) zone.apex ds of by.items sought rtype refusal

-- A walk says what the tree says, through its aliases; or more is wanted; or there are as many messages as are allowed; or the walk is
-- stuck.
pub data EndsInTree (Stuck : Given → Walk → Type 0) (e : Given) (limits : Limits) (said : Said) (names : List Name) (w : Walk) : Type 0 where
  SaysSo : (s : Said) → said_of w.ending ≡ Some s → AreAlike s said → w.through.items ≡ names → EndsInTree Stuck e limits said names w
  WantsMore : (ws : Vec Wanted) → w.ending ≡ ends.Wants ws → EndsInTree Stuck e limits said names w
  AsksMore : (asks : Vec Tried) → w.ending ≡ ends.Asks asks → EndsInTree Stuck e limits said names w
  IsFull : w.ending ≡ ends.TooManyMessages → limits.messages ≤ length e.messages → EndsInTree Stuck e limits said names w
  IsStuck : Stuck e w → EndsInTree Stuck e limits said names w

-- none is stuck
abbrev pub Never : Given → Walk → Type 0
Never e w = ⊥

-- A walk over evidence of a tree, within limits that leave room for the way that the tree leads the question.
pub record IsTreesWalk (e : Given) (asked : Asked) (limits : Limits) (zones : List SignedZone) (anchor : SignedZone) (said : Said) (names : List Name) (w : Walk) : Type 0 where
  pub of : IsOfTree e asked.class zones anchor
  pub says : Resolves (knows e.algorithms) (tree_of zones) (zone_of anchor) asked.rtype said asked.name names
  pub room : LeaveRoom limits (knows e.algorithms) (tree_of zones) (zone_of anchor) asked names
  pub stops : StopsWithin e asked limits w
  pub truly : WalksTruly e asked w

-- It is stuck only where it ends in an answer that tells nothing: no limit of delegations or aliases ends it, nor is the question none
-- of the anchor.
abbrev pub TreesAreWalked : Type 0
TreesAreWalked =
    (e : Given) (asked : Asked) (limits : Limits) (zones : List SignedZone) (anchor : SignedZone) (said : Said) (names : List Name) (w : Walk)
    → IsTreesWalk e asked limits zones anchor said names w → EndsInTree (IsUntoldOf asked limits.cuts zones anchor names) e limits said names w
