-- Where a loop over evidence of a tree ends.
use Rattle.std.specs.Prelude.{◌≡◌, ℕ, ◌+◌, ◌-◌, ◌*◌, ◌<◌, ◌≤◌, List, ◌∷◌, Some, length}
use Rattle.std.specs.Global.{Vec}
use Rattle.definitions.specs.Name.{Name}
use Rattle.messages.specs.Message.{Asked}
use Rattle.answer_findings.specs.Table.{Tried}
use Rattle.tree_laws.specs.Laws.{AreAlike}
use Rattle.tree_laws.specs.Tree.{Said, Resolves}
use Rattle.evidence_laws.specs.Given.{Given}
use Rattle.evidence_laws.specs.KnownDs.{knows}
use Rattle.evidence_laws.specs.Truth.{SignedZone, tree_of, zone_of}
use Rattle.resolution_walk.specs.Ended.{said_of}
use Rattle.resolution_walk.specs.Truth.{WalksTruly}
use Rattle.resolution_walk.specs.declared.ending.Ending.TheVariants as ends
use Rattle.resolution_walk.specs.declared.ending.Walk.{Walk}
use Rattle.resolution_walk.specs.declared.walk.Limits.{Limits}
use Rattle.walk_laws.specs.Aliased.{AreServedWithAliases}
use Rattle.walk_laws.specs.Ending.{IsUntoldOf, LeaveRoom, Never}
use Rattle.walk_laws.specs.Few.{IsReadOfTree}
use Rattle.walk_laws.specs.Loop.{AreWalks, Caller, Reaches}
use Rattle.walk_laws.specs.Served.{AreServedWithKeys}
use Rattle.walk_laws.specs.Tree.{most_wanted}

-- A walk says what the tree says, through its aliases; or it asks for more signatures than are allowed; or it is stuck.
pub data EndsLoop (Stuck : Given → Walk → Type 0) (most : ℕ) (e : Given) (said : Said) (names : List Name) (w : Walk) : Type 0 where
  SaysSo : (s : Said) → said_of w.ending ≡ Some s → AreAlike s said → w.through.items ≡ names → EndsLoop Stuck most e said names w
  AsksTooMuch : (asks : Vec Tried) → w.ending ≡ ends.Asks asks → most < length e.table + length asks.items → EndsLoop Stuck most e said names w
  IsStuck : Stuck e w → EndsLoop Stuck most e said names w

-- how many messages may be wanted on the way that the tree leads the question
abbrev pub wanted_on_way : Asked → Limits → Given → List SignedZone → SignedZone → List Name → ℕ
wanted_on_way asked limits from zones anchor names = most_wanted (knows from.algorithms) (tree_of zones) (zone_of anchor) limits.cuts asked (asked.name ∷ names)

-- The loop of a caller over evidence of a tree, within limits that leave room for the tree's way and for all messages that may be
-- wanted.
pub record IsTreesLoop (c : Caller) (asked : Asked) (limits : Limits) (most : ℕ) (walks : Given → Walk) (from : Given) (zones : List SignedZone) (anchor : SignedZone) (said : Said) (names : List Name) : Type 0 where
  pub says : Resolves (knows from.algorithms) (tree_of zones) (zone_of anchor) asked.rtype said asked.name names
  pub room : LeaveRoom limits (knows from.algorithms) (tree_of zones) (zone_of anchor) asked names
  pub messages : length from.messages + 2 * wanted_on_way asked limits from zones anchor names < limits.messages
  pub of : (calls : ℕ) (e : Given) → Reaches c asked most walks from calls e → IsReadOfTree asked.class zones anchor e
  pub are : AreWalks c asked limits most walks from
  pub truly : (calls : ℕ) (e : Given) → Reaches c asked most walks from calls e → WalksTruly e asked (walks e)

-- The loop ends so, behind so many calls that want messages, and those that ask for signatures, which are few by their limit.
pub record Comes (Stuck : Given → Walk → Type 0) (wants : ℕ) (c : Caller) (asked : Asked) (limits : Limits) (most : ℕ) (walks : Given → Walk) (from : Given) (said : Said) (names : List Name) : Type 0 where
  pub calls : ℕ
  pub last : Given
  pub reached : Reaches c asked most walks from calls last
  pub end : EndsLoop Stuck most last said names (walks last)
  pub few : calls ≤ wants + (most - length from.table)

-- So ends each loop over evidence of a tree.
abbrev pub LoopsComeToVerdicts : Type 0
LoopsComeToVerdicts =
    (c : Caller) (asked : Asked) (limits : Limits) (most : ℕ) (walks : Given → Walk) (from : Given) (zones : List SignedZone) (anchor : SignedZone) (said : Said) (names : List Name)
    → IsTreesLoop c asked limits most walks from zones anchor said names → Comes (IsUntoldOf asked limits.cuts zones anchor names) (wanted_on_way asked limits from zones anchor names) c asked limits most walks from said names

-- Of a tree whose zones answer as they are published, and have given their keys, for a question that is allowed in each zone that refers it
-- nowhere: zones without aliases.
abbrev pub TreesComeToVerdicts : Type 0
TreesComeToVerdicts =
    (c : Caller) (asked : Asked) (limits : Limits) (most : ℕ) (walks : Given → Walk) (from : Given) (zones : List SignedZone) (anchor : SignedZone) (said : Said) (names : List Name)
    → IsTreesLoop c asked limits most walks from zones anchor said names
    → ((calls : ℕ) (e : Given) → Reaches c asked most walks from calls e → AreServedWithKeys c.passes e asked zones anchor)
    → Comes Never (wanted_on_way asked limits from zones anchor names) c asked limits most walks from said names

-- Of a tree whose zones, aliases among their records or not, answer as they are published, by an alias in place of what is asked for too.
abbrev pub AliasedTreesComeToVerdicts : Type 0
AliasedTreesComeToVerdicts =
    (c : Caller) (asked : Asked) (limits : Limits) (most : ℕ) (walks : Given → Walk) (from : Given) (zones : List SignedZone) (anchor : SignedZone) (said : Said) (names : List Name)
    → IsTreesLoop c asked limits most walks from zones anchor said names
    → ((calls : ℕ) (e : Given) → Reaches c asked most walks from calls e → AreServedWithAliases c.passes e asked zones anchor)
    → Comes Never (wanted_on_way asked limits from zones anchor names) c asked limits most walks from said names
