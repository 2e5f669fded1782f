-- Where walks and loops over evidence of a tree end whose messages show what its zones answer, whatever else is in them.
use Rattle.std.specs.Prelude.{◌≡◌, ◌⊎◌, ℕ, Bool, List, Some}
use Rattle.definitions.specs.Dnskey.{Ds}
use Rattle.definitions.specs.Limits.{pointer_limit}
use Rattle.definitions.specs.Name.{Name}
use Rattle.messages.specs.Message.{Asked}
use Rattle.answer_scheme.specs.Moments.{second_of}
use Rattle.answer_judge.specs.Judging.{JudgeInput}
use Rattle.answer_findings.specs.Table.{AgreesWith, Tried, answers_with}
use Rattle.message_laws.specs.Shown.{IsShown, ShowsKeys}
use Rattle.tree_laws.specs.Tree.{Said}
use Rattle.evidence_laws.specs.Given.{Given, IsOf, message_of}
use Rattle.evidence_laws.specs.Truth.{IsAnchored, SignedZone}
use Rattle.resolution_walk.specs.declared.ending.Walk.{Walk}
use Rattle.resolution_walk.specs.declared.walk.Limits.{Limits}
use Rattle.walk_laws.specs.Ending.{EndsInTree, IsTreesWalk, Never}
use Rattle.walk_laws.specs.Loop.{Caller, Reaches}
use Rattle.walk_laws.specs.Served.{AnswersItself, asking}
use Rattle.walk_laws.specs.Verdict.{Comes, IsTreesLoop, wanted_on_way}

-- The DNSKEY answer of each zone, if it is there, shows keys under the zone's DS set.
abbrev pub ShowZonesKeys : (Tried → Bool) → Given → List SignedZone → SignedZone → Type 0
ShowZonesKeys passes e zones anchor =
    (s : SignedZone) (ds : List Ds) (octets : List ℕ) → IsAnchored e zones anchor s ds → message_of e s.apex s.apex 48 ≡ Some octets
    → ShowsKeys (answers_with passes) pointer_limit s.apex ds octets (second_of e.at)

-- The table says of each signature that it has whether it passes, and the keys of each zone are shown. Where a zone answers a question
-- itself, for the type that is asked for or for DS, its answer, if it is there, shows what the zone answers, by an alias or not.
pub record AreShown (passes : Tried → Bool) (e : Given) (asked : Asked) (zones : List SignedZone) (anchor : SignedZone) : Type 0 where
  pub checked : AgreesWith e.table passes
  pub keys : ShowZonesKeys passes e zones anchor
  pub answers : (s : SignedZone) (ds : List Ds) (n : Name) (t : ℕ) (h : JudgeInput) → (t ≡ asked.rtype) ⊎ (t ≡ 43) → IsAnchored e zones anchor s ds
      → AnswersItself s n t → IsOf e s.apex ds (asking asked n t) h → IsShown (answers_with passes) pointer_limit h s.version.mode s.version.records

-- Then no walk is stuck.
abbrev pub ShownTreesAreWalked : Type 0
ShownTreesAreWalked =
    (passes : Tried → Bool) (e : Given) (asked : Asked) (limits : Limits) (zones : List SignedZone) (anchor : SignedZone) (said : Said) (names : List Name) (w : Walk)
    → IsTreesWalk e asked limits zones anchor said names w → AreShown passes e asked zones anchor
    → EndsInTree Never e limits said names w

-- So a loop comes to what the tree says, but for the limit of signatures.
abbrev pub ShownTreesComeToVerdicts : Type 0
ShownTreesComeToVerdicts =
    (c : Caller) (asked : Asked) (limits : Limits) (most : ℕ) (walks : Given → Walk) (from : Given) (zones : List SignedZone) (anchor : SignedZone) (said : Said) (names : List Name)
    → IsTreesLoop c asked limits most walks from zones anchor said names
    → ((calls : ℕ) (e : Given) → Reaches c asked most walks from calls e → AreShown c.passes e asked zones anchor)
    → Comes Never (wanted_on_way asked limits from zones anchor names) c asked limits most walks from said names
