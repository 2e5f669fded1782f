-- Where a walk over evidence of a tree ends whose zones, aliases among their records or not, answer as they are published.
use Rattle.std.specs.Prelude.{◌≡◌, ◌⊎◌, ℕ, Bool, List}
use Rattle.definitions.specs.Dnskey.{Ds}
use Rattle.definitions.specs.Limits.{pointer_limit}
use Rattle.definitions.specs.Name.{Name}
use Rattle.messages.specs.Message.{Asked}
use Rattle.answer_judge.specs.Judging.{JudgeInput}
use Rattle.answer_findings.specs.Table.{AgreesWith, Tried, answers_with}
use Rattle.message_laws.specs.Given.{WasGivenWithAliases}
use Rattle.tree_laws.specs.Tree.{Said}
use Rattle.evidence_laws.specs.Given.{Given, IsOf}
use Rattle.evidence_laws.specs.Truth.{IsAnchored, SignedZone}
use Rattle.resolution_walk.specs.declared.ending.Walk.{Walk}
use Rattle.resolution_walk.specs.declared.walk.Limits.{Limits}
use Rattle.walk_laws.specs.Ending.{EndsInTree, IsTreesWalk, Never}
use Rattle.walk_laws.specs.Served.{AnswersItself, ZonesKeys, asking}

-- The table says of each signature that it has whether it passes, and the keys of each zone are those that it has given. Where a zone
-- answers a question itself, for the type that is asked for or for DS, its answer, if it is there, is what it has given, by an alias or not.
pub record AreServedWithAliases (passes : Tried → Bool) (e : Given) (asked : Asked) (zones : List SignedZone) (anchor : SignedZone) : Type 0 where
  pub checked : AgreesWith e.table passes
  pub keys : ZonesKeys passes e zones anchor
  pub given : (s : SignedZone) (ds : List Ds) (n : Name) (t : ℕ) (h : JudgeInput) → (t ≡ asked.rtype) ⊎ (t ≡ 43) → IsAnchored e zones anchor s ds
      → AnswersItself s n t → IsOf e s.apex ds (asking asked n t) h → WasGivenWithAliases (answers_with passes) pointer_limit h s.version.mode s.version.records

-- Then too no walk is stuck.
abbrev pub AliasedTreesAreWalked : Type 0
AliasedTreesAreWalked =
    (passes : Tried → Bool) (e : Given) (asked : Asked) (limits : Limits) (zones : List SignedZone) (anchor : SignedZone) (said : Said) (names : List Name) (w : Walk)
    → IsTreesWalk e asked limits zones anchor said names w → AreServedWithAliases passes e asked zones anchor
    → EndsInTree Never e limits said names w
