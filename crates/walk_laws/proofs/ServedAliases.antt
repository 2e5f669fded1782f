-- Where a walk and a loop over evidence of a tree end whose zones answer as they are published, by aliases too: these show what they answer.
use Rattle.std.proofs.Common.{Bool, List}
use Rattle.definitions.specs.Limits.{pointer_limit}
use Rattle.messages.specs.Message.{Asked}
use Rattle.answer_findings.specs.Table.{Tried, answers_with}
use Rattle.message_laws.proofs.GivenAliased.{given_with_aliases_is_shown}
use Rattle.tree_laws.specs.Laws.{TreesResolveToOne, TreesSayOne}
use Rattle.evidence_laws.specs.Given.{Given}
use Rattle.evidence_laws.specs.Truth.{SignedZone}
use Rattle.walk_laws.specs.Aliased.{AliasedTreesAreWalked, AreServedWithAliases}
use Rattle.walk_laws.specs.Shown.{AreShown}
use Rattle.walk_laws.specs.Verdict.{AliasedTreesComeToVerdicts}
use Rattle.walk_laws.proofs.Served.{show_keys}
use Rattle.walk_laws.proofs.ShownTrees.{shown_trees_are_walked, shown_trees_come_to_verdicts}

show_answers : (passes : Tried → Bool) (e : Given) (asked : Asked) (zones : List SignedZone) (anchor : SignedZone) → AreServedWithAliases passes e asked zones anchor → AreShown passes e asked zones anchor
show_answers passes e asked zones anchor served = record {
  checked = served.checked;
  keys = show_keys passes e zones anchor served.keys;
  answers = λ s ds n t h kind anchored none is.
      given_with_aliases_is_shown (answers_with passes) pointer_limit h s.version.mode s.version.records (served.given s ds n t h kind anchored none is);
}

pub aliased_trees_are_walked : TreesSayOne → TreesResolveToOne → AliasedTreesAreWalked
aliased_trees_are_walked one resolve_one passes e asked limits zones anchor said names w k served =
    shown_trees_are_walked one resolve_one passes e asked limits zones anchor said names w k (show_answers passes e asked zones anchor served)

pub aliased_trees_come_to_verdicts : TreesSayOne → TreesResolveToOne → AliasedTreesComeToVerdicts
aliased_trees_come_to_verdicts one resolve_one c asked limits most walks from zones anchor said names k served =
    shown_trees_come_to_verdicts one resolve_one c asked limits most walks from zones anchor said names k (λ calls e reached. show_answers c.passes e asked zones anchor (served calls e reached))
