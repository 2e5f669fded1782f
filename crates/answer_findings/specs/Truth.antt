-- What is found is so of the zone.
use Rattle.std.specs.Prelude.{◌≡◌, ◌↔◌, ℕ, Bool, true, List, [], ◌∷◌, Option, Some, None, Contains}
use Rattle.definitions.specs.Limits.{pointer_limit}
use Rattle.definitions.specs.Name.{Name, low, wire, at_or_above, strictly_above}
use Rattle.definitions.specs.Zone.{Verdict, Records, StarRecords, NoType, Delegated, Open, cut, is_delegation, verdict}
use Rattle.definitions.specs.ZoneChain.{optout_of}
use Rattle.denial_laws.specs.Leading.{Lead, To, LeadsTo, exchanged}
use Rattle.messages.specs.Message.{Asked}
use Rattle.answer_scheme.specs.Answers.{Answers}
use Rattle.answer_judge.specs.Honest.{IsHonestInput, IsSaidByOne}
use Rattle.answer_judge.specs.Versions.{Version, zone_in}
use Rattle.answer_judge.specs.Judging.{JudgeInput}
use Rattle.answer_judge_table.specs.Table.{AreTrue, Checked, Tried, answers_with, passes_in}
use Rattle.answer_findings.specs.declared.meaning.AnswerOutcome.{AnswerOutcome}
use Rattle.answer_findings.specs.declared.meaning.AnswerOutcome.TheVariants as f
use Rattle.answer_findings.specs.Found.{IsBeside}
use Rattle.answer_findings.specs.Judgements.{aside}
use Rattle.answer_findings.specs.Laws.{HasRecords}
use Rattle.answer_findings.specs.Seen.{Seen, SeesVerdict, SeesDelegated, SeesNoDs, SeesAlias, SeesStarAlias, SeesOpen, SeesDname, SeesReferral, seen}

-- Nothing is forged in the messages, whichever of these questions they are judged for: the case's own, and those beside it.
pub record AreHonestBeside (a : Answers) (k : ℕ) (h : JudgeInput) (versions : List Version) : Type 0 where
  pub itself : IsHonestInput a k h versions
  pub beside : (asked : Asked) → IsBeside h asked → IsHonestInput a k (aside h asked) versions

-- In a version of the zone this is the verdict on the CNAME of the question's name, its own or that of the wildcard that stands
-- for it, and the name leads to the target.
pub record IsAliasInOne (h : JudgeInput) (versions : List Version) (said : Verdict) (target : Name) : Type 0 where
  pub version : Version
  pub there : Contains versions version
  pub says : verdict (zone_in h.apex version) (optout_of version.mode) h.asked.name 5 ≡ said
  pub leads : LeadsTo (zone_in h.apex version) (optout_of version.mode) h.asked.name h.asked.rtype (To target)

-- A version of the zone has a DNAME record at the owner, which is above the name, and redirects the name.
pub record IsRedirectedInOne (h : JudgeInput) (versions : List Version) (owner : Name) (lead : Lead) : Type 0 where
  pub version : Version
  pub there : Contains versions version
  pub target : Name
  pub has : HasRecords (zone_in h.apex version) owner 39 (wire target ∷ [])
  pub above : strictly_above owner h.asked.name ≡ true
  pub is : lead ≡ exchanged h.asked.name owner target
  pub leads : LeadsTo (zone_in h.apex version) (optout_of version.mode) h.asked.name h.asked.rtype lead

-- A version of the zone has these DS records at the cut, which is at or above the name, and below the apex.
pub record HasDsInOne (h : JudgeInput) (versions : List Version) (c : Name) (ds : List (List ℕ)) : Type 0 where
  pub version : Version
  pub there : Contains versions version
  pub has : HasRecords (zone_in h.apex version) c 43 ds
  pub below : strictly_above h.apex c ≡ true
  pub above : at_or_above c h.asked.name ≡ true

-- of a zone that doesn't change the cut is the topmost delegation at or above the name
abbrev pub CutsAt : JudgeInput → List Version → Option Name → Type 0
CutsAt h versions None = Unit {0}
CutsAt h versions (Some c) = (v : Version) → versions ≡ v ∷ [] → cut (zone_in h.apex v) (low h.asked.name) ≡ Some (low c)

-- a zone that doesn't change delegates the name exactly then
abbrev pub Delegates : JudgeInput → List Version → Bool → Type 0
Delegates h versions d = (v : Version) → versions ≡ v ∷ [] → (d ≡ true) ↔ (is_delegation (zone_in h.apex v) (low h.asked.name) ≡ true)

-- what is found is so of a version of the zone
abbrev pub IsSo : JudgeInput → List Version → Seen → Type 0
IsSo h versions (SeesVerdict v) = IsSaidByOne h versions v
IsSo h versions (SeesDelegated c) = IsSaidByOne h versions Delegated × CutsAt h versions c
IsSo h versions (SeesNoDs d) = IsSaidByOne h versions NoType × Delegates h versions d
IsSo h versions (SeesAlias target) = IsAliasInOne h versions (Records (wire target ∷ [])) target
IsSo h versions (SeesStarAlias target) = IsAliasInOne h versions (StarRecords (wire target ∷ [])) target
IsSo h versions SeesOpen = IsSaidByOne h versions Open
IsSo h versions (SeesDname owner lead) = IsRedirectedInOne h versions owner lead
IsSo h versions (SeesReferral c ds) = HasDsInOne h versions c ds

-- Whatever signatures truly pass, those that pass in the table among them, of honest messages nothing is found but what is so.
abbrev pub IsTruly : List Checked → JudgeInput → Seen → Type 0
IsTruly table h said =
    (passes : Tried → Bool) (versions : List Version)
    → AreTrue (passes_in table) passes → AreHonestBeside (answers_with passes) pointer_limit h versions → IsSo h versions said

abbrev pub FindsTruly : List Checked → JudgeInput → AnswerOutcome → Type 0
FindsTruly table h (f.Means meaning validity verifications hashes) = IsTruly table h (seen meaning)
FindsTruly table h _ = Unit {0}
