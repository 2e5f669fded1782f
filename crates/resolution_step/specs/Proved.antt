-- What messages prove: by the judgements of them that say something, whatever others refuse. It stays so as long as it is said to last.
use Rattle.std.specs.Prelude.{◌≡◌, ◌⊎◌, ℕ, ◌+◌, ◌/◌, ◌≤◌, Bool, true, false, List, Option, Some, None}
use Rattle.definitions.specs.Limits.{pointer_limit}
use Rattle.definitions.specs.Name.{Name, same}
use Rattle.definitions.specs.Zone.{Verdict, Records, NoType, Delegated}
use Rattle.messages.specs.Message.{AreOctets, Asked}
use Rattle.answer_judge.specs.Judging.{JudgeInput, Says}
use Rattle.answer_judge_facts.specs.declared.validity.Validity.{Validity}
use Rattle.answer_judge.specs.Judged.{judged}
use Rattle.answer_judge.specs.Lasts.{at_moment}
use Rattle.answer_findings.specs.Judgements.{alias_hint, aside, asking, cut_question, is_delegated}
use Rattle.answer_findings.specs.Seen.{Seen, SeesVerdict, SeesDelegated, SeesNoDs, SeesAlias, SeesStarAlias, SeesOpen, SeesDname, SeesReferral, answers_ds, lead_said}
use Rattle.answer_findings.specs.Table.{AgreesWith, Checked, Tried, answers_with}
use Rattle.resolution_step.specs.Told.{StepSeen, TellsNothing, AsksFor, IsCutTold, IsTold, at_cut, cut_told, seen_told}
use Rattle.resolution_step.specs.declared.judged_step.Counts.{Counts}

-- ---- what judgements say

-- whichever signatures pass beside those of the table, a judge says this of the messages
abbrev pub IsSaid : List Checked → JudgeInput → Verdict → Type 0
IsSaid table h v = (passes : Tried → Bool) → AgreesWith table passes → judged (answers_with passes) pointer_limit h ≡ Says v

-- the same of them for another question, which the answer suggests
pub record IsSaidAside (table : List Checked) (h : JudgeInput) (wanted : Option Asked) (asked : Asked) (v : Verdict) : Type 0 where
  pub is : wanted ≡ Some asked
  pub said : IsSaid table (aside h asked) v

-- where a name leads as an alias, or that opt-out leaves it open: what is said of the CNAME or the DNAME
pub record IsLeadProved (table : List Checked) (h : JudgeInput) (x : Seen) : Type 0 where
  pub asked : Asked
  pub verdict : Verdict
  pub said : IsSaidAside table h (alias_hint pointer_limit h) asked verdict
  pub leads : lead_said h asked (Says verdict) ≡ Some x

-- the DS records of a referral
pub record IsReferralProved (table : List Checked) (h : JudgeInput) (c : Name) (datas : List (List ℕ)) : Type 0 where
  pub asked : Asked
  pub said : IsSaidAside table h (cut_question pointer_limit h 43) asked (Records datas)
  pub cut_is : c ≡ asked.name

-- a delegation: of NS there it is said, and DS there is answered
pub record IsDelegationProved (table : List Checked) (h : JudgeInput) (c : Name) : Type 0 where
  pub ns : Asked
  pub delegated : IsSaidAside table h (cut_question pointer_limit h 2) ns Delegated
  pub cut_is : c ≡ ns.name
  pub ds : Asked
  pub verdict : Verdict
  pub answered : IsSaidAside table h (cut_question pointer_limit h 43) ds verdict
  pub answers : answers_ds (Says verdict) ≡ true

-- whether a name without DS is delegated: what is said of its NS; the apex is not
abbrev pub IsWhetherProved : List Checked → JudgeInput → Bool → Type 0
IsWhetherProved table h d =
    ((same h.asked.name h.apex ≡ true) × (d ≡ false))
    ⊎ ((w : Verdict) × IsSaid table (aside h (asking h h.asked.name 2)) w × (d ≡ is_delegated w))

-- what is found, by the judgements that it rests on
abbrev pub Proves : List Checked → JudgeInput → Seen → Type 0
Proves table h (SeesVerdict v) = IsSaid table h v
Proves table h (SeesDelegated None) = IsSaid table h Delegated
Proves table h (SeesDelegated (Some c)) = IsSaid table h Delegated × IsDelegationProved table h c
Proves table h (SeesNoDs d) = IsSaid table h NoType × IsWhetherProved table h d
Proves table h (SeesAlias target) = IsLeadProved table h (SeesAlias target)
Proves table h (SeesStarAlias target) = IsLeadProved table h (SeesStarAlias target)
Proves table h SeesOpen = IsLeadProved table h SeesOpen
Proves table h (SeesDname owner lead) = IsLeadProved table h (SeesDname owner lead)
Proves table h (SeesReferral c datas) = IsReferralProved table h c datas

-- ---- what is told

-- of a delegation at the name whose DS the messages are judged for
pub record IsCutProved (algorithms : List ℕ) (table : List Checked) (h : JudgeInput) (said : StepSeen) : Type 0 where
  pub seen : Seen
  pub proves : Proves table h seen
  pub is : said ≡ cut_told algorithms h.asked.name seen

-- at a delegation that is proved, of its DS
pub record IsProvedAt (algorithms : List ℕ) (table : List Checked) (h : JudgeInput) (c : Name) (said : StepSeen) : Type 0 where
  pub below : StepSeen
  pub proved : IsCutProved algorithms table (aside h (asking h c 43)) below
  pub is : said ≡ at_cut below

abbrev pub IsSeenProved : List ℕ → List Checked → JudgeInput → Seen → StepSeen → Type 0
IsSeenProved algorithms table h (SeesDelegated (Some c)) said = IsProvedAt algorithms table h c said
IsSeenProved algorithms table h x said = said ≡ seen_told algorithms h.asked x

-- of the question
pub record IsProved (algorithms : List ℕ) (table : List Checked) (h : JudgeInput) (said : StepSeen) : Type 0 where
  pub seen : Seen
  pub proves : Proves table h seen
  pub is : IsSeenProved algorithms table h seen said

-- ---- how long it stays so

-- it tells something
abbrev pub tells : StepSeen → Bool
tells (TellsNothing e) = false
tells (AsksFor asks) = false
tells _ = true

-- a moment, in nanoseconds, from one on up to the last second that this lasts from there
abbrev pub IsWithinValidity : ℕ → ℕ → Validity → Type 0
IsWithinValidity at later l = (at ≤ later) × (later / 1000000000 ≤ at / 1000000000 + l.seconds)

-- What a message tells at a moment is proved by the same octets at each moment from there up to the last second that it lasts.
abbrev pub ToldStaysProved : Type 0
ToldStaysProved =
    (algorithms : List ℕ) (table : List Checked) (h : JudgeInput) (said : StepSeen) (l : Validity) (counts : Counts) (at later : ℕ)
    → AreOctets h.dnskey_bytes → AreOctets h.answer_bytes
    → IsTold algorithms table (at_moment at h) said (Some l) counts → tells said ≡ true → IsWithinValidity at later l
    → IsProved algorithms table (at_moment later h) said

-- so it is of a delegation at a name
abbrev pub CutToldStaysProved : Type 0
CutToldStaysProved =
    (algorithms : List ℕ) (table : List Checked) (h : JudgeInput) (said : StepSeen) (l : Validity) (counts : Counts) (at later : ℕ)
    → AreOctets h.dnskey_bytes → AreOctets h.answer_bytes
    → IsCutTold algorithms table (at_moment at h) said (Some l) counts → tells said ≡ true → IsWithinValidity at later l
    → IsCutProved algorithms table (at_moment later h) said
