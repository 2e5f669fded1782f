-- What a message of a zone tells of a question, on the way down from a trust anchor (RFC 4035, 5).
use Rattle.std.specs.Prelude.{◌≡◌, ℕ, true, false, ◌&&◌, ◌==◌, List, [], ◌∷◌, Option, Some, None, if◌then◌else◌}
use Rattle.definitions.specs.Dnskey.{Ds}
use Rattle.definitions.specs.Name.{Name, low, same}
use Rattle.definitions.specs.Zone.{Verdict, Records, NoType, NoName, StarRecords, StarNoType, Delegated, Open, Unsigned}
use Rattle.denial_laws.specs.Leading.{Lead, To}
use Rattle.messages.specs.Message.{Asked}
use Rattle.answer_judge_rules.specs.Rules.{verdict_of}
use Rattle.answer_judge.specs.Judging.{JudgeInput}
use Rattle.answer_judge_facts.specs.declared.validity.Validity.{Validity}
use Rattle.answer_judge.specs.declared.verdict.Refusal.{Refusal}
use Rattle.answer_findings.specs.Table.{Checked, Tried}
use Rattle.answer_findings.specs.declared.meaning.AnswerOutcome.{AnswerOutcome}
use Rattle.answer_findings.specs.declared.meaning.AnswerOutcome.TheVariants as f
use Rattle.answer_findings.specs.Found.{IsFound}
use Rattle.answer_findings.specs.Judgements.{aside, asking}
use Rattle.answer_findings.specs.Lasts.{least_of}
use Rattle.answer_findings.specs.Seen.{Seen, SeesVerdict, SeesDelegated, SeesNoDs, SeesAlias, SeesStarAlias, SeesOpen, SeesDname, SeesReferral, seen}
use Rattle.answer_terms.specs.Redirection.{lead_seen}
use Rattle.resolution_step.specs.Counted.{plus}
use Rattle.resolution_step.specs.KnownDs.{known_ds}
use Rattle.resolution_step.specs.Work.{work_of}
use Rattle.resolution_step.specs.declared.judged_step.Counts.{Counts}
use Rattle.resolution_step.specs.declared.judged_step.Step.{Step}
use Rattle.resolution_step.specs.declared.judged_step.Step.TheVariants as s
use Rattle.resolution_step.specs.declared.judged_step.JudgedStep.{JudgedStep}

-- a step, without how it is kept
pub data StepSeen : Type 0 where
  TellsVerdict : Verdict → StepSeen
  TellsLead : Lead → StepSeen
  TellsDown : Name → List Ds → StepSeen
  TellsUnsigned : Name → List (List ℕ) → StepSeen
  TellsOpen : StepSeen
  TellsNoCut : StepSeen
  TellsNoneBelow : StepSeen
  TellsNothing : Option Refusal → StepSeen
  AsksFor : List Tried → StepSeen

abbrev pub told : Step → StepSeen
told (s.Answer v) = TellsVerdict (verdict_of v)
told (s.Leads l) = TellsLead (lead_seen l)
told (s.Down c ds) = TellsDown c ds.items
told (s.Unsigned c datas) = TellsUnsigned c datas
told s.LeftOpen = TellsOpen
told s.NoCut = TellsNoCut
told s.NoneBelow = TellsNoneBelow
told (s.Untold e) = TellsNothing e
told (s.Asks asks) = AsksFor asks.items

-- ---- what a search comes to

-- what is found, without counts; a refusal; signatures that are asked for
pub data Search : Type 0 where
  Sees : Seen → Search
  Refuses : Refusal → Search
  Wants : List Tried → Search

abbrev pub search_of : AnswerOutcome → Search
search_of (f.Means meaning validity verifications hashes) = Sees (seen meaning)
search_of (f.Refused refusal verifications hashes) = Refuses refusal
search_of (f.Asks asks verifications hashes) = Wants asks.items

-- how long what is found lasts; where nothing is found nothing lasts
abbrev pub validity_of_outcome : AnswerOutcome → Option Validity
validity_of_outcome (f.Means meaning validity verifications hashes) = validity
validity_of_outcome (f.Refused refusal verifications hashes) = None
validity_of_outcome (f.Asks asks verifications hashes) = None

-- how often was verified and hashed for it; where signatures are asked for, by the judgements that were made before; and the work of
-- its messages
abbrev pub counts_of : ℕ → AnswerOutcome → Counts
counts_of work (f.Means meaning validity verifications hashes) = record { verifications = verifications; hashes = hashes; work = work }
counts_of work (f.Refused refusal verifications hashes) = record { verifications = verifications; hashes = hashes; work = work }
counts_of work (f.Asks asks verifications hashes) = record { verifications = verifications; hashes = hashes; work = work }

-- A search of a case's messages comes to this, which lasts so long and for which so often was verified and hashed.
pub record IsSearched (table : List Checked) (h : JudgeInput) (came : Search) (validity : Option Validity) (counts : Counts) : Type 0 where
  pub found : AnswerOutcome
  pub is_found : IsFound table h found
  pub is : came ≡ search_of found
  pub lasts : validity ≡ validity_of_outcome found
  pub counted : counts ≡ counts_of (work_of h) found

-- ---- DS at a name

-- the delegation at a name with these DS data: the way down by those of a known kind, or without one nothing that is signed, beside
-- all these data
abbrev pub by_known : Name → List (List ℕ) → List Ds → StepSeen
by_known c datas [] = TellsUnsigned c datas
by_known c datas (d ∷ ds) = TellsDown c (d ∷ ds)

abbrev pub bound_told : List ℕ → Name → List (List ℕ) → StepSeen
bound_told algorithms c datas = by_known (low c) datas (known_ds algorithms datas)

abbrev pub cut_said : List ℕ → Name → Verdict → StepSeen
cut_said algorithms n (Records datas) = bound_told algorithms n datas
cut_said algorithms n NoName = TellsNoneBelow
cut_said algorithms n (StarRecords datas) = TellsNoneBelow
cut_said algorithms n StarNoType = TellsNoneBelow
cut_said algorithms n Open = TellsOpen
cut_said algorithms n _ = TellsNothing None

-- What is found of DS at a name tells of a delegation there. A name that has no DS record may be one; an alias is none. None is below
-- a name that does not exist, nor below a DNAME.
abbrev pub cut_told : List ℕ → Name → Seen → StepSeen
cut_told algorithms n (SeesVerdict v) = cut_said algorithms n v
cut_told algorithms n (SeesNoDs true) = TellsUnsigned (low n) []
cut_told algorithms n (SeesNoDs false) = TellsNoCut
cut_told algorithms n (SeesAlias target) = TellsNoCut
cut_told algorithms n (SeesStarAlias target) = TellsNoneBelow
cut_told algorithms n SeesOpen = TellsOpen
cut_told algorithms n (SeesDname owner lead) = TellsNoneBelow
cut_told algorithms n _ = TellsNothing None

abbrev pub cut_searched : List ℕ → Name → Search → StepSeen
cut_searched algorithms n (Sees x) = cut_told algorithms n x
cut_searched algorithms n (Refuses e) = TellsNothing (Some e)
cut_searched algorithms n (Wants asks) = AsksFor asks

-- what a message tells of a delegation at the name whose DS it is judged for
pub record IsCutTold (algorithms : List ℕ) (table : List Checked) (h : JudgeInput) (said : StepSeen) (validity : Option Validity) (counts : Counts) : Type 0 where
  pub came : Search
  pub searched : IsSearched table h came validity counts
  pub is : said ≡ cut_searched algorithms h.asked.name came

-- ---- the question itself

abbrev pub verdict_told : Verdict → StepSeen
verdict_told Delegated = TellsNothing None
verdict_told Open = TellsOpen
verdict_told Unsigned = TellsNothing None
verdict_told v = TellsVerdict v

-- A referral that is proved is none for DS at the delegation itself, which the zone would answer.
abbrev pub referral_told : List ℕ → Asked → Name → List (List ℕ) → StepSeen
referral_told algorithms asked c datas = if same c asked.name && (asked.rtype == 43) then TellsNothing None else bound_told algorithms c datas

abbrev pub seen_told : List ℕ → Asked → Seen → StepSeen
seen_told algorithms asked (SeesVerdict v) = verdict_told v
seen_told algorithms asked (SeesDelegated c) = TellsNothing None
seen_told algorithms asked (SeesNoDs d) = TellsVerdict NoType
seen_told algorithms asked (SeesAlias target) = TellsLead (To target)
seen_told algorithms asked (SeesStarAlias target) = TellsLead (To target)
seen_told algorithms asked SeesOpen = TellsOpen
seen_told algorithms asked (SeesDname owner lead) = TellsLead lead
seen_told algorithms asked (SeesReferral c datas) = referral_told algorithms asked c datas

-- at a delegation that is proved, what the message tells of its DS
abbrev pub at_cut : StepSeen → StepSeen
at_cut (TellsDown c ds) = TellsDown c ds
at_cut (TellsUnsigned c datas) = TellsUnsigned c datas
at_cut TellsOpen = TellsOpen
at_cut (TellsNothing e) = TellsNothing e
at_cut (AsksFor asks) = AsksFor asks
at_cut _ = TellsNothing None

-- What is told at a delegation that is proved rests on what is told of its DS too: it lasts as long as both, and both are counted.
pub record IsToldAt (algorithms : List ℕ) (table : List Checked) (h : JudgeInput) (c : Name) (validity : Option Validity) (counts : Counts) (said : StepSeen) (both : Option Validity) (sums : Counts) : Type 0 where
  pub below : StepSeen
  pub below_validity : Option Validity
  pub below_counts : Counts
  pub told_is : IsCutTold algorithms table (aside h (asking h c 43)) below below_validity below_counts
  pub is : said ≡ at_cut below
  pub lasts : both ≡ least_of validity below_validity
  pub counted : sums ≡ plus counts below_counts

-- the same, as what was found alone
abbrev pub IsAlone : StepSeen → Option Validity → Counts → StepSeen → Option Validity → Counts → Type 0
IsAlone x validity counts said l n = (said ≡ x) × (l ≡ validity) × (n ≡ counts)

-- The message of a name that is delegated is judged for DS at the delegation.
abbrev pub IsSeenTold : List ℕ → List Checked → JudgeInput → Seen → Option Validity → Counts → StepSeen → Option Validity → Counts → Type 0
IsSeenTold algorithms table h (SeesDelegated (Some c)) validity counts said l n = IsToldAt algorithms table h c validity counts said l n
IsSeenTold algorithms table h x validity counts said l n = IsAlone (seen_told algorithms h.asked x) validity counts said l n

abbrev pub IsSearchTold : List ℕ → List Checked → JudgeInput → Search → Option Validity → Counts → StepSeen → Option Validity → Counts → Type 0
IsSearchTold algorithms table h (Sees x) validity counts said l n = IsSeenTold algorithms table h x validity counts said l n
IsSearchTold algorithms table h (Refuses e) validity counts said l n = IsAlone (TellsNothing (Some e)) validity counts said l n
IsSearchTold algorithms table h (Wants asks) validity counts said l n = IsAlone (AsksFor asks) validity counts said l n

-- What a message tells of the question that it is judged for, how long that lasts, and how often was verified and hashed for it.
pub record IsTold (algorithms : List ℕ) (table : List Checked) (h : JudgeInput) (said : StepSeen) (validity : Option Validity) (counts : Counts) : Type 0 where
  pub came : Search
  pub found_validity : Option Validity
  pub found_counts : Counts
  pub searched : IsSearched table h came found_validity found_counts
  pub is : IsSearchTold algorithms table h came found_validity found_counts said validity counts

-- ---- as it is kept

abbrev pub IsJudgedStep : List ℕ → List Checked → JudgeInput → JudgedStep → Type 0
IsJudgedStep algorithms table h t = IsTold algorithms table h (told t.step) t.validity t.counts

abbrev pub IsJudgedCut : List ℕ → List Checked → JudgeInput → JudgedStep → Type 0
IsJudgedCut algorithms table h t = IsCutTold algorithms table h (told t.step) t.validity t.counts

abbrev pub IsStepOfOutcome : List ℕ → List Checked → JudgeInput → AnswerOutcome → JudgedStep → Type 0
IsStepOfOutcome algorithms table h found t = IsSearchTold algorithms table h (search_of found) (validity_of_outcome found) (counts_of (work_of h) found) (told t.step) t.validity t.counts

abbrev pub IsStepOfMeaning : List ℕ → List Checked → JudgeInput → Seen → Option Validity → Counts → JudgedStep → Type 0
IsStepOfMeaning algorithms table h x validity counts t = IsSeenTold algorithms table h x validity counts (told t.step) t.validity t.counts

abbrev pub IsStepAtCut : List ℕ → List Checked → JudgeInput → Name → Option Validity → Counts → JudgedStep → Type 0
IsStepAtCut algorithms table h c validity counts t = IsToldAt algorithms table h c validity counts (told t.step) t.validity t.counts

abbrev pub IsCutFound : List ℕ → Name → ℕ → AnswerOutcome → JudgedStep → Type 0
IsCutFound algorithms n work found t = IsAlone (cut_searched algorithms n (search_of found)) (validity_of_outcome found) (counts_of work found) (told t.step) t.validity t.counts
