-- What is found, as contracts see it, and from which judgements it is found.
use Rattle.std.specs.Prelude.{ℕ, ◌+◌, Bool, true, false, ◌&&◌, ◌==◌, List, [], ◌∷◌, Option, Some, None, Result, Ok, Err, if◌then◌else◌}
use Rattle.definitions.specs.Name.{Name, same, strictly_above}
use Rattle.definitions.specs.Zone.{Verdict, Records, StarRecords, NoType, Open}
use Rattle.denial_laws.specs.Leading.{To, TooLong, exchanged}
use Rattle.denial_laws.specs.Leading as leading
use Rattle.messages.specs.Message.{Asked}
use Rattle.messages.specs.NameOctets.{name_of_octets}
use Rattle.answer_terms.specs.Redirection.{lead_seen}
use Rattle.answer_judge_rules.specs.Rules.{verdict_of}
use Rattle.answer_judge.specs.Judging.{Answer, Says, Refuses, JudgeInput, answer_of, hashes_of, verifications_of}
use Rattle.answer_judge.specs.declared.verdict.Judgement.{Judgement}
use Rattle.answer_judge.specs.declared.verdict.Refusal.{Refusal}
use Rattle.answer_judge.specs.declared.verdict.Refused.{Refused}
use Rattle.answer_findings.specs.declared.meaning.Meaning.{Meaning}
use Rattle.answer_findings.specs.declared.meaning.Meaning.TheVariants as f
use Rattle.answer_findings.specs.declared.side_judgements.SideJudgement.{SideJudgement}
use Rattle.answer_findings.specs.declared.side_judgements.Judgements.{Judgements}
use Rattle.answer_findings.specs.Judgements.{is_delegated, is_no_type, is_not_proven, question_of, says_delegated}

-- what is found, without how it is kept
pub data Seen : Type 0 where
  SeesVerdict : Verdict → Seen
  SeesDelegated : Option Name → Seen
  SeesNoDs : Bool → Seen
  SeesAlias : Name → Seen
  SeesStarAlias : Name → Seen
  SeesOpen : Seen
  SeesDname : Name → leading.Lead → Seen
  SeesReferral : Name → List (List ℕ) → Seen

abbrev pub seen : Meaning → Seen
seen (f.Verdict v) = SeesVerdict (verdict_of v)
seen (f.Delegated c) = SeesDelegated c
seen (f.NoDs d) = SeesNoDs d
seen (f.Alias n) = SeesAlias n
seen (f.WildcardAlias n) = SeesStarAlias n
seen f.LeftOpen = SeesOpen
seen (f.Dname owner leads) = SeesDname owner (lead_seen leads)
seen (f.Referral c ds) = SeesReferral c ds

-- ---- aliases

-- the name that a list of one datum spells
abbrev pub one_name : List (List ℕ) → Option Name
one_name [] = None
one_name (d ∷ []) = name_of_octets d
one_name (d ∷ e ∷ ds) = None

-- where a name's own CNAME leads it, or a DNAME above it, by the question that they answer
abbrev pub own_lead : JudgeInput → Asked → Name → Option Seen
own_lead h asked target =
    if asked.rtype == 5 then Some (SeesAlias target)
    else if strictly_above asked.name h.asked.name then Some (SeesDname asked.name (exchanged h.asked.name asked.name target))
    else None

-- where a wildcard's CNAME leads
abbrev pub star_lead : Asked → Name → Option Seen
star_lead asked target = if asked.rtype == 5 then Some (SeesStarAlias target) else None

abbrev pub named_lead : (Name → Option Seen) → Option Name → Option Seen
named_lead lead None = None
named_lead lead (Some target) = lead target

-- a name that opt-out leaves open, by its CNAME's question
abbrev pub open_lead : Asked → Option Seen
open_lead asked = if asked.rtype == 5 then Some SeesOpen else None

abbrev pub lead_said : JudgeInput → Asked → Answer → Option Seen
lead_said h asked (Says (Records ds)) = named_lead (own_lead h asked) (one_name ds)
lead_said h asked (Says (StarRecords ds)) = named_lead (star_lead asked) (one_name ds)
lead_said h asked (Says Open) = open_lead asked
lead_said h asked _ = None

-- where a name leads that a judgement shows to be an alias, or that opt-out leaves it open, if it does
abbrev pub lead_found : JudgeInput → Option SideJudgement → Option Seen
lead_found h None = None
lead_found h (Some m) = lead_said h (question_of m) (answer_of m.said)

-- ---- delegations

abbrev pub referral_said : Name → Answer → Option Seen
referral_said c (Says (Records ds)) = Some (SeesReferral c ds)
referral_said c _ = None

-- a referral, where DS records at a cut are proven
abbrev pub referral_found : Option SideJudgement → Option Seen
referral_found None = None
referral_found (Some m) = referral_said m.question.name (answer_of m.said)

-- the zone answers for DS, whether or not there is any
abbrev pub answers_ds : Answer → Bool
answers_ds (Says (Records ds)) = true
answers_ds (Says NoType) = true
answers_ds _ = false

-- the cut, where the zone delegates it and answers for its DS
abbrev pub cut_found : Option SideJudgement → Option SideJudgement → Option Name
cut_found (Some ns) (Some ds) = if says_delegated (answer_of ns.said) && answers_ds (answer_of ds.said) then Some ns.question.name else None
cut_found _ _ = None

abbrev pub delegates_said : Answer → Option Bool
delegates_said (Says v) = Some (is_delegated v)
delegates_said (Refuses e) = None

-- whether a name that has no DS record is delegated, where that is proven; the apex is not
abbrev pub delegates_found : JudgeInput → Option SideJudgement → Option Bool
delegates_found h ns = if same h.asked.name h.apex then Some false else elim ns [ None ↦ None | Some m ↦ delegates_said (answer_of m.said) ]

abbrev pub no_ds_found : Option Bool → Seen
no_ds_found None = SeesVerdict NoType
no_ds_found (Some d) = SeesNoDs d

-- ---- all of it

-- The verdict is what it is, with the cut of a name that is delegated, and whether a name without DS is delegated.
abbrev pub verdict_found : JudgeInput → Option SideJudgement → Option SideJudgement → Verdict → Seen
verdict_found h ns ds v =
    if is_delegated v then SeesDelegated (cut_found ns ds)
    else if is_no_type v && (h.asked.rtype == 43) then no_ds_found (delegates_found h ns)
    else SeesVerdict v

-- what is found, if anything, or the refusal
abbrev pub found_or : Refusal → Option Seen → Result Seen Refusal
found_or e None = Err e
found_or e (Some s) = Ok s

abbrev pub first_found : Option Seen → Option Seen → Option Seen
first_found None other = other
first_found (Some s) other = Some s

-- where nothing is proven, an alias or a referral may be
abbrev pub refusal_found : Option Seen → Option SideJudgement → Refusal → Result Seen Refusal
refusal_found lead ds e = if is_not_proven e then found_or e (first_found lead (referral_found ds)) else Err e

abbrev pub answer_found : JudgeInput → Judgements → Answer → Result Seen Refusal
answer_found h js (Says v) = Ok (verdict_found h js.ns js.ds v)
answer_found h js (Refuses e) = refusal_found (lead_found h js.alias) js.ds e

-- what judgements come to
abbrev pub found_by : JudgeInput → Judgements → Result Seen Refusal
found_by h js = answer_found h js (answer_of js.own)

-- ---- counts

abbrev pub verified_in : Option SideJudgement → ℕ
verified_in None = 0
verified_in (Some m) = verifications_of m.said

abbrev pub hashed_in : Option SideJudgement → ℕ
hashed_in None = 0
hashed_in (Some m) = hashes_of m.said

-- for a judgement that is made; for signatures that it wants none
abbrev pub hashed_aside : {E : Type 0} → Result (Option SideJudgement) E → ℕ
hashed_aside (Ok made) = hashed_in made
hashed_aside (Err asks) = 0

-- those that are made before that of DS
abbrev pub judgements_up_to : Result Judgement Refused → Option SideJudgement → Option SideJudgement → Judgements
judgements_up_to own alias ns = record { own = own; alias = alias; ns = ns; ds = None }

-- over all judgements, at most four
abbrev pub verified_by : Judgements → ℕ
verified_by js = verifications_of js.own + verified_in js.alias + verified_in js.ns + verified_in js.ds

abbrev pub hashed_by : Judgements → ℕ
hashed_by js = hashes_of js.own + hashed_in js.alias + hashed_in js.ns + hashed_in js.ds
