-- How long what is found lasts.
use Rattle.std.specs.Prelude.{min, Option, Some, None, Result, Ok, Err}
use Rattle.answer_judge.specs.declared.verdict.Judgement.{Judgement}
use Rattle.answer_judge_facts.specs.declared.validity.Validity.{Validity}
use Rattle.answer_judge.specs.declared.verdict.Refusal.{Refusal}
use Rattle.answer_judge.specs.declared.verdict.Refused.{Refused}
use Rattle.answer_findings.specs.declared.validity.Validities.{Validities}
use Rattle.answer_findings.specs.declared.side_judgements.Judgements.{Judgements}
use Rattle.answer_findings.specs.declared.side_judgements.SideJudgement.{SideJudgement}
use Rattle.answer_findings.specs.Seen.{Seen, SeesVerdict, SeesDelegated, SeesNoDs, SeesAlias, SeesStarAlias, SeesOpen, SeesDname, SeesReferral}

-- ---- how long judgements last

abbrev pub validity_of : Result Judgement Refused → Option Validity
validity_of (Ok j) = j.validity
validity_of (Err e) = None

abbrev pub validity_in : Option SideJudgement → Option Validity
validity_in None = None
validity_in (Some m) = validity_of m.said

-- those of a search
abbrev pub validities_of : Judgements → Validities
validities_of js = record { own = validity_of js.own; alias = validity_in js.alias; ns = validity_in js.ns; ds = validity_in js.ds }

-- ---- how long what they come to lasts

-- as long as both last
abbrev pub least : Validity → Validity → Validity
least a b = record { ttl = min a.ttl b.ttl; seconds = min a.seconds b.seconds }

-- of two judgements, where they are made and say it
abbrev pub least_of : Option Validity → Option Validity → Option Validity
least_of (Some a) (Some b) = Some (least a b)
least_of (Some a) None = Some a
least_of None other = other

-- A verdict lasts as its judgement does; an alias, a name left open or a DNAME as the judgement that proves it, a referral as that of its DS records. A
-- cut lasts as long as the verdict and the judgements of NS and DS there, and whether a name without DS is delegated as long as the
-- verdict and the judgement of NS.
abbrev pub validity_by : Validities → Seen → Option Validity
validity_by ls (SeesVerdict v) = ls.own
validity_by ls (SeesDelegated None) = ls.own
validity_by ls (SeesDelegated (Some c)) = least_of (least_of ls.own ls.ns) ls.ds
validity_by ls (SeesNoDs d) = least_of ls.own ls.ns
validity_by ls (SeesAlias n) = ls.alias
validity_by ls (SeesStarAlias n) = ls.alias
validity_by ls SeesOpen = ls.alias
validity_by ls (SeesDname owner leads) = ls.alias
validity_by ls (SeesReferral c ds) = ls.ds

-- where nothing is found nothing lasts
abbrev pub validity_found : Judgements → Result Seen Refusal → Option Validity
validity_found js (Ok s) = validity_by (validities_of js) s
validity_found js (Err e) = None
