-- A delegation that is found has no more labels than the question's name.
use Rattle.std.proofs.Common.{◌≡◌, ◌≤◌, Bool, true, false, ◌&&◌, length, List, Option, Some, None, Ok, Err, subst, sym}
use Rattle.std.specs.Prelude.{◌==◌, if◌then◌else◌}
use Rattle.definitions.specs.Limits.{pointer_limit}
use Rattle.definitions.specs.Name.{Name, strictly_above}
use Rattle.definitions.specs.Zone.{Verdict, Records, NoType, NoName, StarRecords, StarNoType, Delegated, Open, Unsigned}
use Rattle.definitions.proofs.ZoneNames.{above_longer}
use Rattle.denial_laws.specs.Leading.{exchanged}
use Rattle.messages.specs.Message.{Asked}
use Rattle.answer_judge.specs.Judging.{Answer, Says, Refuses, JudgeInput, answer_of}
use Rattle.answer_judge.specs.declared.verdict.Refusal.{Refusal}
use Rattle.answer_judge_table.specs.Table.{Checked}
use Rattle.answer_findings.specs.declared.meaning.AnswerOutcome.{AnswerOutcome}
use Rattle.answer_findings.specs.declared.meaning.AnswerOutcome.TheVariants as f
use Rattle.answer_findings.specs.declared.side_judgements.Judgements.{Judgements}
use Rattle.answer_findings.specs.declared.side_judgements.SideJudgement.{SideJudgement}
use Rattle.answer_findings.specs.Found.{AreJudgements, IsFound}
use Rattle.answer_findings.specs.Judgements.{IsMadeOf, is_not_proven, ns_question, question_of, says_delegated}
use Rattle.answer_findings.specs.Seen.{Seen, SeesVerdict, SeesDelegated, SeesAlias, SeesStarAlias, SeesOpen, SeesDname, answer_found, answers_ds, cut_found, delegates_found, first_found, found_by, found_or, lead_found, lead_said, named_lead, no_ds_found, one_name, open_lead, own_lead, referral_found, referral_said, refusal_found, seen, star_lead, verdict_found}
use Rattle.answer_findings.proofs.Within.{ns_beside}

-- its name is no longer, where it is a delegation
abbrev pub IsCutShort : JudgeInput → Seen → Type 0
IsCutShort h (SeesDelegated (Some c)) = length c ≤ length h.asked.name
IsCutShort h _ = Unit {0}

abbrev pub IsCutShortIn : JudgeInput → Option Seen → Type 0
IsCutShortIn h None = Unit {0}
IsCutShortIn h (Some s) = IsCutShort h s

abbrev pub IsOutcomeShort : JudgeInput → AnswerOutcome → Type 0
IsOutcomeShort h (f.Means meaning validity verifications hashes) = IsCutShort h (seen meaning)
IsOutcomeShort h _ = Unit {0}

module _ (h : JudgeInput) where
  -- ---- none is found where a name leads, or by DS records at a cut

  own_short : (asked : Asked) (o : Option Name) → IsCutShortIn h (named_lead (own_lead h asked) o)
  own_short asked None = tt
  own_short asked (Some target) = go (asked.rtype == 5) (strictly_above asked.name h.asked.name)
    where
      go : (b c : Bool) → IsCutShortIn h (if b then Some (SeesAlias target) else if c then Some (SeesDname asked.name (exchanged h.asked.name asked.name target)) else None)
      go true c = tt
      go false true = tt
      go false false = tt

  star_short : (asked : Asked) (o : Option Name) → IsCutShortIn h (named_lead (star_lead asked) o)
  star_short asked None = tt
  star_short asked (Some target) = go (asked.rtype == 5)
    where
      go : (b : Bool) → IsCutShortIn h (if b then Some (SeesStarAlias target) else None)
      go true = tt
      go false = tt

  open_short : (asked : Asked) → IsCutShortIn h (open_lead asked)
  open_short asked = go (asked.rtype == 5)
    where
      go : (b : Bool) → IsCutShortIn h (if b then Some SeesOpen else None)
      go true = tt
      go false = tt

  said_short : (asked : Asked) (a : Answer) → IsCutShortIn h (lead_said h asked a)
  said_short asked (Says (Records ds)) = own_short asked (one_name ds)
  said_short asked (Says (StarRecords ds)) = star_short asked (one_name ds)
  said_short asked (Says Open) = open_short asked
  said_short asked (Says NoType) = tt
  said_short asked (Says NoName) = tt
  said_short asked (Says StarNoType) = tt
  said_short asked (Says Delegated) = tt
  said_short asked (Says Unsigned) = tt
  said_short asked (Refuses r) = tt

  lead_short : (alias : Option SideJudgement) → IsCutShortIn h (lead_found h alias)
  lead_short None = tt
  lead_short (Some m) = said_short (question_of m) (answer_of m.said)

  referral_said_short : (c : Name) (a : Answer) → IsCutShortIn h (referral_said c a)
  referral_said_short c (Says (Records ds)) = tt
  referral_said_short c (Says (StarRecords ds)) = tt
  referral_said_short c (Says Open) = tt
  referral_said_short c (Says NoType) = tt
  referral_said_short c (Says NoName) = tt
  referral_said_short c (Says StarNoType) = tt
  referral_said_short c (Says Delegated) = tt
  referral_said_short c (Says Unsigned) = tt
  referral_said_short c (Refuses r) = tt

  referral_short : (ds : Option SideJudgement) → IsCutShortIn h (referral_found ds)
  referral_short None = tt
  referral_short (Some m) = referral_said_short m.question.name (answer_of m.said)

  refused_short : (r : Refusal) (lead ds : Option Seen) → IsCutShortIn h lead → IsCutShortIn h ds → (s : Seen) → found_or r (first_found lead ds) ≡ Ok s → IsCutShort h s
  refused_short r (Some t) ds p q s e = let is : t ≡ s = cc in subst (IsCutShort h) is p
  refused_short r None (Some t) p q s e = let is : t ≡ s = cc in subst (IsCutShort h) is q
  refused_short r None None p q s e = absurd cc

  refusal_short : (r : Refusal) (alias ds : Option SideJudgement) (s : Seen) → refusal_found (lead_found h alias) ds r ≡ Ok s → IsCutShort h s
  refusal_short r alias ds s e = go (is_not_proven r) e
    where
      go : (b : Bool) → (if b then found_or r (first_found (lead_found h alias) (referral_found ds)) else Err r) ≡ Ok s → IsCutShort h s
      go true e = refused_short r (lead_found h alias) (referral_found ds) (lead_short alias) (referral_short ds) s e
      go false e = absurd cc

  -- ---- where the name is delegated

  module _ (table : List Checked) (own : Answer) where
    delegated_short : (ns ds : Option SideJudgement) → IsMadeOf table h (ns_question pointer_limit h own) ns → IsCutShort h (SeesDelegated (cut_found ns ds))
    delegated_short None ds is = tt
    delegated_short (Some m) None is = tt
    delegated_short (Some m) (Some n) is = go (says_delegated (answer_of m.said) && answers_ds (answer_of n.said))
      where
        go : (b : Bool) → IsCutShort h (SeesDelegated (if b then Some m.question.name else None))
        go true = above_longer m.question.name h.asked.name (ns_beside h (question_of m) own (sym is.asked)).above
        go false = tt

    no_ds_short : (o : Option Bool) → IsCutShort h (no_ds_found o)
    no_ds_short None = tt
    no_ds_short (Some d) = tt

    verdict_short : (ns ds : Option SideJudgement) → IsMadeOf table h (ns_question pointer_limit h own) ns → (v : Verdict) → IsCutShort h (verdict_found h ns ds v)
    verdict_short ns ds is (Records d) = tt
    verdict_short ns ds is NoName = tt
    verdict_short ns ds is (StarRecords d) = tt
    verdict_short ns ds is StarNoType = tt
    verdict_short ns ds is Open = tt
    verdict_short ns ds is Unsigned = tt
    verdict_short ns ds is Delegated = delegated_short ns ds is
    verdict_short ns ds is NoType = go (h.asked.rtype == 43)
      where
        go : (b : Bool) → IsCutShort h (if b then no_ds_found (delegates_found h ns) else SeesVerdict NoType)
        go true = no_ds_short (delegates_found h ns)
        go false = tt

  -- ---- whatever is found

  judged_short : (table : List Checked) (js : Judgements) → AreJudgements table h js → (s : Seen) → Ok s ≡ found_by h js → IsCutShort h s
  judged_short table js are s e = go (answer_of js.own) (sym e)
    where
      go : (a : Answer) → answer_found h js a ≡ Ok s → IsCutShort h s
      go (Says v) e = let is : verdict_found h js.ns js.ds v ≡ s = cc in subst (IsCutShort h) is (verdict_short table (answer_of js.own) js.ns js.ds are.ns v)
      go (Refuses r) e = refusal_short r js.alias js.ds s e

  pub cut_short : (table : List Checked) (found : AnswerOutcome) → IsFound table h found → IsOutcomeShort h found
  cut_short table (f.Means meaning validity verifications hashes) is = judged_short table is.judgements is.are (seen meaning) is.says
  cut_short table (f.Refused refusal verifications hashes) is = tt
  cut_short table (f.Asks asks verifications hashes) is = tt
