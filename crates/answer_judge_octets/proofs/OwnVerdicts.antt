-- What is found where the case itself has a verdict: a judge says that verdict where those signatures pass that pass in the table.
use Rattle.std.proofs.Common.{◌≡◌, ℕ, Bool, true, false, not, ◌==◌, List, refl, sym, ap, subst, ◌∙◌, inl, inr}
use Rattle.std.specs.Prelude.{Option, Some, None, Result, Ok, Err, unwrap_or, if◌then◌else◌}
use Rattle.std.proofs.lemmas.Bool.{false≢true}
use Rattle.definitions.specs.Limits.{pointer_limit}
use Rattle.definitions.specs.Name.{Name, strictly_above}
use Rattle.definitions.specs.Zone.{Verdict, Records, StarRecords, NoType, NoName, StarNoType, Delegated, Open, Unsigned}
use Rattle.denial_laws.specs.Leading.{exchanged}
use Rattle.messages.specs.Message.{Asked}
use Rattle.answer_judge.specs.Judging.{Answer, Says, Refuses, JudgeInput, answer_of}
use Rattle.answer_judge_facts.specs.declared.validity.Validity.{Validity}
use Rattle.answer_judge.specs.declared.verdict.Refusal.{Refusal}
use Rattle.answer_judge.specs.declared.verdict.Refusal.TheVariants as r
use Rattle.answer_judge.specs.Judged.{AnswersAs, judged}
use Rattle.answer_findings.specs.Found.{IsFound, IsFoundBy}
use Rattle.answer_findings.specs.Judgements.{is_not_proven, question_of}
use Rattle.answer_findings.specs.Seen.{Seen, SeesAlias, SeesDname, SeesOpen, SeesStarAlias, answer_found, first_found, found_by, found_or, lead_found, lead_said, named_lead, one_name, open_lead, own_lead, referral_found, referral_said, refusal_found, seen, star_lead}
use Rattle.answer_findings.specs.Table.{AgreesWith, Checked, answers_with, passes_in}
use Rattle.answer_findings.specs.declared.meaning.Meaning.{Meaning}
use Rattle.answer_findings.specs.declared.meaning.AnswerOutcome.{AnswerOutcome}
use Rattle.answer_findings.specs.declared.meaning.AnswerOutcome.TheVariants as f
use Rattle.answer_judge_octets.specs.Places.{SaysBy, SaysOwn, is_own}

-- ---- beside a refusal nothing is found of the case itself

abbrev are_others : Option Seen → Bool
are_others None = true
are_others (Some s) = not (is_own s)

one_of_two : (first second : Option Seen) → are_others first ≡ true → are_others second ≡ true → are_others (first_found first second) ≡ true
one_of_two None second p q = q
one_of_two (Some s) second p q = p

module _ (h : JudgeInput) where
  named : (lead : Name → Option Seen) → ((n : Name) → are_others (lead n) ≡ true) → (o : Option Name) → are_others (named_lead lead o) ≡ true
  named lead each None = refl
  named lead each (Some n) = each n

  own_others : (asked : Asked) (n : Name) → are_others (own_lead h asked n) ≡ true
  own_others asked n = go (asked.rtype == 5) (strictly_above asked.name h.asked.name)
    where
      go : (is above : Bool) → are_others (if is then Some (SeesAlias n) else if above then Some (SeesDname asked.name (exchanged h.asked.name asked.name n)) else None) ≡ true
      go true above = refl
      go false true = refl
      go false false = refl

  star_others : (asked : Asked) (n : Name) → are_others (star_lead asked n) ≡ true
  star_others asked n = go (asked.rtype == 5)
    where
      go : (is : Bool) → are_others (if is then Some (SeesStarAlias n) else None) ≡ true
      go true = refl
      go false = refl

  open_others : (asked : Asked) → are_others (open_lead asked) ≡ true
  open_others asked = go (asked.rtype == 5)
    where
      go : (is : Bool) → are_others (if is then Some SeesOpen else None) ≡ true
      go true = refl
      go false = refl

  lead_others : (asked : Asked) (a : Answer) → are_others (lead_said h asked a) ≡ true
  lead_others asked (Says (Records ds)) = named (own_lead h asked) (own_others asked) (one_name ds)
  lead_others asked (Says (StarRecords ds)) = named (star_lead asked) (star_others asked) (one_name ds)
  lead_others asked (Says Open) = open_others asked
  lead_others asked (Says NoType) = refl
  lead_others asked (Says NoName) = refl
  lead_others asked (Says StarNoType) = refl
  lead_others asked (Says Delegated) = refl
  lead_others asked (Says Unsigned) = refl
  lead_others asked (Refuses e) = refl

  referral_others : (c : Name) (a : Answer) → are_others (referral_said c a) ≡ true
  referral_others c (Says (Records ds)) = refl
  referral_others c (Says (StarRecords ds)) = refl
  referral_others c (Says Open) = refl
  referral_others c (Says NoType) = refl
  referral_others c (Says NoName) = refl
  referral_others c (Says StarNoType) = refl
  referral_others c (Says Delegated) = refl
  referral_others c (Says Unsigned) = refl
  referral_others c (Refuses e) = refl

  found_others : (e : Refusal) (o : Option Seen) (s : Seen) → are_others o ≡ true → Ok s ≡ found_or e o → is_own s ≡ true → ⊥
  found_others e None s others is own = let no : Ok s ≡ Err e = is in cc
  found_others e (Some t) s others is own =
      let same : s ≡ t = cc in
      false≢true (sym (ap not (sym (ap is_own same) ∙ own)) ∙ others)

  refused_others : (lead referral : Option Seen) (e : Refusal) (s : Seen) → are_others lead ≡ true → are_others referral ≡ true
      → Ok s ≡ (if is_not_proven e then found_or e (first_found lead referral) else Err e) → is_own s ≡ true → ⊥
  refused_others lead referral e s first second is own = go (is_not_proven e) is
    where
      go : (b : Bool) → Ok s ≡ (if b then found_or e (first_found lead referral) else Err e) → ⊥
      go true is = found_others e (first_found lead referral) s (one_of_two lead referral first second) is own
      go false is = let no : Ok s ≡ Err e = is in cc

-- ---- beside a verdict

module _ (table : List Checked) (h : JudgeInput) where
  agrees : AgreesWith table (passes_in table)
  agrees t b e = ap (λ o. unwrap_or o false) e

  module _ (s : Seen) (validity : Option Validity) (verifications hashes : ℕ) (by : IsFoundBy table h (Ok s) validity verifications hashes) where
    leads_are : are_others (lead_found h by.judgements.alias) ≡ true
    leads_are = elim (by.judgements.alias) as (λ o. are_others (lead_found h o) ≡ true) [
      | None ↦ refl
      | Some m ↦ lead_others h (question_of m) (answer_of m.said)
    ]

    referrals_are : are_others (referral_found by.judgements.ds) ≡ true
    referrals_are = elim (by.judgements.ds) as (λ o. are_others (referral_found o) ≡ true) [
      | None ↦ refl
      | Some m ↦ referral_others h m.question.name (answer_of m.said)
    ]

    judged_so : (v : Verdict) → answer_of by.judgements.own ≡ Says v → judged (answers_with (passes_in table)) pointer_limit h ≡ Says v
    judged_so v e = go ((by.are.own.by_table (passes_in table) agrees).exact)
      where
        go : AnswersAs (answer_of by.judgements.own) (judged (answers_with (passes_in table)) pointer_limit h) → judged (answers_with (passes_in table)) pointer_limit h ≡ Says v
        go (inl memory) = absurd (let no : Says v ≡ Refuses r.Memory = sym e ∙ memory in cc)
        go (inr exact) = sym exact ∙ e

    own_says : SaysOwn table h s
    own_says own = go (answer_of by.judgements.own) refl by.says
      where
        go : (a : Answer) → answer_of by.judgements.own ≡ a → Ok s ≡ answer_found h by.judgements a → SaysBy table h
        go (Says v) p is = record { verdict = v; says = judged_so v p }
        go (Refuses e) p is = absurd (refused_others h (lead_found h by.judgements.alias) (referral_found by.judgements.ds) e s leads_are referrals_are is own)

  -- of what a search found
  pub found_says : (meaning : Meaning) (found : AnswerOutcome) (validity : Option Validity) (verifications hashes : ℕ) → found ≡ f.Means meaning validity verifications hashes → IsFound table h found → SaysOwn table h (seen meaning)
  found_says meaning found validity verifications hashes e is = own_says (seen meaning) validity verifications hashes (subst (IsFound table h) e is)
