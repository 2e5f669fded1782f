-- Judgements of the same messages for other questions, and which are made.
use Rattle.std.specs.Prelude.{◌≡◌, ℕ, Bool, true, false, not, ◌&&◌, ◌||◌, ◌==◌, List, [], Option, Some, None, IfSome, if◌then◌else◌}
use Rattle.std.specs.Option.{option_map}
use Rattle.definitions.specs.Name.{Name, at_or_above, strictly_above}
use Rattle.definitions.specs.Zone.{Verdict, NoType, Delegated}
use Rattle.messages.specs.Message.{Asked}
use Rattle.messages.specs.Questions.{asked_of}
use Rattle.answer_judge.specs.Judging.{Answer, Says, Refuses, JudgeInput, answer_of}
use Rattle.answer_judge.specs.declared.verdict.Refusal.{Refusal}
use Rattle.answer_judge.specs.declared.verdict.Refusal.TheVariants as r
use Rattle.answer_judge_table.specs.Decided.{is_out_of_memory}
use Rattle.answer_judge_table.specs.Asking.{AreAsked, AreWanted}
use Rattle.answer_judge_table.specs.Outcomes.{IsJudgedBy}
use Rattle.answer_judge_table.specs.Table.{Checked, Tried}
use Rattle.answer_findings.specs.declared.hints.Hint.TheVariants as hint
use Rattle.answer_findings.specs.declared.side_judgements.SideJudgement.{SideJudgement}
use Rattle.answer_findings.specs.Hints.{has_cname_hint, owner_hint}

-- the same messages, judged for another question
abbrev pub aside : JudgeInput → Asked → JudgeInput
aside h asked = record h { asked = asked; other_question = true }

-- a question for a type at a name, of the class that was asked for
abbrev pub asking : JudgeInput → Name → ℕ → Asked
asking h name t = record { name = name; rtype = t; class = h.asked.class }

abbrev pub question_of : SideJudgement → Asked
question_of m = asked_of m.question

abbrev pub asked_in : Option SideJudgement → Option Asked
asked_in made = option_map question_of made

-- a judgement of the messages for its question
abbrev pub IsMade : List Checked → JudgeInput → SideJudgement → Type 0
IsMade table h m = IsJudgedBy table (aside h (question_of m)) m.said

-- it did not end for want of memory
abbrev pub IsMadeInMemory : SideJudgement → Type 0
IsMadeInMemory m = is_out_of_memory (answer_of m.said) ≡ false

-- The judgement of a question, if one is wanted. One that memory ran out for says nothing of what the answer proves: it is none.
pub record IsMadeOf (table : List Checked) (h : JudgeInput) (wanted : Option Asked) (made : Option SideJudgement) : Type 0 where
  pub asked : asked_in made ≡ wanted
  pub judged : IfSome made (IsMade table h)
  pub in_memory : IfSome made IsMadeInMemory

-- signatures that are asked for, for it
pub record AreAskedAside (table : List Checked) (h : JudgeInput) (wanted : Option Asked) (asks : List Tried) : Type 0 where
  pub asked : Asked
  pub is : wanted ≡ Some asked
  pub are_asked : AreAsked table (aside h asked) asks

-- signatures that it wants beside a table, if it is to be made
abbrev pub AreWantedAside : List Checked → JudgeInput → Option Asked → List Tried → Type 0
AreWantedAside table h None asks = asks ≡ []
AreWantedAside table h (Some asked) asks = AreWanted table (aside h asked) asks

-- ---- what a judgement says

abbrev pub is_delegated : Verdict → Bool
is_delegated Delegated = true
is_delegated _ = false

abbrev pub is_no_type : Verdict → Bool
is_no_type NoType = true
is_no_type _ = false

abbrev pub says_delegated : Answer → Bool
says_delegated (Says v) = is_delegated v
says_delegated (Refuses e) = false

abbrev pub says_no_type : Answer → Bool
says_no_type (Says v) = is_no_type v
says_no_type (Refuses e) = false

abbrev pub is_not_proven : Refusal → Bool
is_not_proven r.NotProven = true
is_not_proven _ = false

abbrev pub is_unproven : Answer → Bool
is_unproven (Says v) = false
is_unproven (Refuses e) = is_not_proven e

-- ---- which are made

-- An alias is suggested where the answer has a DNAME above the name, or a CNAME at it. A server sends a made CNAME beside a DNAME,
-- which nothing signs.
abbrev pub alias_hint : ℕ → JudgeInput → Option Asked
alias_hint k h = elim (owner_hint k h hint.Dname) [
  | Some owner ↦ Some (asking h owner 39)
  | None ↦ if at_or_above h.apex h.asked.name && not (h.asked.rtype == 5) && has_cname_hint k h then Some (asking h h.asked.name 5) else None
]

-- it is sought where the case itself proves nothing
abbrev pub alias_question : ℕ → JudgeInput → Answer → Option Asked
alias_question k h own = if is_unproven own then alias_hint k h else None

-- a question at the cut that the answer's NS records suggest
abbrev pub cut_question : ℕ → JudgeInput → ℕ → Option Asked
cut_question k h t = option_map (λ c. asking h c t) (owner_hint k h hint.Cut)

-- What may prove more than the case itself: the alias that is suggested, or else DS at the cut. While signatures are missing it says
-- which, so that nothing is asked for in vain.
abbrev pub first_question : ℕ → JudgeInput → Option Asked
first_question k h = elim (alias_hint k h) [ Some asked ↦ Some asked | None ↦ cut_question k h 43 ]

-- whether a name below the apex that has no DS record is delegated is sought
abbrev pub seeks_delegation : JudgeInput → Answer → Bool
seeks_delegation h own = says_no_type own && (h.asked.rtype == 43) && strictly_above h.apex h.asked.name

-- NS is sought at the cut of a name that is delegated, and at a name that has no DS record
abbrev pub ns_question : ℕ → JudgeInput → Answer → Option Asked
ns_question k h own =
    if says_delegated own then cut_question k h 2
    else if seeks_delegation h own then Some (asking h h.asked.name 2)
    else None

-- DS is sought at the cut of a name that is delegated, and where nothing is proven, of no alias either
abbrev pub ds_question : ℕ → JudgeInput → Answer → Bool → Option Asked
ds_question k h own leads = if says_delegated own || (is_unproven own && not leads) then cut_question k h 43 else None
