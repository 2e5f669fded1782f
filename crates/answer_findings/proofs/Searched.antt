-- What a search comes to.
use Rattle.std.proofs.Common.{◌≡◌, ◌<◌, Bool, List, [], ◌∷◌, length, arith, Option, Some, None, Result, Ok, Err, IfOk, MatchResult, refl, ap, subst, sym, ◌∙◌, inl, inr}
use Rattle.std.specs.Global.{Vec}
use Rattle.std.specs.Option.{is_some, option_map}
use Rattle.std.specs.declared.alloc.AllocError.{AllocError}
use Rattle.definitions.specs.Limits.{pointer_limit}
use Rattle.messages.specs.Message.{Asked}
use Rattle.answer_judge.specs.Judging.{JudgeInput, answer_of}
use Rattle.answer_judge.specs.declared.verdict.Judgement.{Judgement}
use Rattle.answer_judge.specs.declared.verdict.Refused.{Refused}
use Rattle.answer_judge_table.specs.Asking.{AreAsked}
use Rattle.answer_judge_table.specs.Outcomes.{IsJudgedBy, IsOutcome}
use Rattle.answer_judge_table.specs.Table.{Checked, Tried}
use Rattle.answer_judge_table.specs.declared.outcome.Outcome.{Outcome}
use Rattle.answer_judge_table.specs.declared.outcome.Outcome.TheVariants as outcome
use Rattle.answer_findings.specs.declared.meaning.Meaning.{Meaning}
use Rattle.answer_findings.specs.declared.meaning.AnswerOutcome.{AnswerOutcome}
use Rattle.answer_findings.specs.declared.meaning.AnswerOutcome.TheVariants as f
use Rattle.answer_findings.specs.declared.side_judgements.Judgements.{Judgements}
use Rattle.answer_findings.specs.declared.side_judgements.SideJudgement.{SideJudgement}
use Rattle.answer_findings.specs.Found.{AreAskedAtOnce, AreJudgements, AsksBehind, ComesTo, IsFound, IsFoundWithin, IsSoughtBehind}
use Rattle.answer_findings.specs.Judgements.{AreAskedAside, AreWantedAside, IsMadeOf, alias_question, ds_question, first_question, ns_question}
use Rattle.answer_findings.specs.Seen.{Seen, lead_found, seen}
use Rattle.answer_findings.specs.Truth.{FindsTruly}
use Rattle.answer_findings.proofs.Truly.{found_so}
use Rattle.answer_findings.proofs.Within.{found_within}

-- what is found is so of the zone
pub found_truly : (table : List Checked) (h : JudgeInput) (found : AnswerOutcome) → IsFound table h found → FindsTruly table h found
found_truly table h (f.Means meaning validity verifications hashes) is = λ passes versions t x. found_so table h passes t versions x is.judgements is.are (seen meaning) is.says
found_truly table h (f.Refused refusal verifications hashes) is = tt
found_truly table h (f.Asks asks verifications hashes) is = tt

-- what judgements come to is what is found
pub comes_to : (table : List Checked) (h : JudgeInput) (js : Judgements) (found : AnswerOutcome) → AreJudgements table h js → ComesTo h js found → IsFound table h found
comes_to table h js (f.Means meaning validity verifications hashes) are to = record { judgements = js; are = are; says = sym to.0; lasts = to.1; verified = to.2; hashed = to.3 }
comes_to table h js (f.Refused refusal verifications hashes) are to = record { judgements = js; are = are; says = sym to.0; lasts = refl; verified = to.1; hashed = to.2 }
comes_to table h js (f.Asks asks verifications hashes) are to = absurd to

-- where memory sufficed
pub found_in : (table : List Checked) (h : JudgeInput) (js : Judgements) (r : Result AnswerOutcome AllocError) → AreJudgements table h js → IfOk r (ComesTo h js) → IfOk r (IsFound table h)
found_in table h js (Ok found) are to = comes_to table h js found are to
found_in table h js (Err e) are to = tt

pub truly_in : (table : List Checked) (h : JudgeInput) (r : Result AnswerOutcome AllocError) → IfOk r (IsFound table h) → IfOk r (FindsTruly table h)
truly_in table h (Ok found) is = found_truly table h found is
truly_in table h (Err e) is = tt

pub within_in : (table : List Checked) (h : JudgeInput) (r : Result AnswerOutcome AllocError) → IfOk r (IsFound table h) → IfOk r (IsFoundWithin h)
within_in table h (Ok found) is = found_within table h found is
within_in table h (Err e) is = tt

-- ---- judgements

-- a judgement that the table sufficed for
pub judged_in : (table : List Checked) (h : JudgeInput) (o : Outcome) (own : Result Judgement Refused) → o ≡ outcome.Judged own → IsOutcome table h o → IsJudgedBy table h own
judged_in table h o own e is = subst (IsOutcome table h) e is

pub made_in : (table : List Checked) (h : JudgeInput) (wanted : Option Asked) (o : Result (Option SideJudgement) (Vec Tried)) (made : Option SideJudgement) → o ≡ Ok made
    → MatchResult o (IsMadeOf table h wanted) (λ asks. AreAskedAside table h wanted asks.items) → IsMadeOf table h wanted made
made_in table h wanted o made e is = subst (λ r. MatchResult r (IsMadeOf table h wanted) (λ asks. AreAskedAside table h wanted asks.items)) e is

leads_alike : (lead : Option Meaning) (found : Option Seen) → option_map seen lead ≡ found → is_some lead ≡ is_some found
leads_alike None found e = ap (λ (o : Option Seen). is_some o) e
leads_alike (Some f) found e = ap (λ (o : Option Seen). is_some o) e

-- all judgements of a search
pub are_judgements : (table : List Checked) (h : JudgeInput) (js : Judgements) (lead : Option Meaning) (leads : Bool) → IsJudgedBy table h js.own
    → IsMadeOf table h (alias_question pointer_limit h (answer_of js.own)) js.alias → option_map seen lead ≡ lead_found h js.alias → leads ≡ is_some lead
    → IsMadeOf table h (ns_question pointer_limit h (answer_of js.own)) js.ns → IsMadeOf table h (ds_question pointer_limit h (answer_of js.own) leads) js.ds → AreJudgements table h js
are_judgements table h js lead leads own alias e f ns ds =
    let alike : leads ≡ is_some (lead_found h js.alias) = f ∙ leads_alike lead (lead_found h js.alias) e in
    record { own = own; alias = alias; ns = ns; ds = subst (λ (b : Bool). IsMadeOf table h (ds_question pointer_limit h (answer_of js.own) b) js.ds) alike ds }

-- ---- questions beside the case's own

-- what comes of a judgement for a question, if there is one
abbrev pub Asides : List Checked → JudgeInput → Result (Result (Option SideJudgement) (Vec Tried)) AllocError → Option Asked → Type 0
Asides table h r wanted = IfOk r (λ o. MatchResult o (IsMadeOf table h wanted) (λ asks. AreAskedAside table h wanted asks.items))

-- it is for the question that is wanted
pub sought : (table : List Checked) (h : JudgeInput) (r : Result (Result (Option SideJudgement) (Vec Tried)) AllocError) (asked wanted : Option Asked) → asked ≡ wanted
    → Asides table h r asked → Asides table h r wanted
sought table h r asked wanted e is = subst (Asides table h r) e is

-- what it wants
pub wanted_alike : (table : List Checked) (h : JudgeInput) (r : Result (Vec Tried) AllocError) (asked wanted : Option Asked) → asked ≡ wanted
    → IfOk r (λ v. AreWantedAside table h asked v.items) → IfOk r (λ v. AreWantedAside table h wanted v.items)
wanted_alike table h r asked wanted e is = subst (λ o. IfOk r (λ v. AreWantedAside table h o v.items)) e is

-- ---- signatures that are asked for

-- a judgement that the table did not suffice for
pub asks_in : (table : List Checked) (h : JudgeInput) (wanted : Option Asked) (o : Result (Option SideJudgement) (Vec Tried)) (asks : Vec Tried) → o ≡ Err asks
    → MatchResult o (IsMadeOf table h wanted) (λ asks. AreAskedAside table h wanted asks.items) → AreAskedAside table h wanted asks.items
asks_in table h wanted o asks e is = subst (λ r. MatchResult r (IsMadeOf table h wanted) (λ asks. AreAskedAside table h wanted asks.items)) e is

-- what is asked for before the case itself is judged
pub own_asked : (table : List Checked) (h : JudgeInput) (own first : List Tried) → AreAsked table h own → length first ≡ 0
    → AreWantedAside table h (first_question pointer_limit h) first → AreAskedAtOnce table h own
own_asked table h own [] are none wants = inl (record { are_asked = are; first_wants_none = wants })
own_asked table h own (t ∷ ts) are none wants = absurd (omega (arith, none))

first_aside : (table : List Checked) (h : JudgeInput) (o : Option Asked) (first : List Tried) → 0 < length first → AreWantedAside table h o first → AreAskedAside table h o first
first_aside table h None first some wants = absurd (omega (arith, some, ap length wants))
first_aside table h (Some asked) [] some wants = absurd (omega (arith, some))
first_aside table h (Some asked) (t ∷ ts) some wants = record { asked = asked; is = refl; are_asked = wants }

pub first_asked : (table : List Checked) (h : JudgeInput) (own first : List Tried) → AreAsked table h own → 0 < length first
    → AreWantedAside table h (first_question pointer_limit h) first → AreAskedAtOnce table h first
first_asked table h own first are some wants =
    inr (record { own_asks = own; own_asked = are; are = first_aside table h (first_question pointer_limit h) first some wants })

-- and behind its judgement
module _ (table : List Checked) (h : JudgeInput) (js : Judgements) (judged : IsJudgedBy table h js.own) (none : js.ds ≡ None) (wanted : Option Asked) (sought : IsSoughtBehind table h js wanted) where
  pub asked_behind : (asks : List Tried) → AreAskedAside table h wanted asks → (found : AnswerOutcome) → AsksBehind asks js found → IsFound table h found
  asked_behind asks aside (f.Means meaning validity verifications hashes) behind = absurd behind
  asked_behind asks aside (f.Refused refusal verifications hashes) behind = absurd behind
  asked_behind asks aside (f.Asks said verifications hashes) behind =
      let are : AreAskedAside table h wanted said.items = subst (AreAskedAside table h wanted) (sym behind.0) aside in
      inr (record { before = js; judged = judged; none_of_ds = none; wanted = wanted; sought = sought; are = are; verified = behind.1; hashed = behind.2 })

-- DS is sought where an alias, if any, leads nowhere
pub sought_at_ds : (table : List Checked) (h : JudgeInput) (js : Judgements) → IsMadeOf table h (alias_question pointer_limit h (answer_of js.own)) js.alias
    → IsMadeOf table h (ns_question pointer_limit h (answer_of js.own)) js.ns → (lead : Option Meaning) (leads : Bool) → option_map seen lead ≡ lead_found h js.alias → leads ≡ is_some lead
    → IsSoughtBehind table h js (ds_question pointer_limit h (answer_of js.own) leads)
sought_at_ds table h js alias ns lead leads e f =
    let alike : leads ≡ is_some (lead_found h js.alias) = f ∙ leads_alike lead (lead_found h js.alias) e in
    inr (alias, inr (ns, ap (λ (b : Bool). ds_question pointer_limit h (answer_of js.own) b) alike))

-- with the bounds of a call
pub told : (table : List Checked) (h : JudgeInput) (found : AnswerOutcome) → IsFound table h found → IsFound table h found × FindsTruly table h found × IsFoundWithin h found
told table h found is = (is, found_truly table h found is, found_within table h found is)
