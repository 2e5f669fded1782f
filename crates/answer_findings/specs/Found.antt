-- What a search comes to.
use Rattle.std.specs.Prelude.{◌≡◌, ◌⊎◌, ℕ, ◌*◌, ◌≤◌, true, List, [], Option, None, Some, Result, Ok, Err}
use Rattle.std.specs.Option.{is_some}
use Rattle.definitions.specs.Limits.{pointer_limit}
use Rattle.definitions.specs.Name.{at_or_above}
use Rattle.messages.specs.Message.{Asked}
use Rattle.answer_judge.specs.Judging.{JudgeInput, answer_of, hash_bound, verification_bound}
use Rattle.answer_judge_facts.specs.declared.validity.Validity.{Validity}
use Rattle.answer_judge.specs.declared.verdict.Refusal.{Refusal}
use Rattle.answer_judge_table.specs.Asking.{AreAsked}
use Rattle.answer_judge_table.specs.Outcomes.{IsJudgedBy}
use Rattle.answer_judge_table.specs.Table.{Checked, Tried}
use Rattle.answer_findings.specs.declared.meaning.AnswerOutcome.{AnswerOutcome}
use Rattle.answer_findings.specs.declared.meaning.AnswerOutcome.TheVariants as f
use Rattle.answer_findings.specs.declared.side_judgements.Judgements.{Judgements}
use Rattle.answer_findings.specs.Judgements.{aside, AreAskedAside, AreWantedAside, IsMadeOf, alias_question, ds_question, first_question, ns_question}
use Rattle.answer_findings.specs.Lasts.{validity_by, validity_found, validities_of}
use Rattle.answer_findings.specs.Seen.{Seen, found_by, hashed_by, lead_found, seen, verified_by}

-- judgements of a case's messages: of the case itself, and of the questions that are sought
pub record AreJudgements (table : List Checked) (h : JudgeInput) (js : Judgements) : Type 0 where
  pub own : IsJudgedBy table h js.own
  pub alias : IsMadeOf table h (alias_question pointer_limit h (answer_of js.own)) js.alias
  pub ns : IsMadeOf table h (ns_question pointer_limit h (answer_of js.own)) js.ns
  pub ds : IsMadeOf table h (ds_question pointer_limit h (answer_of js.own) (is_some (lead_found h js.alias))) js.ds

-- what they come to, how long that lasts, and how often was verified and hashed for all of them
pub record IsFoundBy (table : List Checked) (h : JudgeInput) (said : Result Seen Refusal) (validity : Option Validity) (verifications hashes : ℕ) : Type 0 where
  pub judgements : Judgements
  pub are : AreJudgements table h judgements
  pub says : said ≡ found_by h judgements
  pub lasts : validity ≡ validity_found judgements said
  pub verified : verifications ≡ verified_by judgements
  pub hashed : hashes ≡ hashed_by judgements

-- what some judgements come to, how long that lasts, and their counts
abbrev pub ComesTo : JudgeInput → Judgements → AnswerOutcome → Type 0
ComesTo h js (f.Means meaning validity verifications hashes) = (found_by h js ≡ Ok (seen meaning)) × (validity ≡ validity_by (validities_of js) (seen meaning)) × (verifications ≡ verified_by js) × (hashes ≡ hashed_by js)
ComesTo h js (f.Refused refusal verifications hashes) = (found_by h js ≡ Err refusal) × (verifications ≡ verified_by js) × (hashes ≡ hashed_by js)
ComesTo h js (f.Asks asks verifications hashes) = ⊥

-- signatures that are asked for behind some judgements, with the counts of these
abbrev pub AsksBehind : List Tried → Judgements → AnswerOutcome → Type 0
AsksBehind asks js (f.Asks said verifications hashes) = (said.items ≡ asks) × (verifications ≡ verified_by js) × (hashes ≡ hashed_by js)
AsksBehind asks js _ = ⊥

-- a question of the case's class at its name or above it, up to the apex, for NS, CNAME, DNAME or DS
pub record IsBeside (h : JudgeInput) (asked : Asked) : Type 0 where
  pub above : at_or_above asked.name h.asked.name ≡ true
  pub inside : at_or_above h.apex asked.name ≡ true
  pub class : asked.class ≡ h.asked.class
  pub rtype : (asked.rtype ≡ 2) ⊎ ((asked.rtype ≡ 5) ⊎ ((asked.rtype ≡ 39) ⊎ (asked.rtype ≡ 43)))

-- ---- signatures that are asked for

-- of the case itself, where the table has all that is due of the question that may prove more, if there is one
pub record AreAskedOwn (table : List Checked) (h : JudgeInput) (asks : List Tried) : Type 0 where
  pub are_asked : AreAsked table h asks
  pub first_wants_none : AreWantedAside table h (first_question pointer_limit h) []

-- of the question that may prove more, where the case itself wants signatures too
pub record AreAskedFirst (table : List Checked) (h : JudgeInput) (asks : List Tried) : Type 0 where
  pub own_asks : List Tried
  pub own_asked : AreAsked table h own_asks
  pub are : AreAskedAside table h (first_question pointer_limit h) asks

-- where the case itself is not judged
abbrev pub AreAskedAtOnce : List Checked → JudgeInput → List Tried → Type 0
AreAskedAtOnce table h asks = AreAskedOwn table h asks ⊎ AreAskedFirst table h asks

-- NS, or where that is judged DS
abbrev pub IsSoughtAtCut : List Checked → JudgeInput → Judgements → Option Asked → Type 0
IsSoughtAtCut table h js wanted =
    ((wanted ≡ ns_question pointer_limit h (answer_of js.own)) × (js.ns ≡ None))
    ⊎ (IsMadeOf table h (ns_question pointer_limit h (answer_of js.own)) js.ns × (wanted ≡ ds_question pointer_limit h (answer_of js.own) (is_some (lead_found h js.alias))))

-- the question that proves an alias, or where that is judged NS or DS
abbrev pub IsSoughtBehind : List Checked → JudgeInput → Judgements → Option Asked → Type 0
IsSoughtBehind table h js wanted =
    ((wanted ≡ alias_question pointer_limit h (answer_of js.own)) × (js.alias ≡ None) × (js.ns ≡ None))
    ⊎ (IsMadeOf table h (alias_question pointer_limit h (answer_of js.own)) js.alias × IsSoughtAtCut table h js wanted)

-- of a question that is sought where the case itself is judged, behind these judgements, with their counts
pub record AreAskedLater (table : List Checked) (h : JudgeInput) (asks : List Tried) (verifications hashes : ℕ) : Type 0 where
  pub before : Judgements
  pub judged : IsJudgedBy table h before.own
  pub none_of_ds : before.ds ≡ None
  pub wanted : Option Asked
  pub sought : IsSoughtBehind table h before wanted
  pub are : AreAskedAside table h wanted asks
  pub verified : verifications ≡ verified_by before
  pub hashed : hashes ≡ hashed_by before

-- Signatures that are asked for: those that the first judgement wants for which the table does not suffice; where that is the
-- case's own, those of the question that may prove more, if that wants some. So often was verified and hashed before.
abbrev pub AreAskedFor : List Checked → JudgeInput → List Tried → ℕ → ℕ → Type 0
AreAskedFor table h asks verifications hashes =
    (AreAskedAtOnce table h asks × (verifications ≡ 0) × (hashes ≡ 0))
    ⊎ AreAskedLater table h asks verifications hashes

-- what comes of a search
abbrev pub IsFound : List Checked → JudgeInput → AnswerOutcome → Type 0
IsFound table h (f.Means meaning validity verifications hashes) = IsFoundBy table h (Ok (seen meaning)) validity verifications hashes
IsFound table h (f.Refused refusal verifications hashes) = IsFoundBy table h (Err refusal) None verifications hashes
IsFound table h (f.Asks asks verifications hashes) = AreAskedFor table h asks.items verifications hashes

-- how many names are hashed for it
abbrev pub hashes_found : AnswerOutcome → ℕ
hashes_found (f.Means meaning validity verifications hashes) = hashes
hashes_found (f.Refused refusal verifications hashes) = hashes
hashes_found (f.Asks asks verifications hashes) = hashes

-- ---- bounds of a call

-- no more names are hashed for the judgement of a question, if one is wanted
abbrev pub hash_bound_aside : JudgeInput → Option Asked → ℕ
hash_bound_aside h None = 0
hash_bound_aside h (Some asked) = hash_bound (aside h asked)

-- At most four judgements are made, each in the bounds of one: no more signatures than both messages have, no more names than the
-- question's has labels, the root's counted, and one.
pub record IsWithinBounds (h : JudgeInput) (verifications hashes : ℕ) : Type 0 where
  pub verifications_bound : verifications ≤ 4 * verification_bound pointer_limit h
  pub hashes_bound : hashes ≤ 4 * hash_bound h

abbrev pub IsFoundWithin : JudgeInput → AnswerOutcome → Type 0
IsFoundWithin h (f.Means meaning validity verifications hashes) = IsWithinBounds h verifications hashes
IsFoundWithin h (f.Refused refusal verifications hashes) = IsWithinBounds h verifications hashes
IsFoundWithin h (f.Asks asks verifications hashes) = IsWithinBounds h verifications hashes
