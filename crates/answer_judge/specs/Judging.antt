-- What a judge is handed, what it answers, and what it promises.
use Rattle.std.specs.Prelude.{◌≡◌, MatchBool, ℕ, ◌+◌, ◌≤◌, Bool, true, false, not, ◌&&◌, ◌||◌, ◌==◌, List, [], filter, length, Option, Some, None, Result, Ok, Err, IsTrue, nat_eq, if◌then◌else◌}
use Rattle.definitions.specs.Name.{Name, same}
use Rattle.definitions.specs.Dnskey.{Ds}
use Rattle.definitions.specs.Zone.{Verdict, Unsigned}
use Rattle.messages.specs.Message.{Asked, message}
use Rattle.answer_terms.specs.Asking.{asks_alias, is_allowed}
use Rattle.answer_terms.specs.EqualTags.{has_equal_tags}
use Rattle.answer_judge_rules.specs.Rules.{verdict_of}
use Rattle.answer_scheme.specs.Moments.{second_of}
use Rattle.answer_judge.specs.declared.verdict.Refusal.{Refusal}
use Rattle.answer_judge.specs.declared.verdict.Refusal.TheVariants as r
use Rattle.answer_judge.specs.declared.verdict.Judgement.{Judgement}
use Rattle.answer_judge.specs.declared.verdict.Refused.{Refused}
use Rattle.answer_judge_facts.specs.DnskeyAnswer.{keys_in}

-- what a judge answers, apart from its counts
pub data Answer : Type 0 where
  Says : Verdict → Answer
  Refuses : Refusal → Answer

abbrev pub answer_of : Result Judgement Refused → Answer
answer_of (Ok j) = Says (verdict_of j.verdict)
answer_of (Err e) = Refuses e.refusal

abbrev pub verifications_of : Result Judgement Refused → ℕ
verifications_of (Ok j) = j.verifications
verifications_of (Err e) = e.verifications

abbrev pub hashes_of : Result Judgement Refused → ℕ
hashes_of (Ok j) = j.hashes
hashes_of (Err e) = e.hashes

-- what it is handed; the moment in whole seconds modulo 2^32
pub record JudgeInput : Type 0 where
  pub apex : Name
  pub ds : List Ds
  pub dnskey_bytes : List ℕ
  pub answer_bytes : List ℕ
  pub asked : Asked
  pub now : ℕ
  pub limit : ℕ
  -- whether the signatures by which the answer is verified must be of one inception and one expiration
  pub one_moment : Bool
  -- whether the answer may be one to another question of the zone, and the question one for the records of aliases
  pub other_question : Bool

-- at a moment in nanoseconds
abbrev pub handed_for : Name → List Ds → List ℕ → List ℕ → Asked → ℕ → ℕ → Bool → Bool → JudgeInput
handed_for apex ds dnskey_bytes answer_bytes asked at limit one_moment other_question = record {
  apex = apex;
  ds = ds;
  dnskey_bytes = dnskey_bytes;
  answer_bytes = answer_bytes;
  asked = asked;
  now = second_of at;
  limit = limit;
  one_moment = one_moment;
  other_question = other_question;
}

-- where the answer must be one to the question
abbrev pub handed : Name → List Ds → List ℕ → List ℕ → Asked → ℕ → ℕ → Bool → JudgeInput
handed apex ds dnskey_bytes answer_bytes asked at limit one_moment = handed_for apex ds dnskey_bytes answer_bytes asked at limit one_moment false

-- ---- the first refusals

-- the same question, names up to case
abbrev pub same_question : Asked → Asked → Bool
same_question a b = same a.name b.name && (a.rtype == b.rtype) && (a.class == b.class)

-- What a zone answer may ask: the question, or another where that is wanted. What it proves is true whatever it asks; where it
-- must ask the question, one that was replayed or mixed up with another is named as that.
abbrev pub may_ask : JudgeInput → Asked → Bool
may_ask h asked = h.other_question || same_question asked h.asked

-- A question is judged that is allowed; where other questions are wanted, also one for the records of aliases. None is judged
-- for a type that signing adds: records of the chain would pass for records of the zone, which has none of these types.
abbrev pub is_judged : JudgeInput → Bool
is_judged h = (h.other_question && asks_alias h.apex h.asked) || is_allowed h.apex h.asked

-- what the messages themselves bring, beside a DS set that isn't empty
abbrev pub message_refusal : ℕ → JudgeInput → Option Refusal
message_refusal k h = elim (message k h.dnskey_bytes) [
  | Err e ↦ Some r.BadDnskeyMessage
  | Ok keys ↦ elim (message k h.answer_bytes) [
    | Err e ↦ Some r.BadAnswerMessage
    | Ok answer ↦
        if not (same_question keys.asked (record { name = h.apex; rtype = 48; class = 1 }) && may_ask h answer.asked) then Some r.QuestionMismatch
        else if has_equal_tags (keys_in h.dnskey_bytes h.apex keys.records) then Some r.EqualTags
        else None
  ]
]

-- the first of the refusals that stand in what is handed in, in their order
abbrev pub first_refusal : ℕ → JudgeInput → Option Refusal
first_refusal k h =
    if not (is_judged h) then Some r.QuestionNotAllowed
    else if nat_eq (length h.ds) 0 then None
    else message_refusal k h

-- these refusals stand in what is handed in; the others depend on the checks too
abbrev pub is_first : Refusal → Bool
is_first r.QuestionNotAllowed = true
is_first r.BadDnskeyMessage = true
is_first r.BadAnswerMessage = true
is_first r.QuestionMismatch = true
is_first r.EqualTags = true
is_first _ = false

-- Both messages are read, and their questions compared, without memory: where it ran out, the messages bring no other
-- refusal than that of equal tags.
abbrev pub IsRead : Option Refusal → Type 0
IsRead None = Unit {0}
IsRead (Some r.EqualTags) = Unit {0}
IsRead (Some e) = ⊥

-- An answer is such a refusal exactly where it is the first, but that memory may run out after the messages were read.
abbrev pub AnswersFirst : Answer → Option Refusal → Type 0
AnswersFirst (Says w) first = first ≡ None
AnswersFirst (Refuses r.Memory) first = IsRead first
AnswersFirst (Refuses e) first = MatchBool (is_first e) (first ≡ Some e) (first ≡ None)

abbrev pub RefusesFirst : Refusal → Option Refusal → Type 0
RefusesFirst e first = AnswersFirst (Refuses e) first

-- with no DS there is nothing to check, whatever the bytes
pub record IsUnsignedOnly (answer : Answer) (verifications hashes : ℕ) : Type 0 where
  pub says : answer ≡ Says Unsigned
  pub none_verified : verifications ≡ 0
  pub none_hashed : hashes ≡ 0

abbrev pub EmptyIsUnsigned : JudgeInput → Answer → ℕ → ℕ → Type 0
EmptyIsUnsigned h answer v k = IsTrue (is_judged h) → h.ds ≡ [] → IsUnsignedOnly answer v k

-- ---- bounds

-- signature records that a message spells, 0 where it can't be read
abbrev pub signatures_in : ℕ → List ℕ → ℕ
signatures_in k m = elim (message k m) [ Err e ↦ 0 | Ok read ↦ length (filter (λ s. nat_eq s.rtype 46) read.records) ]

abbrev pub verification_bound : ℕ → JudgeInput → ℕ
verification_bound k h = signatures_in k h.dnskey_bytes + signatures_in k h.answer_bytes

-- the labels of the question's name, the root's counted, and one
abbrev pub hash_bound : JudgeInput → ℕ
hash_bound h = length h.asked.name + 2

-- what every judgement keeps, whatever is handed in
pub record Judges (k : ℕ) (h : JudgeInput) (answer : Answer) (verifications hashes : ℕ) : Type 0 where
  pub first : AnswersFirst answer (first_refusal k h)
  pub empty : EmptyIsUnsigned h answer verifications hashes
  pub verifications_bound : verifications ≤ verification_bound k h
  pub hashes_bound : hashes ≤ hash_bound h
