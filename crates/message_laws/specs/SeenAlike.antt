-- Messages that a judge sees alike, whatever other records they have.
use Rattle.std.specs.Prelude.{◌≡◌, ℕ, Bool, false, ◌&&◌, ◌||◌, ◌==◌, List, None, Ok, Some, filter}
use Rattle.std.specs.List.{AllZip, list_any}
use Rattle.definitions.specs.Name.{Name, low}
use Rattle.messages.specs.Message.{Message, Spelled, message, rrsig_at}
use Rattle.answer_terms.specs.Alike.{IsLike}
use Rattle.answer_terms.specs.FactsCase.{low_facts}
use Rattle.answer_judge_facts.specs.Times.{proof_times}
use Rattle.answer_judge_facts.specs.Verified.{Trusting, verified_facts}
use Rattle.answer_scheme.specs.Answers.{Answers}
use Rattle.answer_judge.specs.Judging.{JudgeInput}
use Rattle.answer_judge.specs.Judged.{judged}

-- types of records that a judge uses of a message that is to tell it of a type: signatures, records of chains, and that type
abbrev pub is_used_type : ℕ → ℕ → Bool
is_used_type t u = (u == 46) || (u == 47) || (u == 50) || (u == t)

abbrev pub is_used : ℕ → Spelled → Bool
is_used t r = is_used_type t r.rtype

-- Both messages read, and their questions, up to case, and the records that are used are alike, one by one. Between these each
-- message may have any others.
pub record SeenAlike (k t : ℕ) (m n : List ℕ) : Type 0 where
  pub one : Message
  pub other : Message
  pub reads_one : message k m ≡ Ok one
  pub reads_other : message k n ≡ Ok other
  pub name_is : low one.asked.name ≡ low other.asked.name
  pub rtype_is : one.asked.rtype ≡ other.asked.rtype
  pub class_is : one.asked.class ≡ other.asked.class
  pub records_are : AllZip (IsLike k m n) (filter (is_used t) one.records) (filter (is_used t) other.records)

-- one answer in the place of another
abbrev pub AnswersJudgedAlike : Type 0
AnswersJudgedAlike = (a : Answers) (k : ℕ) (h : JudgeInput) (m n : List ℕ) → SeenAlike k h.asked.rtype m n → judged a k (record h { answer_bytes = m }) ≡ judged a k (record h { answer_bytes = n })

-- one DNSKEY answer in the place of another
abbrev pub KeysJudgedAlike : Type 0
KeysJudgedAlike = (a : Answers) (k : ℕ) (h : JudgeInput) (m n : List ℕ) → SeenAlike k 48 m n → judged a k (record h { dnskey_bytes = m }) ≡ judged a k (record h { dnskey_bytes = n })

-- a signature, 46, that covers a type (RFC 4034, 3.1.1)
abbrev pub is_covering : ℕ → List ℕ → ℕ → Spelled → Bool
is_covering k m t r = (r.rtype == 46) && elim (rrsig_at k m r) [ None ↦ false | Some f ↦ f.0.covered == t ]

-- One answer in the place of another that it is like in its signatures and records of chains, where no signature of that one covers
-- the type that is asked for: nothing verifies records of this type, so either may have any of them (RFC 4035, 5.3.1).
abbrev pub UncoveredJudgedAlike : Type 0
UncoveredJudgedAlike =
    (a : Answers) (k : ℕ) (h : JudgeInput) (m n : List ℕ) (seen : SeenAlike k 46 m n)
    → list_any (is_covering k n h.asked.rtype) seen.other.records ≡ false
    → judged a k (record h { answer_bytes = m }) ≡ judged a k (record h { answer_bytes = n })

-- Both messages read, whatever they ask. Of any name and a type the same is verified in them, under whichever keys, names of links up to
-- case, and by signatures of the same times.
pub record VerifiesAlike (k t : ℕ) (m n : List ℕ) : Type 0 where
  pub one : Message
  pub other : Message
  pub reads_one : message k m ≡ Ok one
  pub reads_other : message k n ≡ Ok other
  pub facts : (w : Trusting) (q : Name) → low_facts (verified_facts w k m one.records q t) ≡ low_facts (verified_facts w k n other.records q t)
  pub times : (w : Trusting) (q : Name) → proof_times w k m one.records q t ≡ proof_times w k n other.records q t

-- and their questions are alike, names up to case
pub record ProvesAlike (k t : ℕ) (m n : List ℕ) : Type 0 where
  pub verified : VerifiesAlike k t m n
  pub name_is : low verified.one.asked.name ≡ low verified.other.asked.name
  pub rtype_is : verified.one.asked.rtype ≡ verified.other.asked.rtype
  pub class_is : verified.one.asked.class ≡ verified.other.asked.class

-- so do messages that are seen alike, as one that tells of the type
abbrev pub SeenProveAlike : Type 0
SeenProveAlike = (k t : ℕ) (m n : List ℕ) → SeenAlike k t m n → ProvesAlike k t m n
