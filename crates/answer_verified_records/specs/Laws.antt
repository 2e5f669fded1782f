-- What is said of verified records beside a verdict.
use Rattle.std.specs.Prelude.{◌≡◌, ℕ, ◌==◌, List, filter, Ok, slice_get}
use Rattle.std.specs.List.{filter_map}
use Rattle.definitions.specs.Zone.{Records, StarRecords, sorted_data}
use Rattle.messages.specs.Message.{Message, Spelled, canonical_data, message}
use Rattle.answer_scheme.specs.Answers.{Answers}
use Rattle.answer_judge.specs.Judging.{JudgeInput, Says}
use Rattle.answer_judge.specs.Judged.{judged}
use Rattle.answer_verified_records.specs.Records.{verified_records}

-- the records of some numbers
abbrev pub records_of : List Spelled → List ℕ → List Spelled
records_of rs ns = filter_map (slice_get rs) ns

-- the canonical data of those that are of a type, ascending, each once
abbrev pub data_of_type : ℕ → List ℕ → List Spelled → ℕ → List ℕ → List (List ℕ)
data_of_type k m rs t ns = sorted_data (filter_map (canonical_data k m) (filter (λ r. r.rtype == t) (records_of rs ns)))

-- the verified records of the question's type have exactly some data
abbrev pub HaveData : Answers → ℕ → JudgeInput → List (List ℕ) → Type 0
HaveData a k h datas = (answer : Message) → message k h.answer_bytes ≡ Ok answer → data_of_type k h.answer_bytes answer.records h.asked.rtype (verified_records a k h) ≡ datas

-- Where a judge says which data there are, by the name itself or by a wildcard, the verified records of the question's type have
-- exactly these.
abbrev pub VerdictsAreVerified : Type 0
VerdictsAreVerified =
    (a : Answers) (k : ℕ) (h : JudgeInput) (datas : List (List ℕ))
    → (judged a k h ≡ Says (Records datas) → HaveData a k h datas) × (judged a k h ≡ Says (StarRecords datas) → HaveData a k h datas)
