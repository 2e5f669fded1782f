-- Evidence: a trust anchor, and messages of zones with the questions that they answer.
use Rattle.std.specs.Prelude.{◌≡◌, ℕ, Bool, true, ◌&&◌, ◌==◌, List, Option, Some}
use Rattle.std.specs.List.{find}
use Rattle.std.specs.Option.{option_map}
use Rattle.definitions.specs.Dnskey.{Ds}
use Rattle.definitions.specs.Name.{Name, same}
use Rattle.messages.specs.Message.{Asked}
use Rattle.answer_judge.specs.Judging.{JudgeInput, handed_for}
use Rattle.resolution_step.specs.Table.{Checked}

-- a message: the zone that it is of, and the question that it answers
pub record Message : Type 0 where
  pub zone : Name
  pub asked : Asked
  pub octets : List ℕ

-- A zone's name and its DS set; messages; signatures that were checked; the moment in nanoseconds, and limits
pub record Given : Type 0 where
  pub anchor : Name
  pub ds : List Ds
  pub messages : List Message
  pub table : List Checked
  pub algorithms : List ℕ
  pub at : ℕ
  pub limit : ℕ
  pub one_moment : Bool

abbrev pub is_answer : Name → Name → ℕ → Message → Bool
is_answer zone name t m = same m.zone zone && same m.asked.name name && (m.asked.rtype == t)

-- the first message of a zone that answers a question for a name and a type
abbrev pub message_of : Given → Name → Name → ℕ → Option (List ℕ)
message_of e zone name t = option_map (λ (m : Message). m.octets) (find (is_answer zone name t) e.messages)

-- What is handed to a judge for a question of a zone with a DS set. What the answer proves is true whatever it was asked.
abbrev pub judge_input : Given → Name → List Ds → Asked → List ℕ → List ℕ → JudgeInput
judge_input e zone ds asked keys answer = handed_for zone ds keys answer asked e.at e.limit e.one_moment true

-- a judgement of a zone's messages for a question: of its keys, and of the answer to that question
pub record IsOf (e : Given) (zone : Name) (ds : List Ds) (asked : Asked) (h : JudgeInput) : Type 0 where
  pub keys : List ℕ
  pub answer : List ℕ
  pub keys_are : message_of e zone zone 48 ≡ Some keys
  pub answer_is : message_of e zone asked.name asked.rtype ≡ Some answer
  pub is : h ≡ judge_input e zone ds asked keys answer
