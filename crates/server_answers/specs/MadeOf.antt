-- What becomes of a message, of what is missing for it, and of a fault.
use Rattle.std.specs.Prelude.{◌≡◌, ◌≢◌, ℕ, List, Result, Ok, Err, IsOk}
use Rattle.definitions.specs.Limits.{pointer_limit}
use Rattle.messages.specs.HandedRr.{HandedRr}
use Rattle.messages.specs.Message.{message}
use Rattle.answer_publisher.specs.declared.fault.AnswerFault.{AnswerFault}
use Rattle.answer_publisher.specs.declared.fault.AnswerFault.TheVariants as fault
use Rattle.server_queries.specs.Queries.{Queried}
use Rattle.server_responses.specs.Responses.{error_response}
use Rattle.server_signatures.specs.declared.answering.Signed.{Signed}
use Rattle.server_signatures.specs.declared.answering.Signed.TheVariants.{Message, Missing}
use Rattle.server_answers.specs.Glued.{AnswersGlued}
use Rattle.server_answers.specs.Responding.{rcode_of}
use Rattle.server_answers.specs.declared.requests.Response.{Response}
use Rattle.server_answers.specs.declared.requests.Response.TheVariants.{Reply, Sign}

-- a message that reads; what is missing has none
abbrev pub ReadsWhole : Signed → Type 0
ReadsWhole (Message m) = IsOk (message pointer_limit m.items)
ReadsWhole (Missing v) = Unit {0}

-- what is said of a message, of what is missing, or of a fault, where a zone has these addresses
abbrev pub IsMadeOf : ℕ → ℕ → Queried → List HandedRr → Result Signed AnswerFault → Response → Type 0
IsMadeOf limit size q addresses (Ok (Message m)) (Reply v) = AnswersGlued limit size q addresses m.items v.items
IsMadeOf limit size q addresses (Ok (Missing inputs)) (Sign v) = v ≡ inputs
IsMadeOf limit size q addresses (Err f) (Reply v) = (f ≢ fault.Memory) × (v.items ≡ error_response size q (rcode_of f))
IsMadeOf limit size q addresses made response = ⊥
