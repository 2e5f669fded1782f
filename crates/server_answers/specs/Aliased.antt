-- What a server answers where an RRset of an alias answers.
use Rattle.std.specs.Prelude.{◌≡◌, MatchBool, ℕ, false, List, Option, Result, Ok, Err, unwrap_or}
use Rattle.definitions.specs.Name.{strictly_above}
use Rattle.messages.specs.HandedRr.{HandedRr}
use Rattle.messages.specs.Message.{Asked}
use Rattle.answer_publisher.specs.declared.fault.AnswerFault.{AnswerFault}
use Rattle.server_queries.specs.Queries.{Queried}
use Rattle.server_responses.specs.Redirects.{redirect_response}
use Rattle.server_responses.specs.Responses.{error_response}
use Rattle.server_signatures.specs.declared.answering.Signed.{Signed}
use Rattle.server_signatures.specs.declared.answering.Signed.TheVariants.{Message, Missing}
use Rattle.server_answers.specs.MadeOf.{IsMadeOf}
use Rattle.server_answers.specs.Messages.{Makes}
use Rattle.server_answers.specs.Responding.{Serving}
use Rattle.server_answers.specs.Subset.{wants_signatures}
use Rattle.server_answers.specs.declared.requests.Response.{Response}
use Rattle.server_answers.specs.declared.requests.Response.TheVariants.{Reply}

-- what is said of the message of a DNAME above the name: a response that has the CNAME made from it; SERVFAIL, 2, where no DNAME of the
-- message leads anywhere
abbrev pub IsMadeRedirect : ℕ → ℕ → Queried → List HandedRr → Result Signed AnswerFault → Response → Type 0
IsMadeRedirect limit size q addresses (Ok (Message m)) (Reply v) = v.items ≡ unwrap_or (redirect_response limit size q m.items) (error_response size q 2)
IsMadeRedirect limit size q addresses (Ok (Message m)) response = ⊥
IsMadeRedirect limit size q addresses (Ok (Missing v)) response = IsMadeOf limit size q addresses (Ok (Missing v)) response
IsMadeRedirect limit size q addresses (Err f) response = IsMadeOf limit size q addresses (Err f) response

-- what is said of the message for the RRset of an alias: a DNAME above the name redirects it; another RRset stands in the response alone
abbrev pub IsMadeAlias : Serving → Queried → Asked → Result Signed AnswerFault → Response → Type 0
IsMadeAlias s q alias made response =
    MatchBool (strictly_above alias.name q.asked.name) (IsMadeRedirect s.limit s.size q s.addresses made response) (IsMadeOf s.limit s.size q s.addresses made response)

-- What answers a query by the RRset of an alias: what is said of a message for the alias's question, of what is missing for it, or of a
-- fault. `old` and `new` are the greatest seconds of an answer before the call and behind it.
abbrev pub AnswersAlias : Serving → Queried → Asked → Option ℕ → Option ℕ → Response → Type 0
AnswersAlias s q alias old new response =
    (made : Result Signed AnswerFault) × Makes s alias false (wants_signatures q) old new made × IsMadeAlias s q alias made response
