-- What a server answers to a request.
use Rattle.std.specs.Prelude.{◌≡◌, ℕ, List, Option, Result, Ok, Err, Some, None}
use Rattle.definitions.specs.Limits.{pointer_limit}
use Rattle.server_queries.specs.Queries.{Queried, RefusedRequest, query_at}
use Rattle.server_queries.specs.Replies.{error_octets}
use Rattle.server_responses.specs.Limits.{size_limit}
use Rattle.server_responses.specs.declared.transport.Transport.{Transport}
use Rattle.server_answers.specs.Answering.{AnswersQueried}
use Rattle.server_answers.specs.Responding.{Serving}
use Rattle.server_answers.specs.declared.requests.Response.{Response}
use Rattle.server_answers.specs.declared.requests.Response.TheVariants.{Nothing, Reply}

-- what answers a refusal: nothing, or a reply
abbrev pub IsReplyTo : ℕ → Option RefusedRequest → Response → Type 0
IsReplyTo size None Nothing = Unit {0}
IsReplyTo size (Some r) (Reply v) = v.items ≡ error_octets size r
IsReplyTo size refused response = ⊥

-- what answers what a request was read as: a query, under the limit of its transport, or none
abbrev pub AnswersRead : Serving → Transport → Option ℕ → Option ℕ → Response → Result Queried (Option RefusedRequest) → Type 0
AnswersRead s transport old new response (Ok q) = AnswersQueried (record s { limit = size_limit transport q.edns }) q old new response
AnswersRead s transport old new response (Err refused) = IsReplyTo s.size refused response × (new ≡ old)

-- what answers a request
abbrev pub Responds : Serving → Transport → List ℕ → Option ℕ → Option ℕ → Response → Type 0
Responds s transport request old new response = AnswersRead s transport old new response (query_at pointer_limit request)
