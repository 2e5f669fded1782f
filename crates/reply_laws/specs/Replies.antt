-- What is replied to the same request twice.
use Rattle.std.specs.Prelude.{◌≡◌, ◌⊎◌, ℕ, false, true, List, Option, Ok}
use Rattle.definitions.specs.Limits.{pointer_limit}
use Rattle.messages.specs.HandedRr.{HandedRr}
use Rattle.answer_publisher_keys.specs.Bindings.{ZoneKeys}
use Rattle.server_queries.specs.Queries.{Queried, query_at}
use Rattle.server_responses.specs.Responses.{error_response}
use Rattle.server_answers.specs.Aliases.{asks_all}
use Rattle.server_answers.specs.World.{World}
use Rattle.server_zone_octets.specs.Requests.{AnswersRequest, TellsResponse}
use Rattle.server_zone_octets.specs.Telling.{CodeAndOctets, IsHandedOut}
use Rattle.server_zone_octets.specs.declared.code.ZoneCode.{ZoneCode}
use Rattle.server_zone_octets.specs.declared.code.ZoneCode.TheVariants as c
use Rattle.server_zone_octets.specs.declared.report.ZoneReport.{ZoneReport}
use Rattle.server_zone_octets.specs.declared.request.OctetRequest.{OctetRequest}

-- not a query for all records of a name, or for all signatures there
abbrev pub AsksOne : List ℕ → Type 0
AsksOne request = (q : Queried) → query_at pointer_limit request ≡ Ok q → asks_all q.asked ≡ false

-- the reply to a query that the server failed, SERVFAIL (RFC 1035, 4.1.1): a hash was not made, or a message would be too long
pub record IsServfail (size : ℕ) (request octets : List ℕ) : Type 0 where
  pub q : Queried
  pub query_is : query_at pointer_limit request ≡ Ok q
  pub octets_are : octets ≡ error_response size q 2

-- memory ran out, or the server failed
abbrev pub IsFailure : OctetRequest → CodeAndOctets → Type 0
IsFailure r said = (said.code ≡ c.OutOfMemory) ⊎ IsServfail r.udp_size r.request.now said.octets

-- the same is told, or one of both is a failure
abbrev pub SameRequestsAreToldAlike : Type 0
SameRequestsAreToldAlike =
    (w : World) (keys : ZoneKeys) (addresses : List HandedRr) (life : ℕ) (closed : Option ℕ) (r : OctetRequest) (old new old' new' : Option ℕ) (said said' : CodeAndOctets)
    → AsksOne r.request.now → TellsResponse w keys addresses life closed r old new said → TellsResponse w keys addresses life closed r old' new' said'
    → (said ≡ said') ⊎ (IsFailure r said ⊎ IsFailure r said')

-- a reply, with its octets and its report
pub record Replied : Type 0 where
  pub code : ZoneCode
  pub octets : List ℕ
  pub report : ZoneReport

abbrev pub replied : ZoneCode → List ℕ → ZoneReport → Replied
replied code octets report = record { code = code; octets = octets; report = report }

-- a reply that is a failure, which is told where there were these octets
pub record IsFailedReply (r : OctetRequest) (before : List ℕ) (x : Replied) : Type 0 where
  pub said : CodeAndOctets
  pub failed : IsFailure r said
  pub handed_out : IsHandedOut said before x.octets x.report x.code

-- the same reply, or one of both is a failure
abbrev pub SameCallsReplyAlike : Type 0
SameCallsReplyAlike =
    (w : World) (keys : ZoneKeys) (addresses : List HandedRr) (life : ℕ) (closed : Option ℕ) (r : OctetRequest) (old new old' new' : Option ℕ) (report : ZoneReport) (before : List ℕ) (x y : Replied)
    → AsksOne r.request.now
    → AnswersRequest w keys addresses life closed r old new report x.report before x.octets x.code
    → AnswersRequest w keys addresses life closed r old' new' report y.report before y.octets y.code
    → (x ≡ y) ⊎ (IsFailedReply r before x ⊎ IsFailedReply r before y)
