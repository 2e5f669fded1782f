-- What answers a request in octets.
use Rattle.std.specs.Prelude.{◌≡◌, ◌⊎◌, ℕ, ◌*◌, ◌<◌, ◌≤◌, ◌==◌, true, false, List, map, Option, Some, None, if◌then◌else◌}
use Rattle.std.specs.List.{AllByRecursion}
use Rattle.messages.specs.HandedRr.{HandedRr}
use Rattle.answer_judge_octets.specs.Written.{IsList}
use Rattle.server_answers.specs.World.{World}
use Rattle.answer_publisher_keys.specs.Bindings.{ZoneKeys}
use Rattle.answer_publisher.specs.Replacing.{is_too_soon}
use Rattle.server_answers.specs.Moments.{IsOrWasNoted, backdated}
use Rattle.server_answers.specs.Requests.{Responds}
use Rattle.server_answers.specs.Responding.{Serving, serving}
use Rattle.server_answers.specs.declared.requests.Response.{Response}
use Rattle.server_answers.specs.declared.requests.Response.TheVariants as response
use Rattle.server_responses.specs.declared.transport.Transport.{Transport}
use Rattle.server_responses.specs.declared.transport.Transport.TheVariants as transport
use Rattle.server_answers.specs.Table.{Made}
use Rattle.server_zone_octets.specs.Entries.{FitsMade, asked, entries_of, made_octets}
use Rattle.server_zone_octets.specs.Telling.{IsHandedOut, IsUnknown, CodeAndOctets, is_known, only, telling}
use Rattle.server_zone_octets.specs.declared.code.ZoneCode.{ZoneCode}
use Rattle.server_zone_octets.specs.declared.code.ZoneCode.TheVariants as c
use Rattle.server_zone_octets.specs.declared.report.ZoneReport.{ZoneReport}
use Rattle.server_zone_octets.specs.declared.request.OctetRequest.{OctetRequest}

-- the size of a request, the only one that is known
abbrev pub request_size : ℕ
request_size = 64

-- what carries the response, if the request says so
abbrev pub carried_by : ℕ → ℕ → Option Transport
carried_by limit stream =
    if stream == 0 then Some (transport.Datagram limit)
    else if stream == 1 then Some transport.Stream
    else None

abbrev pub transport_of : OctetRequest → Option Transport
transport_of r = if r.size == request_size then carried_by r.limit r.stream else None

-- the moment of a request, in nanoseconds
abbrev pub moment_of : OctetRequest → ℕ
moment_of r = backdated (r.moment * 1000000000) r.backdate

-- what a request is answered by
abbrev pub serving_of : World → ZoneKeys → List Made → List HandedRr → OctetRequest → Serving
serving_of w keys table addresses r = serving w keys table (moment_of r) 0 r.udp_size addresses

-- what is told of a response; for entries memory may run out
abbrev pub IsToldResponse : Response → CodeAndOctets → Type 0
IsToldResponse response.Nothing said = said ≡ only c.NoResponse
IsToldResponse (response.Reply v) said = said ≡ telling c.Response v.items
IsToldResponse (response.Sign v) said =
    ((said ≡ telling c.Sign (entries_of v.items)) × AllByRecursion FitsMade (map asked v.items)) ⊎ (said ≡ only c.OutOfMemory)

-- a request at a moment that is answered: signatures hold longer than it is dated back, and it is behind the last replacement
pub record IsTimely (life : ℕ) (closed : Option ℕ) (r : OctetRequest) : Type 0 where
  pub transport : Transport
  pub carried : transport_of r ≡ Some transport
  pub lives : r.backdate < life
  pub behind : is_too_soon closed (moment_of r) ≡ false

-- one of whose signatures there is a list, and what answers it
pub record IsResponded (w : World) (keys : ZoneKeys) (addresses : List HandedRr) (life : ℕ) (closed : Option ℕ) (r : OctetRequest) (latest latest' : Option ℕ) (said : CodeAndOctets) : Type 0 where
  pub timely : IsTimely life closed r
  pub table : List Made
  pub made : IsList FitsMade made_octets r.made.now table
  pub response : Response
  pub responds : Responds (serving_of w keys table addresses r) timely.transport r.request.now latest latest' response
  pub told : IsToldResponse response said

-- signatures do not hold longer than the answer is dated back
pub record IsExpired (life : ℕ) (r : OctetRequest) : Type 0 where
  pub transport : Transport
  pub carried : transport_of r ≡ Some transport
  pub expired : life ≤ r.backdate

-- the zone's records were replaced in the second of the answer, or in a later one
pub record IsClosed (life : ℕ) (closed : Option ℕ) (r : OctetRequest) : Type 0 where
  pub transport : Transport
  pub carried : transport_of r ≡ Some transport
  pub lives : r.backdate < life
  pub soon : is_too_soon closed (moment_of r) ≡ true

-- what is wrong with a request, where nothing was noted; or memory ran out, where its moment may
-- have been
abbrev pub HasNoResponse : ℕ → Option ℕ → OctetRequest → Option ℕ → Option ℕ → ZoneCode → Type 0
HasNoResponse life closed r latest latest' c.BadCall = (transport_of r ≡ None) × (latest' ≡ latest)
HasNoResponse life closed r latest latest' c.Expired = IsExpired life r × (latest' ≡ latest)
HasNoResponse life closed r latest latest' c.TooSoon = IsClosed life closed r × (latest' ≡ latest)
HasNoResponse life closed r latest latest' c.BadSignatures = IsTimely life closed r × ((table : List Made) → IsList FitsMade made_octets r.made.now table → ⊥) × (latest' ≡ latest)
HasNoResponse life closed r latest latest' c.OutOfMemory = IsTimely life closed r × IsOrWasNoted (moment_of r) latest latest'
HasNoResponse life closed r latest latest' _ = ⊥

abbrev pub TellsResponse : World → ZoneKeys → List HandedRr → ℕ → Option ℕ → OctetRequest → Option ℕ → Option ℕ → CodeAndOctets → Type 0
TellsResponse w keys addresses life closed r latest latest' said =
    IsResponded w keys addresses life closed r latest latest' said ⊎ ((said ≡ only said.code) × HasNoResponse life closed r latest latest' said.code)

-- what is told, in front of what was there if there is room
pub record IsAnswerTold (w : World) (keys : ZoneKeys) (addresses : List HandedRr) (life : ℕ) (closed : Option ℕ) (r : OctetRequest) (latest latest' : Option ℕ) (report : ZoneReport) (before after : List ℕ) (code : ZoneCode) : Type 0 where
  pub said : CodeAndOctets
  pub tells : TellsResponse w keys addresses life closed r latest latest' said
  pub handed_out : IsHandedOut said before after report code

pub record AnswersRequest (w : World) (keys : ZoneKeys) (addresses : List HandedRr) (life : ℕ) (closed : Option ℕ) (r : OctetRequest) (latest latest' : Option ℕ) (report report' : ZoneReport) (before after : List ℕ) (code : ZoneCode) : Type 0 where
  pub known : is_known report ≡ true → IsAnswerTold w keys addresses life closed r latest latest' report' before after code
  pub unknown : is_known report ≡ false → IsUnknown report report' before after code × (latest' ≡ latest)
