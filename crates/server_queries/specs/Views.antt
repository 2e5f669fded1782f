-- How queries and refusals of the code are seen.
use Rattle.std.specs.Prelude.{◌≡◌, Option, Some, None, Result, Ok, Err}
use Rattle.std.specs.Option.{option_map}
use Rattle.server_queries.specs.Queries.{Queried, RefusedRequest, asked_in}
use Rattle.server_queries.specs.declared.query.Query.{Query}
use Rattle.server_queries.specs.declared.query.ErrorReply.{ErrorReply}
use Rattle.server_queries.specs.declared.query.Refusal.{Refusal}
use Rattle.server_queries.specs.declared.query.Refusal.TheVariants.{NoReply, Reply}
use Rattle.server_queries.specs.declared.rcode.Rcode.{Rcode}

abbrev pub queried_of : Query → Queried
queried_of q = record { header = q.header; asked = asked_in q.question; edns = q.edns }

abbrev pub refused_of : ErrorReply → RefusedRequest
refused_of r = record { header = r.header; rcode = r.rcode; asked = option_map asked_in r.question; edns = r.edns }

abbrev pub answer_of : Refusal → Option RefusedRequest
answer_of NoReply = None
answer_of (Reply r) = Some (refused_of r)

-- what a reading returned is what the definition reads
abbrev pub GivesQuery : Result Query Rcode → Result Queried Rcode → Type 0
GivesQuery (Ok q) read = read ≡ Ok (queried_of q)
GivesQuery (Err rcode) read = read ≡ Err rcode

abbrev pub Reads : Result Query Refusal → Result Queried (Option RefusedRequest) → Type 0
Reads (Ok q) read = read ≡ Ok (queried_of q)
Reads (Err r) read = read ≡ Err (answer_of r)
