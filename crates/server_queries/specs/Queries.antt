-- What a query is, and how a request that is none is answered. The first argument is how many pointers may be followed in
-- a name.
use Rattle.std.specs.Prelude.{ℕ, ◌+◌, Bool, true, false, ◌&&◌, not, List, [], ◌∷◌, length, take, Option, Some, None, Result, Ok, Err, nat_eq}
use Rattle.std.specs.Option.{option_map}
use Rattle.std.specs.Result.{result_ok}
use Rattle.messages.specs.Message.{◌>>=◌, Asked, Spelled, asked_at, behind, message, one_question, pair, u16_at}
use Rattle.names_parsed.specs.Parsed.{parsed_name}
use Rattle.names_parsed.specs.declared.parsed.ParsedName.{ParsedName}
use Rattle.messages.specs.declared.question.Question.{Question}
use Rattle.server_queries.specs.Headers.{is_reply, opcode_of, read_header}
use Rattle.server_queries.specs.Options.{first_edns, has_opt, only_edns, opts}
use Rattle.server_queries.specs.declared.edns.Edns.{Edns}
use Rattle.server_queries.specs.declared.header.RequestHeader.{RequestHeader}
use Rattle.server_queries.specs.declared.rcode.Rcode.{Rcode}
use Rattle.server_queries.specs.declared.rcode.Rcode.TheVariants.{FormErr, NotImp}

-- a query that a zone can answer
pub record Queried : Type 0 where
  pub header : RequestHeader
  pub asked : Asked
  pub edns : Option Edns

-- what a reply says to a request that is refused
pub record RefusedRequest : Type 0 where
  pub header : RequestHeader
  pub rcode : Rcode
  pub asked : Option Asked
  pub edns : Option Edns

-- the question of a message that counts one, and the place behind it (RFC 9619, 4)
abbrev pub question_at : ℕ → List ℕ → Option (Asked × ℕ)
question_at k m = result_ok (do
  questions ← u16_at m 4
  only ← one_question questions
  asked_at k m 12)

-- the place behind the last record, where the first begins at a place
abbrev pub end_of : ℕ → List Spelled → ℕ
end_of first [] = first
end_of first (r ∷ rs) = end_of (behind r) rs

-- the records of a message, which begin at a place, end where the octets do, and no OPT record stands in the answer or the
-- authority section
abbrev pub is_whole : List ℕ → ℕ → List Spelled → Bool
is_whole m first rs = nat_eq (end_of first rs) (length m) && not (has_opt (take (pair m 6 + pair m 8) rs))

-- what the OPT record of a query says, whose records begin at a place
abbrev pub read_edns_at : ℕ → List ℕ → ℕ → Result (Option Edns) Rcode
read_edns_at k m first = elim (message k m) [
  | Err e ↦ Err FormErr
  | Ok r ↦ elim (is_whole m first r.records) [ true ↦ only_edns (opts r.records) | false ↦ Err FormErr ]
]

-- the query that a request is, or how it is refused; opcode 0 is QUERY
abbrev pub accepted_at : ℕ → List ℕ → RequestHeader → Result Queried Rcode
accepted_at k m h = elim (nat_eq (opcode_of h) 0) [
  | false ↦ Err NotImp
  | true ↦ elim (question_at k m) [
    | None ↦ Err FormErr
    | Some q ↦ elim (read_edns_at k m q.1) [ Err rcode ↦ Err rcode | Ok edns ↦ Ok (record { header = h; asked = q.0; edns = edns }) ]
  ]
]

-- what the first OPT record says, where the message reads
abbrev pub edns_at : ℕ → List ℕ → Option Edns
edns_at k m = elim (message k m) [ Err e ↦ None | Ok r ↦ first_edns (opts r.records) ]

-- what a reply says to a request that is refused
abbrev pub refused_at : ℕ → List ℕ → RequestHeader → Rcode → RefusedRequest
refused_at k m h rcode = record { header = h; rcode = rcode; asked = option_map (λ q. q.0) (question_at k m); edns = edns_at k m }

abbrev pub answered_at : ℕ → List ℕ → RequestHeader → Result Queried (Option RefusedRequest)
answered_at k m h = elim (accepted_at k m h) [ Ok q ↦ Ok q | Err rcode ↦ Err (Some (refused_at k m h rcode)) ]

-- The query that octets are, or what answers them: None where nothing does, since they have no header or are a reply.
abbrev pub query_at : ℕ → List ℕ → Result Queried (Option RefusedRequest)
query_at k m = elim (read_header m) [
  | None ↦ Err None
  | Some h ↦ elim (is_reply h) [ true ↦ Err None | false ↦ answered_at k m h ]
]

-- a question of the code, which stands in a message
abbrev pub asked_in : Question ParsedName → Asked
asked_in q = record { name = parsed_name q.name; rtype = q.rtype; class = q.class }

-- a question and the place behind it
abbrev pub asked_before : Question ParsedName × ℕ → Asked × ℕ
asked_before q = (asked_in q.0, q.1)
