-- Responses as they are written (RFC 1035, 4.1; RFC 6891, 6.1).
use Rattle.std.specs.Prelude.{◌≡◌, ℕ, ◌+◌, ◌*◌, ◌/◌, ◌%◌, Bool, true, false, List, [], ◌++◌, length, map, Option, Some, None, IsErr, Ok, nat_le, if◌then◌else◌}
use Rattle.std.specs.List.{flat_map}
use Rattle.std.specs.Int.{w16, to_be_bytes}
use Rattle.definitions.specs.Limits.{pointer_limit}
use Rattle.messages.specs.HandedRr.{HandedRr}
use Rattle.messages.specs.Message.{Message, Spelled, message, pair}
use Rattle.messages.specs.Written.{Written, question_octets, record_octets}
use Rattle.server_queries.specs.Queries.{Queried}
use Rattle.server_queries.specs.Replies.{edns_octets, one_if_some}
use Rattle.server_queries.specs.declared.edns.Edns.{Edns}
use Rattle.server_queries.specs.declared.header.RequestHeader.{RequestHeader}
use Rattle.server_responses.specs.Links.{links_shown, shows_link}
use Rattle.server_responses.specs.Sections.{all_shown, answer_section, authority_section, negative_ttl, written_as_handed}
use Rattle.server_responses.specs.declared.records.Section.{Section}
use Rattle.server_responses.specs.declared.write.Counts.{Counts}

-- DO (RFC 3225, 3)
abbrev pub wants_dnssec : Option Edns → Bool
wants_dnssec None = false
wants_dnssec (Some e) = e.dnssec_ok

abbrev pub is_dnssec_ok : Queried → Bool
is_dnssec_ok q = wants_dnssec q.edns

abbrev pub bit : Bool → ℕ
bit false = 0
bit true = 1

-- QR, TC, RD of the query, and AA and the RCODE of a message's flags; all other bits are clear, CD too (RFC 4035, 3.1.6)
abbrev pub response_flags : RequestHeader → ℕ → Bool → ℕ
response_flags h flags truncated = 32768 + flags / 1024 % 2 * 1024 + bit truncated * 512 + h.flags / 256 % 2 * 256 + flags % 16

abbrev pub count_octets : ℕ → ℕ → ℕ → List ℕ
count_octets answers authority additional = to_be_bytes w16 answers ++ to_be_bytes w16 authority ++ to_be_bytes w16 additional

-- id, flags, one question, and how many records the other sections have
unfoldable pub head_octets : ℕ → ℕ → ℕ → ℕ → ℕ → List ℕ
head_octets id flags answers authority additional =
    to_be_bytes w16 id ++ to_be_bytes w16 flags ++ to_be_bytes w16 1 ++ count_octets answers authority additional

-- how many records the sections have, OPT aside
abbrev pub counted : ℕ → ℕ → ℕ → Counts
counted answers authority additional = record { answers = answers; authority = authority; additional = additional }

-- a reply to a query: its question as it was spelled (RFC 5452, 9.1), so many records in these octets, and an OPT record behind them
-- where the query has one, by a server that takes so many octets by UDP
abbrev pub reply_octets : ℕ → Queried → ℕ → Counts → List ℕ → List ℕ
reply_octets size q flags counts records =
    head_octets q.header.id flags counts.answers counts.authority (counts.additional + one_if_some q.edns) ++ question_octets q.asked.name q.asked.rtype q.asked.class
    ++ records ++ edns_octets size 0 q.edns

-- what a response has of each; where it answers a question for NSEC, of the authority section alone, in the answer section
abbrev pub answers_shown : Queried → List ℕ → List Spelled → List Written
answers_shown q m rs =
    let section : Section = record { is_authority = false; dnssec_ok = is_dnssec_ok q; asked = q.asked.rtype; negative_ttl = None } in
    if shows_link q m rs then links_shown section m q.asked.name (authority_section m rs) else all_shown section m (answer_section m rs)

abbrev pub authority_shown : Queried → List ℕ → List Spelled → List Written
authority_shown q m rs =
    let section = authority_section m rs in
    if shows_link q m rs then [] else all_shown (record { is_authority = true; dnssec_ok = is_dnssec_ok q; asked = q.asked.rtype; negative_ttl = negative_ttl m section }) m section

-- the response with all of its records, and with these in its additional section
abbrev pub whole_response : ℕ → Queried → List ℕ → List Spelled → List Written → List ℕ
whole_response size q m rs more =
    let answers = answers_shown q m rs in
    let authority = authority_shown q m rs in
    reply_octets size q (response_flags q.header (pair m 2) false) (counted (length answers) (length authority) (length more))
    (flat_map record_octets answers ++ flat_map record_octets authority ++ flat_map record_octets more)

-- the response that has TC and no records (RFC 2181, 9)
abbrev pub truncated_response : ℕ → Queried → List ℕ → List ℕ
truncated_response size q m = reply_octets size q (response_flags q.header (pair m 2) true) (counted 0 0 0) []

-- the response to a query of which a message with these records was made; with all additional records, or with TC (RFC 9471, 3)
abbrev pub response_of : ℕ → ℕ → Queried → List ℕ → List Spelled → List Written → List ℕ
response_of limit size q m rs more =
    let whole = whole_response size q m rs more in
    if nat_le (length whole) limit then whole else truncated_response size q m

-- octets that are no message
abbrev pub IsUnreadable : List ℕ → Type 0
IsUnreadable m = IsErr (message pointer_limit m)

-- a message reads, and these octets are the response of it, with some records of a zone in its additional section
abbrev pub AnswersQuery : ℕ → ℕ → Queried → List ℕ → List HandedRr → List ℕ → Type 0
AnswersQuery limit size q m more octets =
    (read : Message) × (message pointer_limit m ≡ Ok read) × (octets ≡ response_of limit size q m read.records (map written_as_handed more))

-- a reply without records: QR, RD of the query, and a response code below 16
abbrev pub error_response : ℕ → Queried → ℕ → List ℕ
error_response size q rcode = reply_octets size q (32768 + q.header.flags / 256 % 2 * 256 + rcode) (counted 0 0 0) []
