-- Replies without records, as they are written (RFC 1035, 4.1.1; RFC 6891, 6.1).
use Rattle.std.specs.Prelude.{ℕ, ◌+◌, ◌*◌, ◌/◌, ◌%◌, Bool, true, false, List, [], ◌∷◌, ◌++◌, Option, Some, None}
use Rattle.std.specs.Int.{w16, w32, to_be_bytes}
use Rattle.messages.specs.Message.{Asked}
use Rattle.messages.specs.Written.{question_octets, written}
use Rattle.server_queries.specs.Headers.{opcode_of}
use Rattle.server_queries.specs.Queries.{RefusedRequest}
use Rattle.server_queries.specs.Rcodes.{rcode_number}
use Rattle.server_queries.specs.declared.edns.Edns.{Edns}
use Rattle.server_queries.specs.declared.header.RequestHeader.{RequestHeader}

abbrev pub one_if_some : {A : Type 0} → Option A → ℕ
one_if_some None = 0
one_if_some (Some x) = 1

-- QR, opcode and RD of the request, and the low four bits of the response code
abbrev pub reply_flags : RequestHeader → ℕ → ℕ
reply_flags h rcode = 32768 + opcode_of h * 2048 + h.flags / 256 % 2 * 256 + rcode % 16

-- id, flags, and the numbers of questions, answers, authority records and additional records
unfoldable pub header_octets : RequestHeader → ℕ → ℕ → ℕ → List ℕ
header_octets h rcode questions additional =
    to_be_bytes w16 h.id ++ to_be_bytes w16 (reply_flags h rcode) ++ to_be_bytes w16 questions ++ to_be_bytes w16 0 ++ to_be_bytes w16 0 ++ to_be_bytes w16 additional

-- the upper eight of the twelve bits of a response code, version 0, and DO
abbrev pub opt_bits : ℕ → Bool → ℕ
opt_bits rcode true = rcode / 16 * 16777216 + 32768
opt_bits rcode false = rcode / 16 * 16777216

-- an OPT record of the root without options (RFC 6891, 6.1.2)
unfoldable pub opt_octets : ℕ → ℕ → Bool → List ℕ
opt_octets size rcode dnssec_ok = 0 ∷ to_be_bytes w16 41 ++ to_be_bytes w16 size ++ to_be_bytes w32 (opt_bits rcode dnssec_ok) ++ to_be_bytes w16 0

abbrev pub asked_octets : Option Asked → List ℕ
asked_octets None = []
asked_octets (Some q) = question_octets q.name q.rtype q.class

abbrev pub edns_octets : ℕ → ℕ → Option Edns → List ℕ
edns_octets size rcode None = []
edns_octets size rcode (Some e) = opt_octets size rcode e.dnssec_ok

-- the reply to a request that is refused, by a server that takes so many octets by UDP
abbrev pub error_octets : ℕ → RefusedRequest → List ℕ
error_octets size r =
    header_octets r.header (rcode_number r.rcode) (one_if_some r.asked) (one_if_some r.edns) ++ asked_octets r.asked ++ edns_octets size (rcode_number r.rcode) r.edns
