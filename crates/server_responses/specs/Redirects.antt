-- Names below a DNAME: the response to a question for one has a CNAME that is made from it (RFC 6672, 3.1 and 3.2).
use Rattle.std.specs.Prelude.{ℕ, ◌+◌, ◌*◌, ◌/◌, Bool, false, ◌&&◌, ◌==◌, List, [], ◌∷◌, ◌++◌, length, Option, Some, None, Result, Ok, Err, nat_le, if◌then◌else◌}
use Rattle.std.specs.List.{find, flat_map}
use Rattle.std.specs.Option.{option_map}
use Rattle.definitions.specs.Limits.{pointer_limit}
use Rattle.definitions.specs.Name.{Name, strictly_above, wire}
use Rattle.denial_laws.specs.Leading.{Lead, To, TooLong, exchanged}
use Rattle.messages.specs.declared.error.MessageError.{MessageError}
use Rattle.messages.specs.Message.{Message, Spelled, data_of, message, pair}
use Rattle.messages.specs.NameOctets.{name_of_octets}
use Rattle.messages.specs.Written.{Written, record_octets, written}
use Rattle.server_queries.specs.Queries.{Queried}
use Rattle.server_responses.specs.Responses.{answers_shown, authority_shown, counted, reply_octets, response_flags, truncated_response}
use Rattle.server_responses.specs.Sections.{answer_section}

-- a DNAME record of a name above
abbrev pub is_dname_above : Name → Spelled → Bool
is_dname_above n r = (r.rtype == 39) && strictly_above r.owner n

-- a DNAME record, and where it leads a name
pub record Redirected : Type 0 where
  pub dname : Spelled
  pub lead : Lead

abbrev pub redirected : Spelled → Lead → Redirected
redirected r l = record { dname = r; lead = l }

-- by what its data spell; None where that is no name
abbrev pub redirected_by : List ℕ → Name → Spelled → Option Redirected
redirected_by m n r = option_map (λ t. redirected r (exchanged n r.owner t)) (name_of_octets (data_of m r))

abbrev pub redirected_by_first : List ℕ → Name → Option Spelled → Option Redirected
redirected_by_first m n None = None
redirected_by_first m n (Some r) = redirected_by m n r

-- the first such record of the answer section
abbrev pub redirected_in : List ℕ → Name → List Spelled → Option Redirected
redirected_in m n rs = redirected_by_first m n (find (is_dname_above n) (answer_section m rs))

-- The record that is made: a CNAME of the name that is asked for, with the TTL of the DNAME; none where the name that it would lead to
-- is too long (RFC 6672, 2.2 and 3.1).
abbrev pub made_cname : Name → Spelled → Lead → List Written
made_cname n r (To t) = written n 5 r.class r.ttl (wire t) ∷ []
made_cname n r TooLong = []

-- then YXDOMAIN, 6 (RFC 6672, 3.2)
abbrev pub redirect_flags : ℕ → Lead → ℕ
redirect_flags flags (To t) = flags
redirect_flags flags TooLong = flags / 16 * 16 + 6

abbrev pub redirect_answers : Queried → List ℕ → List Spelled → Redirected → List Written
redirect_answers q m rs r = answers_shown q m rs ++ made_cname q.asked.name r.dname r.lead

-- the response with all records of the message, and behind those of its answer section the one that is made
abbrev pub whole_redirect : ℕ → Queried → List ℕ → List Spelled → Redirected → List ℕ
whole_redirect size q m rs r =
    let answers = redirect_answers q m rs r in
    let authority = authority_shown q m rs in
    reply_octets size q (response_flags q.header (redirect_flags (pair m 2) r.lead) false) (counted (length answers) (length authority) 0)
    (flat_map record_octets answers ++ flat_map record_octets authority)

abbrev pub redirect_of : ℕ → ℕ → Queried → List ℕ → List Spelled → Redirected → List ℕ
redirect_of limit size q m rs r =
    let whole = whole_redirect size q m rs r in
    if nat_le (length whole) limit then whole else truncated_response size q m

abbrev pub redirect_in : ℕ → ℕ → Queried → List ℕ → Result Message MessageError → Option (List ℕ)
redirect_in limit size q m (Err e) = None
redirect_in limit size q m (Ok read) = option_map (redirect_of limit size q m read.records) (redirected_in m q.asked.name read.records)

-- None where the message does not read, or no DNAME of its answer section leads the name anywhere
abbrev pub redirect_response : ℕ → ℕ → Queried → List ℕ → Option (List ℕ)
redirect_response limit size q m = redirect_in limit size q m (message pointer_limit m)
