-- Questions for NSEC records, 47: the message in which a zone denies another type of the name has the record that is asked for (RFC 4034, 4).
use Rattle.std.specs.Prelude.{ℕ, ◌/◌, ◌%◌, Bool, false, not, ◌&&◌, ◌||◌, ◌==◌, List, [], Option, Some, None, Result, Ok, Err, if◌then◌else◌}
use Rattle.std.specs.List.{flat_map, list_any}
use Rattle.definitions.specs.Limits.{pointer_limit}
use Rattle.definitions.specs.Name.{Name, at_or_above, same}
use Rattle.messages.specs.declared.error.MessageError.{MessageError}
use Rattle.messages.specs.Message.{Message, Spelled, message, nsec_at, pair}
use Rattle.messages.specs.Written.{Written}
use Rattle.server_queries.specs.Queries.{Queried}
use Rattle.server_responses.specs.Sections.{authority_section, shown}
use Rattle.server_responses.specs.declared.records.Section.{Section}

abbrev pub is_link : Spelled → Bool
is_link r = r.rtype == 47

-- one that this name owns
abbrev pub is_link_of : Name → Spelled → Bool
is_link_of n r = (r.rtype == 47) && same r.owner n

-- that, or a signature there that covers it (RFC 4034, 3.1.1)
abbrev pub is_link_or_its_signature : List ℕ → Name → Spelled → Bool
is_link_or_its_signature m n r = same r.owner n && ((r.rtype == 47) || ((r.rtype == 46) && (pair m r.start == 47)))

-- AA (RFC 1035, 4.1.1)
abbrev pub is_authoritative : List ℕ → Bool
is_authoritative m = pair m 2 / 1024 % 2 == 1

-- A message with these records answers a question for NSEC: it is no referral, and denies another type by the record of the name itself.
abbrev pub shows_link : Queried → List ℕ → List Spelled → Bool
shows_link q m rs = (q.asked.rtype == 47) && is_authoritative m && list_any (is_link_of q.asked.name) (authority_section m rs)

-- what the answer section has of a record of the authority section then, and of all of them
abbrev pub link_shown : Section → List ℕ → Name → Spelled → List Written
link_shown s m n r = if is_link_or_its_signature m n r then shown s m r else []

abbrev pub links_shown : Section → List ℕ → Name → List Spelled → List Written
links_shown s m n rs = flat_map (link_shown s m n) rs

-- a name at or above the next one: it is there, if without records (RFC 4592, 2.2.2)
abbrev pub leads_below : Name → Option (Name × List ℕ) → Bool
leads_below n None = false
leads_below n (Some link) = at_or_above n link.0

-- an NSEC record by which a name is there: it owns the record, or has no records and stands above the next name
abbrev pub tells_of : List ℕ → Name → Spelled → Bool
tells_of m n r = (r.rtype == 47) && (same r.owner n || leads_below n (nsec_at pointer_limit m r))

abbrev pub is_hidden_in : Name → List ℕ → Result Message MessageError → Bool
is_hidden_in n m (Err e) = false
is_hidden_in n m (Ok read) = list_any is_link read.records && not (list_any (tells_of m n) read.records)

-- The NSEC record that a question is for is that of a wildcard: the message, which is authoritative and without an error, denies another
-- type by NSEC records, and by none of them the name is there. It would be made for the name (RFC 4592, 4.8), and must not deny others.
abbrev pub is_link_hidden : Queried → List ℕ → Bool
is_link_hidden q m = (q.asked.rtype == 47) && (pair m 2 == 33792) && is_hidden_in q.asked.name m (message pointer_limit m)
