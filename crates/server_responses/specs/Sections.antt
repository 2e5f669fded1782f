-- The records of a response, section by section, of those of a message.
use Rattle.std.specs.Prelude.{ℕ, ◌-◌, Bool, ◌&&◌, ◌||◌, ◌==◌, not, List, [], ◌∷◌, Option, Some, None, drop, min, take, if◌then◌else◌}
use Rattle.std.specs.List.{flat_map}
use Rattle.messages.specs.HandedRr.{HandedRr, among}
use Rattle.messages.specs.Message.{Spelled, behind, data_of, pair, quad}
use Rattle.messages.specs.Written.{Written, written}
use Rattle.server_responses.specs.declared.records.Section.{Section}

-- the records of the answer section of a message, which its header counts, and those of its authority section
abbrev pub answer_section : List ℕ → List Spelled → List Spelled
answer_section m rs = take (pair m 6) rs

abbrev pub authority_section : List ℕ → List Spelled → List Spelled
authority_section m rs = take (pair m 8) (drop (pair m 6) rs)

-- the types of records that signing adds: RRSIG, NSEC and NSEC3 (RFC 4034, 3 and 4; RFC 5155, 3)
abbrev pub is_added : ℕ → Bool
is_added t = among (46 ∷ 47 ∷ 50 ∷ []) t

-- Without DO a client has these where it asks for their type, and nowhere else; DS records, 43, stand in a referral for DO alone
-- (RFC 3225, 3; RFC 4035, 3.1 and 3.1.4).
abbrev pub is_left_out : Section → ℕ → Bool
is_left_out s t = not s.dnssec_ok && (if s.is_authority then is_added t || (t == 43) else is_added t && not (t == s.asked))

-- the last four octets of a record's data: the minimum of an SOA record (RFC 1035, 3.3.13)
abbrev pub minimum_at : List ℕ → Spelled → ℕ
minimum_at m r = quad m (behind r - 4)

-- how long a denial is to be kept: the lesser of TTL and minimum of its SOA record (RFC 2308, 3); None where it has none
abbrev pub negative_ttl : List ℕ → List Spelled → Option ℕ
negative_ttl m [] = None
negative_ttl m (r ∷ rs) = if r.rtype == 6 then Some (min r.ttl (minimum_at m r)) else negative_ttl m rs

-- an SOA record, or a signature that covers one (RFC 4034, 3.1.1)
abbrev pub is_soa_or_its_signature : List ℕ → Spelled → Bool
is_soa_or_its_signature m r = (r.rtype == 6) || ((r.rtype == 46) && (pair m r.start == 6))

abbrev pub no_greater : Option ℕ → ℕ → ℕ
no_greater None ttl = ttl
no_greater (Some limit) ttl = min ttl limit

-- the TTL of a record in a response
abbrev pub shown_ttl : Section → List ℕ → Spelled → ℕ
shown_ttl s m r = if is_soa_or_its_signature m r then no_greater s.negative_ttl r.ttl else r.ttl

-- a record of a message with a TTL, to be written: owner, type, class, and data as they stand
abbrev pub written_at : List ℕ → ℕ → Spelled → Written
written_at m ttl r = written r.owner r.rtype r.class ttl (data_of m r)

-- what a response has of a record, and of a section
abbrev pub shown : Section → List ℕ → Spelled → List Written
shown s m r = if is_left_out s r.rtype then [] else written_at m (shown_ttl s m r) r ∷ []

abbrev pub all_shown : Section → List ℕ → List Spelled → List Written
all_shown s m rs = flat_map (shown s m) rs

-- a record of a zone as it was handed in: owner and data as spelled, its own TTL
abbrev pub written_as_handed : HandedRr → Written
written_as_handed r = written r.owner r.rtype r.class r.ttl r.written
