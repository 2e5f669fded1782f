-- OPT records (RFC 6891, 6.1): the class is a size, and the TTL has eight bits of a response code, eight of the version, DO
-- (RFC 3225) and fifteen of no meaning.
use Rattle.std.specs.Prelude.{◌/◌, ◌%◌, Bool, true, false, List, [], ◌∷◌, Option, Some, None, Result, Ok, Err, filter, max, nat_eq}
use Rattle.std.specs.List.{list_any}
use Rattle.definitions.specs.Name.{Name}
use Rattle.messages.specs.Message.{Spelled}
use Rattle.server_queries.specs.declared.edns.Edns.{Edns}
use Rattle.server_queries.specs.declared.rcode.Rcode.{Rcode}
use Rattle.server_queries.specs.declared.rcode.Rcode.TheVariants.{FormErr, BadVers}

abbrev pub is_opt : Spelled → Bool
is_opt r = nat_eq r.rtype 41

-- the OPT records among others
abbrev pub opts : List Spelled → List Spelled
opts rs = filter is_opt rs

abbrev pub has_opt : List Spelled → Bool
has_opt rs = list_any is_opt rs

abbrev pub is_root : Name → Bool
is_root [] = true
is_root (l ∷ ls) = false

-- what an OPT record says; a size below 512 is 512 (RFC 6891, 6.2.3)
abbrev pub edns_of : Spelled → Edns
edns_of r = record { version = r.ttl / 65536 % 256; udp_size = max r.class 512; dnssec_ok = nat_eq (r.ttl / 32768 % 2) 1 }

-- what one OPT record says to a server of version 0
abbrev pub known_edns : Edns → Result (Option Edns) Rcode
known_edns e = elim (nat_eq e.version 0) [ true ↦ Ok (Some e) | false ↦ Err BadVers ]

-- at most one, and of the root (RFC 6891, 6.1.1 and 6.1.2)
abbrev pub only_edns : List Spelled → Result (Option Edns) Rcode
only_edns [] = Ok None
only_edns (r ∷ []) = elim (is_root r.owner) [ true ↦ known_edns (edns_of r) | false ↦ Err FormErr ]
only_edns (r ∷ s ∷ rs) = Err FormErr

abbrev pub first_edns : List Spelled → Option Edns
first_edns [] = None
first_edns (r ∷ rs) = Some (edns_of r)
