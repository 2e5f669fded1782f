-- How many octets a response may have.
use Rattle.std.specs.Prelude.{ℕ, max, min, Option, Some, None}
use Rattle.server_queries.specs.declared.edns.Edns.{Edns}
use Rattle.server_responses.specs.declared.transport.Transport.{Transport}
use Rattle.server_responses.specs.declared.transport.Transport.TheVariants.{Stream, Datagram}

-- what a client takes by a datagram; 512 where it doesn't say (RFC 1035, 4.2.1; RFC 6891, 6.2.5)
abbrev pub taken : Option Edns → ℕ
taken None = 512
taken (Some e) = e.udp_size

-- two octets say how long a message by a stream is (RFC 1035, 4.2.2); a datagram of 512 is always fine (RFC 1035, 2.3.4)
abbrev pub size_limit : Transport → Option Edns → ℕ
size_limit Stream edns = 65535
size_limit (Datagram limit) edns = max 512 (min limit (taken edns))
