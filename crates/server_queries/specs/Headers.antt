-- The header of a request: the id, and 16 bits of QR, opcode, AA, TC, RD, RA, Z, AD, CD and RCODE (RFC 1035, 4.1.1;
-- RFC 4035, 3.2). A flag is given by its worth in these bits.
use Rattle.std.specs.Prelude.{ℕ, ◌/◌, ◌%◌, Bool, List, Option, length, nat_eq, nat_le}
use Rattle.messages.specs.Message.{if_true, pair}
use Rattle.server_queries.specs.declared.header.RequestHeader.{RequestHeader}

abbrev pub has_flag : ℕ → ℕ → Bool
has_flag worth flags = nat_eq (flags / worth % 2) 1

-- QR, the highest bit
abbrev pub is_reply : RequestHeader → Bool
is_reply h = has_flag 32768 h.flags

-- the four bits behind QR
abbrev pub opcode_of : RequestHeader → ℕ
opcode_of h = h.flags / 2048 % 16

-- a header has twelve octets
abbrev pub read_header : List ℕ → Option RequestHeader
read_header m = if_true (nat_le 12 (length m)) (record { id = pair m 0; flags = pair m 2 })
