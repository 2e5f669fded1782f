-- Names as octets of their own.
use Rattle.std.specs.Prelude.{ℕ, List, length, Option, None, Ok, Err, nat_eq}
use Rattle.definitions.specs.Name.{Name}
use Rattle.messages.specs.Message.{owner_at, if_true}

-- the name that all of the octets spell, without pointers (RFC 1035, 3.1)
abbrev pub name_of_octets : List ℕ → Option Name
name_of_octets octets = elim (owner_at 0 octets 0) [ Err e ↦ None | Ok n ↦ if_true (nat_eq n.1 (length octets)) n.0 ]
