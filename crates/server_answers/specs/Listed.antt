-- The types that the records of the chain in a message list.
use Rattle.std.specs.Prelude.{ℕ, ◌==◌, List, [], Option, Some, None, Result, Ok, Err, if◌then◌else◌}
use Rattle.std.specs.List.{flat_map}
use Rattle.definitions.specs.Limits.{pointer_limit}
use Rattle.definitions.specs.Name.{Name}
use Rattle.denial_bitmap.specs.Types.{types_in}
use Rattle.messages.specs.declared.error.MessageError.{MessageError}
use Rattle.messages.specs.Message.{HashedNext, Message, Spelled, message, nsec3_at, nsec_at}

abbrev pub types_of_link : Option (Name × List ℕ) → List ℕ
types_of_link None = []
types_of_link (Some link) = types_in link.1

abbrev pub types_of_hashed_link : Option HashedNext → List ℕ
types_of_hashed_link None = []
types_of_hashed_link (Some link) = types_in link.bits

-- the types of an NSEC record, 47, or of an NSEC3 record, 50, ascending
abbrev pub types_of : List ℕ → Spelled → List ℕ
types_of m r = if r.rtype == 47 then types_of_link (nsec_at pointer_limit m r) else if r.rtype == 50 then types_of_hashed_link (nsec3_at m r) else []

abbrev pub listed_in : List ℕ → Result Message MessageError → List ℕ
listed_in m (Err e) = []
listed_in m (Ok read) = flat_map (types_of m) read.records

-- those of each such record of a message, in order
abbrev pub listed : List ℕ → List ℕ
listed m = listed_in m (message pointer_limit m)
