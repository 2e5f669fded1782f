-- The glue of a referral: addresses of its name servers at or below the delegation (RFC 1034, 4.3.2; RFC 9471, 3.1).
use Rattle.std.specs.Prelude.{◌≡◌, true, ℕ, ◌/◌, ◌%◌, Bool, ◌&&◌, ◌||◌, ◌==◌, List, [], ◌++◌, filter, Result, Ok, Err, if◌then◌else◌}
use Rattle.std.specs.List.{flat_map}
use Rattle.definitions.specs.Limits.{pointer_limit}
use Rattle.definitions.specs.Name.{Name, at_or_above, same}
use Rattle.messages.specs.declared.error.MessageError.{MessageError}
use Rattle.messages.specs.Handed.{IsHanded}
use Rattle.messages.specs.HandedRr.{HandedRr}
use Rattle.messages.specs.Message.{Message, Spelled, message, owner_at, pair}
use Rattle.answer_terms.specs.Accepting.{sorted_records}

-- an address of class IN: A, 1, or AAAA, 28 (RFC 1035, 3.4.1; RFC 3596, 2.1)
abbrev pub is_address : HandedRr → Bool
is_address r = (r.class == 1) && ((r.rtype == 1) || (r.rtype == 28))

-- one that a message can spell
pub record IsAddress (r : HandedRr) : Type 0 where
  pub handed : IsHanded r
  pub is : is_address r ≡ true

-- those among the records of a zone, in canonical order
abbrev pub addresses_of : List HandedRr → List HandedRr
addresses_of rs = sorted_records (filter is_address rs)

-- the records of an owner and a type
abbrev pub owned_of_type : List HandedRr → Name → ℕ → List HandedRr
owned_of_type rs n t = filter (λ r. same r.owner n && (r.rtype == t)) rs

-- the addresses of a name, A records before AAAA records
abbrev pub addresses_at : List HandedRr → Name → List HandedRr
addresses_at rs n = owned_of_type rs n 1 ++ owned_of_type rs n 28

-- the addresses of a name server of a delegation, if its name is at or below the delegation's
abbrev pub glue_below : List HandedRr → Name → Result (Name × ℕ) MessageError → List HandedRr
glue_below rs delegation (Err e) = []
glue_below rs delegation (Ok server) = if at_or_above delegation server.0 then addresses_at rs server.0 else []

-- those of the name server that a record of a message names, if it is an NS record, 2 (RFC 1035, 3.3.11)
abbrev pub glue_of : List HandedRr → List ℕ → Spelled → List HandedRr
glue_of rs m r = if r.rtype == 2 then glue_below rs r.owner (owner_at pointer_limit m r.start) else []

abbrev pub glue_in : List HandedRr → List ℕ → Result Message MessageError → List HandedRr
glue_in rs m (Err e) = []
glue_in rs m (Ok read) = flat_map (glue_of rs m) read.records

-- AA (RFC 1035, 4.1.1)
abbrev pub is_authoritative : List ℕ → Bool
is_authoritative m = pair m 2 / 1024 % 2 == 1

-- the glue of a message, among some addresses: that of each name server that it names, where it is a referral, which is not
-- authoritative (RFC 4035, 3.1.4)
abbrev pub glue : List HandedRr → List ℕ → List HandedRr
glue rs m = if is_authoritative m then [] else glue_in rs m (message pointer_limit m)
