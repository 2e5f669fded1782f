-- The DS records of a set that are of a known kind (RFC 4034, 5.1; RFC 4035, 5.2).
use Rattle.std.specs.Prelude.{ℕ, ◌+◌, ◌*◌, Bool, ◌&&◌, ◌||◌, ◌==◌, List, ◌∷◌, length, Option, Some, None, nat_eq, nat_le, if◌then◌else◌}
use Rattle.std.specs.List.{filter_map, list_any}
use Rattle.std.specs.Option.{is_some}
use Rattle.definitions.specs.Dnskey.{Ds}

-- the record that data spell: at least four octets, and no more than a record has room for
abbrev pub ds_of_data : List ℕ → Option Ds
ds_of_data (a ∷ b ∷ g ∷ d ∷ digest) = if nat_le (length digest) 65531 then Some (record { tag = a * 256 + b; algorithm = g; digest_type = d; digest = digest }) else None
ds_of_data _ = None

-- an algorithm that signatures are checked of, each where none is named; a digest that is made, of SHA-256 or SHA-384 (RFC 4509;
-- RFC 6605, 2)
abbrev pub is_known : List ℕ → Ds → Bool
is_known algorithms d = ((length algorithms == 0) || list_any (λ a. nat_eq a d.algorithm) algorithms) && (nat_eq d.digest_type 2 || nat_eq d.digest_type 4)

abbrev pub if_known : List ℕ → Option Ds → Option Ds
if_known algorithms None = None
if_known algorithms (Some d) = if is_known algorithms d then Some d else None

-- the record of a known kind that data spell
abbrev pub known_in : List ℕ → List ℕ → Option Ds
known_in algorithms datum = if_known algorithms (ds_of_data datum)

-- whether data spell one
abbrev pub knows : List ℕ → List ℕ → Bool
knows algorithms datum = is_some (known_in algorithms datum)

abbrev pub known_ds : List ℕ → List (List ℕ) → List Ds
known_ds algorithms datas = filter_map (known_in algorithms) datas
