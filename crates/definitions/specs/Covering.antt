-- What one record of a chain covers (RFC 4034, 4; RFC 5155, 3 and 8.3).
use Rattle.std.specs.Prelude.{ℕ, Bool, not, ◌&&◌, ◌||◌, List}
use Rattle.std.specs.Ordering.{is_lt, nat_cmp}
use Rattle.std.specs.Cmp.Lexicographic.{slice_cmp}
use Rattle.definitions.specs.Name.{Name, same, name_cmp}

abbrev pub before : Name → Name → Bool
before a b = is_lt (name_cmp a b)

-- strictly between owner and next; the apex as next ends the order
abbrev pub covers : Name → Name → Name → Name → Bool
covers apex owner next q = before owner q && (same next apex || before q next)

-- the order of octets, by which hashes are covered: an owner and a next hash cover what lies between them on a circle;
-- a single record covers all but itself
abbrev pub octets_before : List ℕ → List ℕ → Bool
octets_before a b = is_lt (slice_cmp nat_cmp a b)

abbrev pub hash_covers : List ℕ → List ℕ → List ℕ → Bool
hash_covers owner next h =
    (octets_before owner h && octets_before h next)
    || (not (octets_before owner next) && (octets_before owner h || octets_before h next))
