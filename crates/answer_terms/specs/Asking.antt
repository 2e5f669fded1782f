-- Which questions are answered and judged.
use Rattle.std.specs.Prelude.{Bool, not, ◌&&◌, ◌==◌, ◌∷◌, [], nat_le}
use Rattle.definitions.specs.Name.{Name, at_or_above}
use Rattle.messages.specs.HandedRr.{among}
use Rattle.messages.specs.Message.{Asked}

-- Questions that are answered and judged: class IN, at or below the apex, and none of the types that signing
-- adds, of aliases, or that no zone holds (RFC 6895, 3.1).
abbrev pub is_allowed : Name → Asked → Bool
is_allowed apex q =
    (q.class == 1) && at_or_above apex q.name
    && not (among (46 ∷ 47 ∷ 48 ∷ 50 ∷ 51 ∷ 5 ∷ 39 ∷ 0 ∷ 41 ∷ []) q.rtype) && not (nat_le 128 q.rtype && nat_le q.rtype 255)

-- Questions for the records of aliases: CNAME or DNAME (RFC 1034, 3.6.2; RFC 6672), class IN, at or below the apex.
abbrev pub asks_alias : Name → Asked → Bool
asks_alias apex q = among (5 ∷ 39 ∷ []) q.rtype && (q.class == 1) && at_or_above apex q.name
