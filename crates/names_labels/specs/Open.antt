-- Symbols that go on behind labels, the last of which may be open (RFC 1035, 5.1).
use Rattle.std.specs.Prelude.{◌+◌, Bool, false, not, ◌&&◌, if◌then◌else◌, nat_le, List, [], ◌∷◌, ◌++◌, map, length, Option, Some, None}
use Rattle.std.specs.List.{list_all}
use Rattle.std.specs.Option.{option_map}
use Rattle.names_wire.specs.Name.{Name, Label, wire_len}
use Rattle.names_wire.specs.Text.{Symbol, is_symbol, octet, begins_binary, pieces}

-- a binary label would begin with these symbols; within an open label none begins
abbrev pub binary_behind : Label → List Symbol → Bool
binary_behind [] p = begins_binary p
binary_behind (o ∷ os) p = false

-- an open label with the octets of a piece behind it: at most 63 octets
abbrev pub piece_behind : Label → List Symbol → Option Label
piece_behind open_label p =
    if nat_le (length open_label + length p) 63 && list_all is_symbol p && not (binary_behind open_label p) then Some (open_label ++ map octet p) else None

-- a label that isn't empty, in front of others
abbrev pub some_before : Label → Option Name → Option Name
some_before [] ls = None
some_before (o ∷ os) ls = option_map (λ ms. (o ∷ os) ∷ ms) ls

-- The first piece goes on behind an open label, a dot ends a label that isn't empty, and the last label stays
-- open: it may be empty.
abbrev pub open_labels : Label → List (List Symbol) → Option Name
open_labels open_label [] = None
open_labels open_label (p ∷ []) = option_map (λ l. l ∷ []) (piece_behind open_label p)
open_labels open_label (p ∷ q ∷ ps) = elim (piece_behind open_label p) [ None ↦ None | Some l ↦ some_before l (open_labels [] (q ∷ ps)) ]

-- the labels without an empty one at the end
abbrev pub without_empty : Name → Name
without_empty [] = []
without_empty (l ∷ []) = elim l [ [] ↦ [] | o ∷ os ↦ (o ∷ os) ∷ [] ]
without_empty (l ∷ k ∷ ls) = l ∷ without_empty (k ∷ ls)

-- at most 254 octets in wire form, without the root's
abbrev pub if_open_short : Option Name → Option Name
if_open_short None = None
if_open_short (Some ls) = if nat_le (wire_len (without_empty ls)) 255 then Some ls else None

-- What symbols make of labels and an open one behind them. The last label is again the open one, empty where
-- none is open. Nothing where they go on with no label, or a label or the name gets too long.
abbrev pub read_behind : Name → Label → List Symbol → Option Name
read_behind done open_label ss = if_open_short (option_map (λ ls. done ++ ls) (open_labels open_label (pieces ss)))
