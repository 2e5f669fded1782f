-- Labels that own their octets, and labels that are written through.
use Rattle.std.specs.Prelude.{ℕ, List, take, drop, slice_index}
use Rattle.std.specs.Str.{str_to_ascii_lowercase}
use Rattle.names_wire.specs.declared.owned.OwnedLabel.{OwnedLabel}

-- the octets, which stand behind their number
abbrev pub owned_octets : OwnedLabel → List ℕ
owned_octets l = take (slice_index l.wire 0) (drop 1 l.wire)

-- an owned label's octets with ASCII letters lowered
abbrev pub owned_lowered : OwnedLabel → List ℕ
owned_lowered l = str_to_ascii_lowercase (owned_octets l)
