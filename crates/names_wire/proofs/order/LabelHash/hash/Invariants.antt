use Rattle.std.proofs.Common.{◌≡◌, ◌++◌, length, take}
use Rattle.std.specs.Str.{str_to_ascii_lowercase}
use Rattle.std.specs.List.{flat_map, fold}
use Rattle.std.specs.Hash.{u8 as one_octet}
use Rattle.names_wire.specs.Label.{octets_of}
use Rattle.names_wire.proofs.order.LabelHash.hash.Given as goal

abbrev pub invariant-loop-octet : goal.invariant-loop-octet
invariant-loop-octet g l =
    l.state ≡ fold g.H.Hasher.write l.fn.state (one_octet (length (octets_of l.self)) ++ flat_map one_octet (str_to_ascii_lowercase (take l.octet-index (octets_of l.self))))
