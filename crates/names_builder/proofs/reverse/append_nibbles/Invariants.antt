use Rattle.std.proofs.Common.{◌≡◌, ◌++◌, take}
use Rattle.names_builder.specs.Addresses.{hex_labels}
use Rattle.names_builder.proofs.Numbers.{ended_with}
use Rattle.names_builder.proofs.reverse.append_nibbles.Given as goal

abbrev pub invariant-loop-octet : goal.invariant-loop-octet
invariant-loop-octet l = l.builder ≡ ended_with (l.fn.builder.done ++ hex_labels (take l.octet-index l.octets))
