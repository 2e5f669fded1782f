use Rattle.std.proofs.Common.{◌≡◌, ◌++◌, take}
use Rattle.names_builder.specs.Addresses.{decimal_labels}
use Rattle.names_builder.proofs.Numbers.{ended_with}
use Rattle.names_builder.proofs.reverse.append_octets.Given as goal

abbrev pub invariant-loop-octet : goal.invariant-loop-octet
invariant-loop-octet l = l.builder ≡ ended_with (l.fn.builder.done ++ decimal_labels (take l.octet-index l.octets))
