-- Labels that are made of octets.
use Rattle.std.specs.Prelude.{◌<◌}
use Rattle.std.specs.List.{AllByRecursion}
use Rattle.names_wire.specs.Name.{Name}

abbrev pub AreOctets : Name → Type 0
AreOctets n = AllByRecursion (AllByRecursion (λ b. b < 256)) n
