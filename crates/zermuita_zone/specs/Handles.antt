-- What the flag of a zone that C holds says.
use Rattle.std.specs.Prelude.{ℕ, Option, Some, None}
use Rattle.zermuita_zone.specs.declared.opened.OpenZone.{OpenZone}

abbrev pub flag_of : Option OpenZone → ℕ
flag_of None = 0
flag_of (Some z) = 1
