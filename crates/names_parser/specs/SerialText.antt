-- Serial numbers as text.
use Rattle.std.specs.Prelude.{ℕ, List, Result, Ok, Err}
use Rattle.std.specs.Str.Parse.{ParsesUnsigned, ExplainsUnsignedError, HasUnsignedDigitsIfOk}
use Rattle.std.specs.declared.num.ParseIntError.{ParseIntError}
use Rattle.names_parser.specs.declared.serial.Serial.{Serial}

abbrev pub number_of : Result Serial ParseIntError → Result ℕ ParseIntError
number_of (Ok s) = Ok s.0
number_of (Err e) = Err e

-- the text is read as a number of 32 bits is, in decimal
abbrev pub ReadsSerial : List ℕ → Result Serial ParseIntError → Type 0
ReadsSerial text r =
    ParsesUnsigned 32 10 text (number_of r) × ExplainsUnsignedError 10 text (number_of r) × HasUnsignedDigitsIfOk text (number_of r)
