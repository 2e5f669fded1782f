-- The numbers of codes.
use Rattle.std.specs.Prelude.{ℕ}
use Rattle.server_zone_octets.specs.declared.code.ZoneCode.{ZoneCode}
use Rattle.server_zone_octets.specs.declared.code.ZoneCode.TheVariants as c

abbrev pub number_of : ZoneCode → ℕ
number_of c.Done = 64
number_of c.Untold = 65
number_of c.Refused = 66
number_of c.Response = 67
number_of c.NoResponse = 68
number_of c.Sign = 69
number_of c.OutOfMemory = 70
number_of c.BufferTooSmall = 71
number_of c.BadSignatures = 72
number_of c.BadCall = 73
number_of c.NotOpen = 74
number_of c.IsOpen = 75
number_of c.TooSoon = 76
number_of c.Expired = 77
