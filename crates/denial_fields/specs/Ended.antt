-- Data of four octets and any number of others behind them (RFC 4034, 2.1 and 5.1).
use Rattle.names_rdata.specs.Reading.{Part, octets_part, rest_part, two_parts, limited}

abbrev pub ended_part : Part
ended_part = limited (two_parts (octets_part 4) rest_part)
