-- How a chain of hashes is made, as the mode of a zone.
use Rattle.definitions.specs.ZoneChain.{Mode, Nsec3}
use Rattle.answer_zone_records.specs.declared.hash_chain.HashParameters.{HashParameters}

abbrev pub mode_by : HashParameters → Mode
mode_by p = Nsec3 p.iterations p.salt.now p.opt_out
