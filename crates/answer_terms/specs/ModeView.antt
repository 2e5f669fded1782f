-- How the mode of a zone's chain is seen.
use Rattle.definitions.specs.ZoneChain.{Mode}
use Rattle.definitions.specs.ZoneChain as chain
use Rattle.answer_terms.specs.declared.mode.Mode as declared
use Rattle.answer_terms.specs.declared.mode.Mode.TheVariants.{Nsec, Nsec3}

abbrev pub mode_of : declared.Mode → Mode
mode_of Nsec = chain.Nsec
mode_of (Nsec3 iterations salt opt_out) = chain.Nsec3 iterations salt opt_out
