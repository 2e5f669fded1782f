-- The records of a zone's chain say what is so: hashes are wire octets, which no two names share.
use Rattle.std.proofs.Common.{Bool, []}
use Rattle.definitions.specs.Name.{Name, wire}
use Rattle.definitions.specs.Zone.{Zone}
use Rattle.definitions.specs.ZoneChain.{Nsec, Nsec3}
use Rattle.denial_laws.specs.Facts.{Facts}
use Rattle.denial_laws.specs.Truth.{AreChain, IsServable, SayTruly}
use Rattle.denial_laws.proofs.ChainSays.{chains_say_truly}
use Rattle.counterexamples_denial.proofs.WireHash.{none_shared}

pub links_say : (z : Zone) → IsServable z → (q : Name) (f : Facts) → AreChain z wire Nsec f → SayTruly z wire Nsec q f
links_say z s q f k = chains_say_truly z wire Nsec q f s tt k

pub hashes_say : (z : Zone) → IsServable z → (optout : Bool) (q : Name) (f : Facts) → AreChain z wire (Nsec3 0 [] optout) f → SayTruly z wire (Nsec3 0 [] optout) q f
hashes_say z s optout q f k = chains_say_truly z wire (Nsec3 0 [] optout) q f s (none_shared z (Nsec3 0 [] optout) q) k
