-- A name's wire octets as its hash: no two names share them.
use Rattle.definitions.specs.Name.{Name, wire}
use Rattle.definitions.specs.Zone.{Zone}
use Rattle.definitions.specs.ZoneChain.{Mode, Nsec, Nsec3}
use Rattle.denial_laws.specs.Truth.{NoSharedHash}
use Rattle.denial_laws.proofs.WireTells.{wire_tells}

pub none_shared : (z : Zone) (mode : Mode) (q : Name) → NoSharedHash z wire mode q
none_shared z Nsec q = tt
none_shared z (Nsec3 iterations salt optout) q = (λ a b _ _ e. wire_tells a b e, λ n _ m _ e. wire_tells m n e)
