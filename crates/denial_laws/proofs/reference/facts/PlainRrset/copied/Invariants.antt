use Rattle.std.proofs.Common.{◌≡◌, take}
use Rattle.denial_laws.proofs.reference.facts.PlainRrset.copied.Given as goal

abbrev pub invariant-loop-octets : goal.invariant-loop-octets
invariant-loop-octets l = l.copy.items ≡ take l.octets-index l.self.datas
