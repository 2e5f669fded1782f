use Rattle.std.proofs.Common.{◌≡◌}
use Rattle.denial_nsec3_sha1.specs.Iterated.{iterated}
use Rattle.denial_nsec3_sha1.proofs.hasher.hashed.Given as goal

abbrev pub invariant-loop : goal.invariant-loop
invariant-loop l = l.digest ≡ iterated l.counter l.octets l.salt
