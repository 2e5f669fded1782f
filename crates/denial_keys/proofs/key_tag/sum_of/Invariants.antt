use Rattle.std.proofs.Common.{◌≡◌, ◌+◌, ◌%◌, length}
use Rattle.definitions.specs.Dnskey.{sum16}
use Rattle.denial_keys.proofs.key_tag.sum_of.Given as goal

abbrev pub invariant-loop-rest : goal.invariant-loop-rest
invariant-loop-rest l = (l.sum + sum16 l.rest) % 4294967296 ≡ sum16 l.octets % 4294967296

abbrev pub decreases-loop-rest : goal.decreases-loop-rest
decreases-loop-rest l = length l.rest
