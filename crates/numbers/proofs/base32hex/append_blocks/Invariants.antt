use Rattle.std.proofs.Common.{◌≡◌, ◌++◌, length, take}
use Rattle.definitions.specs.Base32hex.{base32hex}
use Rattle.numbers.proofs.base32hex.append_blocks.Given as goal

abbrev pub invariant-loop-rest : goal.invariant-loop-rest
invariant-loop-rest l = record {
  whole : l.digits.items ++ base32hex l.rest ≡ l.initial.digits.items ++ base32hex l.octets;
  stands : take (length l.initial.digits.items) l.digits.items ≡ l.initial.digits.items;
}

abbrev pub decreases-loop-rest : goal.decreases-loop-rest
decreases-loop-rest l = length l.rest
