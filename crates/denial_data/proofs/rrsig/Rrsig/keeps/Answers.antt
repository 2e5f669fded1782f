use Rattle.std.proofs.Common.{arith}
use Rattle.denial_data.proofs.rrsig.Rrsig.keeps.Goals as goal

pub returns-clause-numbers : goal.returns-clause-numbers
returns-clause-numbers g c = record {
  type_covered = omega arith;
  original_ttl = omega arith;
  expiration = omega arith;
  inception = omega arith;
  key_tag = omega arith;
}
