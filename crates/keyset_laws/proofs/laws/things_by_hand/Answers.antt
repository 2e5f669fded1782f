use Rattle.std.proofs.Common.{refl}
use Rattle.keyset_laws.proofs.laws.things_by_hand.Goals as goal

pub returns : goal.returns
returns c = record {
  all_accepted = refl;
  behind_the_start = refl;
  not_retired = refl;
  before_the_start = refl;
  retired_with_its_ttl = refl;
  both_at_the_parent = refl;
  one_at_the_parent = refl;
  signed_twice = refl;
  signed_by_both_algorithms = refl;
}
