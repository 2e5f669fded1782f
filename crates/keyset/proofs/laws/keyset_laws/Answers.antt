use Rattle.keyset.proofs.KeyWaits.{WaitsAreExact-holds, starts_enter, phases_follow}
use Rattle.keyset.proofs.laws.keyset_laws.Goals as goal

pub returns : goal.returns
returns c = record {
  waits_are_exact = WaitsAreExact-holds;
  starts_enter = starts_enter;
  phases_follow = phases_follow;
}
