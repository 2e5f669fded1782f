use Rattle.std.proofs.Common.{lit<, lit≤, refl, arith}
use Rattle.clock_laws.proofs.laws.early_reports_miss.Goals as goal

pub returns : goal.returns
returns c = record {
  down_is_accepted = refl;
  down_retires = refl;
  down_is_held = (lit≤ tt, lit< tt);
  down_fails = refl;
  up_is_refused = refl;
  up_retires_nothing = refl;
  up_is_accepted = refl;
  up_is_not_held = λ held. omega (arith, held.1);
}
