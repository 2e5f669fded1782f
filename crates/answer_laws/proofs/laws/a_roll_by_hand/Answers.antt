use Rattle.std.proofs.Common.{refl}
use Rattle.answer_laws.proofs.laws.a_roll_by_hand.Goals as goal

pub returns : goal.returns
returns c = record {
  all_accepted = refl;
  shown_behind = refl;
  unretired = record {
    by_rolls = refl;
    in_time = refl;
    first = refl;
    ds_lives = refl;
    dnskey_lives = refl;
    answer_lives = refl;
  };
  retired = refl;
}
