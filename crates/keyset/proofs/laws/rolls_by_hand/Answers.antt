use Rattle.std.proofs.Common.{refl}
use Rattle.keyset.proofs.laws.rolls_by_hand.Goals as goal

pub returns-clause-published : goal.returns-clause-published
returns-clause-published c = record {
  algorithm = record { accepted = refl; after_start = refl; after_wait1 = refl; after_wait2 = refl };
  zsk = record { accepted = refl; after_start = refl; after_wait1 = refl; after_wait2 = refl };
  zsk_double_signature = record { accepted = refl; after_start = refl; after_wait1 = refl; after_wait2 = refl };
  ksk = record { accepted = refl; after_start = refl; after_wait1 = refl; after_wait2 = refl };
  ksk_double_ds = record { accepted = refl; after_start = refl; after_wait1 = refl; after_wait2 = refl };
  to_csk = record { accepted = refl; after_start = refl; after_wait1 = refl; after_wait2 = refl };
  csk = record { accepted = refl; after_start = refl; after_wait1 = refl; after_wait2 = refl };
}

pub returns-clause-refused : goal.returns-clause-refused
returns-clause-refused c = record {
  too_early = refl;
  listed_twice = refl;
  missing_between = refl;
  in_both_lists = refl;
  without_zsk = refl;
  running = refl;
  conflicting = refl;
  zsk_in_a_ksk_roll = refl;
  another_algorithm = refl;
  future_zsk_alone = refl;
  same_tag = refl;
  same_reference = refl;
  double_ds_too_early = refl;
  double_ds_accepted = refl;
  double_signatures_too_early = refl;
  double_signatures_accepted = refl;
  future_key_is_passed_over = refl;
  unseen_key_is_missed = refl;
  greatest_rest = refl;
  beside_each_other = refl;
  ended = refl;
}
