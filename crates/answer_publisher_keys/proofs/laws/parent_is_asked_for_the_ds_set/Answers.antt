use Rattle.answer_publisher_keys.proofs.Asking.{asks_for_ds_set, asks_what_rolls_wait_for}
use Rattle.answer_publisher_keys.proofs.laws.parent_is_asked_for_the_ds_set.Goals as goal

pub returns : goal.returns
returns c = record { sets = asks_for_ds_set; waits = asks_what_rolls_wait_for }
