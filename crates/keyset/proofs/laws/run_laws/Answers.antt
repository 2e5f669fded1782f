use Rattle.keyset.proofs.KeyRunEnds.{roles_keep, rolls_run_together, waits_count}
use Rattle.keyset.proofs.laws.run_laws.Goals as goal

pub returns : goal.returns
returns c = record {
  waits_count_from_reports = waits_count;
  roles_keep = roles_keep;
  rolls_run_together = rolls_run_together;
}
