use Rattle.keyset.proofs.Asking.{cds_comes_with_ds, created_cds_asks, removed_cds_asks_not}
use Rattle.keyset.proofs.laws.parent_is_asked.Goals as goal

pub returns : goal.returns
returns c = record { with_ds = cds_comes_with_ds; created = created_cds_asks; removed = removed_cds_asks_not }
