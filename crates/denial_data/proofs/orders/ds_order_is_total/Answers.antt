use Rattle.std.proofs.lemmas.Cmp.{on_total, nat_list_cmp_total}
use Rattle.denial_keys.specs.Keys.{ds_data}
use Rattle.denial_data.proofs.orders.ds_order_is_total.Goals as goal

pub returns : goal.returns
returns g c = on_total ds_data nat_list_cmp_total
