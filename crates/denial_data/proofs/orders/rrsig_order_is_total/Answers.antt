use Rattle.std.proofs.lemmas.Cmp.{on_total, nat_list_cmp_total}
use Rattle.denial_data.specs.RrsigData.{rrsig_canonical}
use Rattle.denial_data.proofs.orders.rrsig_order_is_total.Goals as goal

pub returns : goal.returns
returns g c = on_total (rrsig_canonical g.N.Labels.name) nat_list_cmp_total
