use Rattle.std.proofs.lemmas.Cmp.{on_total, nat_list_cmp_total}
use Rattle.denial_sorted.proofs.laws.unknown_data_order_is_total.Goals as goal

pub returns : goal.returns
returns g c = on_total (λ d. d.octets) nat_list_cmp_total
