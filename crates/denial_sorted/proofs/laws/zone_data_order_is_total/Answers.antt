use Rattle.std.proofs.lemmas.Cmp.{on_total, nat_list_cmp_total}
use Rattle.plain.specs.ZoneData.{zone_canonical}
use Rattle.denial_sorted.proofs.laws.zone_data_order_is_total.Goals as goal

pub returns : goal.returns
returns g c = on_total (zone_canonical g.N.Labels.name) nat_list_cmp_total
