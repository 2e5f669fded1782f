use Rattle.std.proofs.lemmas.Cmp.{on_total, nat_list_cmp_total}
use Rattle.definitions.specs.Dnskey.{dnskey_data}
use Rattle.denial_data.proofs.orders.dnskey_order_is_total.Goals as goal

pub returns : goal.returns
returns g c = on_total dnskey_data nat_list_cmp_total
