use Rattle.std.proofs.lemmas.Cmp.{on_total, nat_list_cmp_total}
use Rattle.denial_nsec_data.specs.Hashed.{nsec3param_octets}
use Rattle.denial_data.proofs.orders.nsec3param_order_is_total.Goals as goal

pub returns : goal.returns
returns g c = on_total nsec3param_octets nat_list_cmp_total
