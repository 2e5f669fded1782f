use Rattle.std.proofs.Common.{◌≡◌, sym, arith, rules}
use Rattle.answer_terms.proofs.Octets.{are_octets}
use Rattle.answer_zone_records.proofs.hash_chain.HashedLink.new.Goals as goal

pub returns-clause-octets : goal.returns-clause-octets
returns-clause-octets c =
    let same : c.in_ok-to_vec.field-0.items ≡ c.args.hash.now = search rules in
    are_octets c.args.hash.now c.in_ok-to_vec.field-0.items (sym same) (λ k. omega (arith, c.type_inv.hash k))
