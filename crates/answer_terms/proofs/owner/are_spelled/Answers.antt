use Rattle.std.proofs.Common.{refl, arith}
use Rattle.answer_terms.proofs.Octets.{are_octets}
use Rattle.answer_terms.proofs.HashOwners.{label_spells}
use Rattle.answer_terms.proofs.owner.are_spelled.Goals as goal

pub returns-clause-spelled : goal.returns-clause-spelled
returns-clause-spelled c = (label_spells c.args.label.now c.args.octets.now (are_octets c.args.octets.now c.args.octets.now refl (λ i. omega (arith, c.type_inv.octets i))) c.requires).0

pub returns-clause-octets : goal.returns-clause-octets
returns-clause-octets c = (label_spells c.args.label.now c.args.octets.now (are_octets c.args.octets.now c.args.octets.now refl (λ i. omega (arith, c.type_inv.octets i))) c.requires).1
