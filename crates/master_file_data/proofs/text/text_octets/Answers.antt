use Rattle.std.proofs.Common.{◌≡◌, [], arith}
use Rattle.std.proofs.lemmas.Grind.{common_steps}
use Rattle.master_file_data.proofs.Steps.{spells_all}
use Rattle.master_file_data.proofs.text.text_octets.Goals as goal

pub returns : goal.returns
returns c =
    let none : c.octets.rest.now ≡ [] = grind (arith, common_steps) in
    spells_all c.args.text.now c.octets.rest.now c.octets.out.items c.octets.invariant none
