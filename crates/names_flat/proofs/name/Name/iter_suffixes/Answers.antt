use Rattle.names_flat.proofs.Ancestors.{left_of_name, flat_left}
use Rattle.names_flat.proofs.name.Name.iter_suffixes.Goals as goal

pub invariant_of-result : goal.invariant_of-result
invariant_of-result g c = flat_left c.as_slice.result.now c.args.self.now c.as_slice.ensures.value c.as_slice.ensures.name

pub returns : goal.returns
returns g c = left_of_name c.as_slice.result.now c.args.self.now c.as_slice.ensures.value c.as_slice.ensures.name
