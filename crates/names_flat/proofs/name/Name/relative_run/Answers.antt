use Rattle.names_flat.proofs.Splits.{name_run, name_labels, without_root}
use Rattle.names_flat.proofs.name.Name.relative_run.Goals as goal

pub returns-clause-run : goal.returns-clause-run
returns-clause-run g c = name_run _ c.args.self.now (without_root c.args.self.now c.as_slice-octets.result.now c.as_slice-octets.ensures.value) c.as_slice-octets.ensures.name

pub returns-clause-labels : goal.returns-clause-labels
returns-clause-labels g c = name_labels _ c.args.self.now (without_root c.args.self.now c.as_slice-octets.result.now c.as_slice-octets.ensures.value)
