use Rattle.std.proofs.Common.{refl}
use Rattle.names_labels.proofs.Rooted.{only_root}
use Rattle.names_flat.proofs.name.Name.is_root.Goals as goal

pub returns : goal.returns
returns g c = only_root c.args.self.now c.as_slice.result.now _ c.as_slice.ensures.value refl
