use Rattle.names_builder.specs.Building.{all_labels}
use Rattle.names_builder.proofs.Builds.{under_root}
use Rattle.names_builder.proofs.builder.NameBuilder.into_name_octets.Goals as goal

pub returns-in-Ok : goal.returns-in-Ok
returns-in-Ok g c = under_root (g.B.OctetsBuilder.bytes c.into_octets-octets.result) (g.B.OctetsBuilder.bytes c.append_slice.new.self) (all_labels c.args.self) c.into_octets-octets.ensures c.in-Ok.ensures.ok
