use Rattle.keyset.proofs.KeyMaps.{by_kind-removed, kind_eq, kind_tied}
use Rattle.keyset.proofs.maps.remove_phase.Goals as goal

pub returns : goal.returns
returns c = by_kind-removed kind_eq kind_tied c.args.rollstates.now.entries c.remove.new.self.entries c.args.rolltype c.remove.ensures.updates.0
