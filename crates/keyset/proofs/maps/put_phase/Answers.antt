use Rattle.keyset.proofs.KeyMaps.{by_kind-put, kind_eq, kind_tied}
use Rattle.keyset.proofs.maps.put_phase.Goals as goal

pub returns-clause-ok : goal.returns-clause-ok
returns-clause-ok c =
    by_kind-put kind_eq kind_tied c.args.rollstates.now.entries c.insert.new.self.entries c.args.rolltype c.args.state c.in_ok-insert.ensures.updates.0
