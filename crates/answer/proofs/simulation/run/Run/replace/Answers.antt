use Rattle.std.proofs.Common.{refl, sym, map, ◌∙◌}
use Rattle.messages.specs.HandedRr.{handed_of}
use Rattle.answer_zone.specs.HashedZone.{accepted_zone}
use Rattle.answer.proofs.RefusedAhead.{refuses_ahead}
use Rattle.answer.proofs.simulation.run.Run.replace.Goals as goal

pub returns-in-Some-clause-replaces : goal.returns-in-Some-clause-replaces
returns-in-Some-clause-replaces g c =
    let p = c.args.self.now.publisher in
    (refuses_ahead (g.H.Nsec3Hasher.hash_of p.zone.hasher) (accepted_zone p.zone) p.latest c.args.at.now (map handed_of c.args.records.now) c.in-Some.fault (sym c.refused_ahead.ensures ∙ c.in-Some.is), refl)
