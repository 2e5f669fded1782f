use Rattle.std.proofs.Common.{◌≡◌, map}
use Rattle.answer_terms.specs.Accepting.{sorted_records}
use Rattle.answer_zone.specs.HashedZone.{accepted_zone}
use Rattle.answer_terms.specs.ModeView.{mode_of}
use Rattle.messages.specs.HandedRr.{handed_of}
use Rattle.answer.specs.Running.{sofar}
use Rattle.answer_laws.specs.Simulating.{begin, now_in}
use Rattle.answer_publisher.specs.World.{World, world}
use Rattle.answer.proofs.SimulateLoop.{GoesOn}
use Rattle.answer.proofs.simulation.simulate.Given as goal

-- all but the zone's records stays, and what follows ends the whole
abbrev pub invariant-loop-event : goal.invariant-loop-event
invariant-loop-event g l =
    let run = l.run in
    let there : World = world (record { apex = l.fn.apex; mode = mode_of l.fn.mode; limit = l.fn.limit; records = sorted_records (map handed_of l.fn.records.items) }) l.fn.life (g.S.Scheme.signature_of l.scheme) (g.S.Scheme.verifies l.scheme) (g.S.Scheme.digest_of l.scheme) (g.H.Nsec3Hasher.hash_of l.hasher) in
    record {
      limit : run.limit ≡ run.publisher.zone.limit;
      same : world (accepted_zone run.publisher.zone) run.publisher.life (g.S.Scheme.signature_of run.publisher.scheme.now) (g.S.Scheme.verifies run.publisher.scheme.now) (g.S.Scheme.digest_of run.publisher.scheme.now) (g.H.Nsec3Hasher.hash_of run.publisher.zone.hasher) ≡ now_in there (sofar run.publisher run.results);
      follows : GoesOn there (begin there.zone) l.events run.results.outcomes l.event-index (sofar run.publisher run.results);
    }
