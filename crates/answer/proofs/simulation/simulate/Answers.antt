use Rattle.std.proofs.Common.{◌≡◌, List, rules, map, subst, sym, ap, ◌∙◌}
use Rattle.answer_terms.specs.Accepting.{sorted_records}
use Rattle.answer_zone.specs.HashedZone.{accepted_zone}
use Rattle.answer_terms.specs.ModeView.{mode_of}
use Rattle.messages.specs.HandedRr.{HandedRr, handed_of}
use Rattle.answer.specs.Running.{sofar}
use Rattle.answer_laws.specs.Simulating.{begin, with_records}
use Rattle.answer_laws.specs.Simulations.{IsSimulation}
use Rattle.answer_publisher.specs.World.{World, world}
use Rattle.answer.proofs.SimulateLoop.{step_on, step_at, at_end}
use Rattle.answer_laws.proofs.Judgements.{zone_known}
use Rattle.answer_laws.proofs.Simulations.{runs_are_simulations}
use Rattle.answer.proofs.simulation.simulate.Goals as goal

pub loop-event-preserved : goal.loop-event-preserved
loop-event-preserved g c =
    let run = c.loop-event.run in
    let there : World = world (record { apex = c.args.apex; mode = mode_of c.args.mode; limit = c.args.limit; records = sorted_records (map handed_of c.args.records.items) }) c.args.life (g.S.Scheme.signature_of c.args.scheme.now) (g.S.Scheme.verifies c.args.scheme.now) (g.S.Scheme.digest_of c.args.scheme.now) (g.H.Nsec3Hasher.hash_of c.args.hasher.now) in
    let next = c.serve.new.self in
    let before = sofar run.publisher run.results in
    let after = sofar next.publisher next.results in
    let events = c.args.events.now in
    let index = c.loop-event.event-index in
    let event = c.event-item.result in
    let served = c.in-Ok.ensures.step in
    let outcome = served.0 in
    let step = step_at _ there before after events index event outcome c.loop-event.invariant.same c.event-item.is served.2 in
    let now : World = world (accepted_zone run.publisher.zone) run.publisher.life (g.S.Scheme.signature_of run.publisher.scheme.now) (g.S.Scheme.verifies run.publisher.scheme.now) (g.S.Scheme.digest_of run.publisher.scheme.now) (g.H.Nsec3Hasher.hash_of run.publisher.zone.hasher) in
    let later : World = world (accepted_zone next.publisher.zone) next.publisher.life (g.S.Scheme.signature_of next.publisher.scheme.now) (g.S.Scheme.verifies next.publisher.scheme.now) (g.S.Scheme.digest_of next.publisher.scheme.now) (g.H.Nsec3Hasher.hash_of next.publisher.zone.hasher) in
    let records : List HandedRr = next.publisher.zone.records in
    let moved : later ≡ with_records now records = search rules in
    record {
      limit = search rules;
      same = moved ∙ ap (λ (w : World). with_records w records) c.loop-event.invariant.same;
      follows = step_on there (begin there.zone) events run.results.outcomes next.results.outcomes index before after event outcome c.loop-event-test.true step served.1 c.loop-event.invariant.follows;
    }

pub returns-clause-simulation : goal.returns-clause-simulation
returns-clause-simulation g c =
    let run = c.loop-event.run in
    let rs = map handed_of c.args.records.items in
    let events = c.args.events.now in
    let there : World = world (record { apex = c.args.apex; mode = mode_of c.args.mode; limit = c.args.limit; records = sorted_records rs }) c.args.life (g.S.Scheme.signature_of c.args.scheme.now) (g.S.Scheme.verifies c.args.scheme.now) (g.S.Scheme.digest_of c.args.scheme.now) (g.H.Nsec3Hasher.hash_of c.args.hasher.now) in
    let zone = zone_known c.args.apex (mode_of c.args.mode) c.args.limit rs c.args.life there.sign there.answers c.ranges.limit.fits c.in_ok-publisher.ensures.accepted c.in_ok-publisher.ensures.handed.0 c.in_ok-publisher.ensures.handed.1 in
    let whole = at_end there (begin there.zone) events run.results.outcomes c.loop-event.event-index (sofar run.publisher run.results) c.loop-event-test.false c.loop-event.invariant.follows in
    subst (IsSimulation there rs events) (sym c.into_outcomes.ensures) (runs_are_simulations there rs events run.results.outcomes whole.0 zone whole.1)
