use Rattle.std.proofs.Common.{OnOk, subst, sym}
use Rattle.std.proofs.lemmas.Result.{on_ok_weaker}
use Rattle.answer_events.specs.declared.event.Act.{Act}
use Rattle.answer_events.specs.declared.event.Act.TheVariants as act
use Rattle.answer.specs.Running.{Serves, world_in}
use Rattle.answer.proofs.simulation.run.Run.serve.Goals as goal

pub returns-in-ShowDs-clause-step : goal.returns-in-ShowDs-clause-step
returns-in-ShowDs-clause-step g c =
    let run = c.args.self.now in
    let at = c.args.event.now.at in
    let there = world_in g.S.Scheme.signature_of g.S.Scheme.verifies g.S.Scheme.digest_of g.H.Nsec3Hasher.hash_of run in
    let Served : Act → Type 0 = λ a. Serves there run at a c.show_ds.new.self in
    let step = on_ok_weaker {Q = Served act.ShowDs} c.show_ds.result (λ all. all at) c.show_ds.ensures.step in
    subst (λ (a : Act). OnOk c.show_ds.result (Served a)) (sym c.in-ShowDs.is) step
