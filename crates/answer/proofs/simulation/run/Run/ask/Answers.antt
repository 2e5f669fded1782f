use Rattle.std.proofs.Common.{◌≡◌, OnOk, length, true, false, Bool, refl, ap}
use Rattle.std.specs.Prelude.{Ok, IsErrOf}
use Rattle.std.proofs.lemmas.Result.{on_ok_weaker}
use Rattle.messages.specs.Questions.{asked_of}
use Rattle.answer_events.specs.declared.event.Act.TheVariants as act
use Rattle.answer_outcomes.specs.declared.outcome.Outcome.TheVariants as outcome
use Rattle.answer_publisher.specs.declared.fault.AnswerFault.TheVariants as refusal
use Rattle.answer_terms.specs.Asking.{is_allowed}
use Rattle.answer.specs.declared.simulation.run.Run.{Run}
use Rattle.answer.specs.Results.{Results}
use Rattle.answer.specs.Running.{Serves, sofar, world_in}
use Rattle.answer.proofs.simulation.run.Run.ask.Goals as goal

-- what doesn't refuse a question is allowed
allowed_so : {T E : Type 0} (x : T) (e : E) (allowed : Bool) → (allowed ≡ false → IsErrOf (Ok x) e) → allowed ≡ true
allowed_so x e true h = refl
allowed_so x e false h = let no : IsErrOf (Ok x) e = h refl in cc

pub returns-in-Ok-clause-step : goal.returns-in-Ok-clause-step
returns-in-Ok-clause-step g c =
    let run = c.args.self.now in
    let there = world_in g.S.Scheme.signature_of g.S.Scheme.verifies g.S.Scheme.digest_of g.H.Nsec3Hasher.hash_of run in
    let asked = asked_of c.args.question.now in
    let served : Run g.row.S.Denot g.row.H.Denot = record run { publisher = c.answer.new.self; results = c.show_answer.new.self } in
    let given = c.in-Ok.ensures in
    let allowed = allowed_so c.in-Ok.octets refusal.QuestionNotAllowed (is_allowed run.publisher.zone.apex asked) given.allowed.1 in
    on_ok_weaker {Q = Serves there run c.args.at.now (act.Ask c.args.question.now) served} c.show_answer.result
    (λ shows. (
      outcome.Message (length run.results.shown) c.in-Ok.octets,
      ap (λ (r : Results). r.outcomes) shows,
      (refl, allowed, c.keeps.ensures, (given.bytes, given.given, given.hashed), λ i. sofar (given.noted i) (shows i)),
    ))
    c.show_answer.ensures
