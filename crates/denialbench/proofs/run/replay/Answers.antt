use Rattle.std.proofs.Common.{List, ap, map, subst, string_bytes, ◌∙◌, ◌++◌, ◌∷◌, []}
use Rattle.std.specs.List.{flat_map}
use Rattle.std.proofs.lemmas.Result.{IfOk-weaker}
use Rattle.messages.specs.HandedRr.{handed_of}
use Rattle.answer.specs.Simulations.{IsSimulation}
use Rattle.answer_events.specs.declared.event.Event.{Event}
use Rattle.answer.specs.Outcome.{Outcome}
use Rattle.session_grammar.specs.Readings.{zone_view}
use Rattle.printed_outcomes.specs.Printed.{outcome_text}
use Rattle.denialbench.specs.Responses.{bench}
use Rattle.denialbench.proofs.RunLemmas.{outcomes_printed}
use Rattle.denialbench.proofs.run.replay.Goals as goal

pub returns-in-Ok : goal.returns-in-Ok
returns-in-Ok c =
    let session = c.args.session in
    let zone = zone_view session.zone in
    let records = map handed_of session.records.items in
    let outcomes = c.in-Ok.outcomes.items in
    let Is : List Event → Type 0 = λ events. IsSimulation (bench zone records) records events outcomes in
    let is = subst Is c.deref.ensures.value c.in-Ok.ensures.simulation in
    let lines = λ (os : List Outcome). flat_map (λ o. outcome_text o ++ 10 ∷ []) os in
    IfOk-weaker c.outcomes_text.result _ _ (λ t text. outcomes_printed zone records session.events.items outcomes is (string_bytes t) (text ∙ ap lines c.deref-in-Ok.ensures.value)) c.outcomes_text.ensures
