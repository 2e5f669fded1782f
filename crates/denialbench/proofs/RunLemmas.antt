-- What a run prints of a session.
use Rattle.std.proofs.Common.{◌≡◌, ℕ, List, [], ◌∷◌, refl, inl, inr}
use Rattle.std.specs.Prelude.{map, codes, ◌++◌}
use Rattle.std.specs.List.{flat_map}
use Rattle.denial_nsec3_sha1.specs.Iterated.{answered}
use Rattle.messages.specs.HandedRr.{HandedRr}
use Rattle.answer_zone_records.specs.Faults.{IsFault}
use Rattle.answer_zone_records.specs.declared.fault.ZoneFault.{ZoneFault}
use Rattle.answer.specs.Simulations.{IsSimulation}
use Rattle.answer_events.specs.declared.event.Event.{Event}
use Rattle.answer.specs.Outcome.{Outcome}
use Rattle.session_grammar.specs.Grammar.{ZoneLine}
use Rattle.session_grammar.specs.Readings.{event_view}
use Rattle.printed_outcomes.specs.Names.{zone_fault_name}
use Rattle.printed_outcomes.specs.Printed.{outcome_text}
use Rattle.denialbench.specs.Responses.{PrintsSession, bench}

pub outcomes_printed : (zone : ZoneLine) (records : List HandedRr) (acted : List Event) (outcomes : List Outcome) → IsSimulation (bench zone records) records acted outcomes
    → (text : List ℕ) → text ≡ flat_map (λ o. outcome_text o ++ 10 ∷ []) outcomes → PrintsSession zone records (map event_view acted) text
outcomes_printed zone records acted outcomes is text printed = inl (record { acted = acted; acts_are = refl; outcomes = outcomes; simulation = is; printed = printed })

pub fault_printed : (zone : ZoneLine) (records : List HandedRr) (acted : List Event) (fault : ZoneFault) → IsFault answered zone.apex zone.mode zone.limit records fault
    → (text : List ℕ) → text ≡ codes "refused " ++ zone_fault_name fault ++ 10 ∷ [] → PrintsSession zone records (map event_view acted) text
fault_printed zone records acted fault is text printed = inr (record { fault = fault; is_fault = is; printed = printed })
