-- What a simulation of events over a zone promises of its outcomes.
use Rattle.std.specs.Prelude.{◌≡◌, ◌<◌, List, length}
use Rattle.std.specs.List.{AllByRecursion}
use Rattle.definitions.specs.Name.{IsName}
use Rattle.messages.specs.Handed.{IsHanded}
use Rattle.messages.specs.HandedRr.{HandedRr}
use Rattle.answer_terms.specs.Accepted.{IsAccepted}
use Rattle.answer_judge.specs.Meeting.{zone_from}
use Rattle.answer_publisher.specs.World.{World}
use Rattle.answer_events.specs.declared.event.Event.{Event}
use Rattle.answer_outcomes.specs.declared.outcome.Outcome.{Outcome}
use Rattle.answer_laws.specs.HonestBytes.{NoFalseVerdicts}
use Rattle.answer_laws.specs.OneState.{SaysVerdicts}
use Rattle.answer_laws.specs.Simulating.{Simulates, Sofar, begin}
use Rattle.answer_laws.specs.ThroughRolls.{VerdictsHoldThroughRolls}
use Rattle.answer_laws.specs.Versions.{NeverReplaced, SaysVersions}

-- The zone is the one that records spell: they are accepted, with its chain. Iterations are numbers of 16 bits (RFC 5155, 3.1.3).
pub record IsZoneOf (w : World) (rs : List HandedRr) : Type 0 where
  pub apex_is : IsName w.zone.apex
  pub records_are : AllByRecursion IsHanded rs
  pub short_limit : w.zone.limit < 65536
  pub accepted : IsAccepted w.answers.hash w.zone.apex w.zone.mode w.zone.limit rs
  pub zone_is : w.zone ≡ zone_from w.zone.apex w.zone.mode w.zone.limit rs

-- Outcomes of events over the zone of these records, one an event, each what the definitions say of its event. Where no
-- replacement is accepted the zone has these records throughout: while the signatures hold, a judgement of things of one state
-- of the keys, which meet, says the zone's verdict; so does one of things of any three states, none of them retired, beside a
-- DS set that isn't empty. Of messages in which nothing is forged no judgement beside such a DS set says another verdict. Where the
-- records are replaced, the same holds of the versions of the zone.
pub record IsSimulation (w : World) (rs : List HandedRr) (es : List Event) (os : List Outcome) : Type 0 where
  pub zone : IsZoneOf w rs
  pub each : length os ≡ length es
  pub end : Sofar
  pub simulates : Simulates w (begin w.zone) es os end
  pub one_state : NeverReplaced os → SaysVerdicts w rs es os
  pub through_rolls : NeverReplaced os → VerdictsHoldThroughRolls w rs es os
  pub no_false : NeverReplaced os → NoFalseVerdicts w rs es os
  pub versions : SaysVersions w rs es os

-- whatever outcomes the definitions allow, event by event, keep the rest of it
abbrev pub RunsAreSimulations : Type 0
RunsAreSimulations = (w : World) (rs : List HandedRr) (es : List Event) (os : List Outcome) (end : Sofar) → IsZoneOf w rs → Simulates w (begin w.zone) es os end → IsSimulation w rs es os
