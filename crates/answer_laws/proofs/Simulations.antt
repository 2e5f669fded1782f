-- Runs of events over an accepted zone keep what a simulation promises.
use Rattle.std.proofs.Common.{◌≡◌, suc, List, [], ◌∷◌, length, refl, ap}
use Rattle.messages.specs.HandedRr.{HandedRr}
use Rattle.answer_publisher.specs.World.{World}
use Rattle.answer_events.specs.declared.event.Event.{Event}
use Rattle.answer_outcomes.specs.declared.outcome.Outcome.{Outcome}
use Rattle.answer_laws.specs.HonestBytes.{VerdictsHonest}
use Rattle.answer_laws.specs.OneState.{VerdictsAlong}
use Rattle.answer_laws.specs.Simulating.{Simulates, Sofar, begin}
use Rattle.answer_laws.specs.Simulations.{IsSimulation, IsZoneOf}
use Rattle.answer_laws.specs.ThroughRolls.{VerdictsThrough, no_history}
use Rattle.answer_laws.specs.Versions.{NeverReplaced, first_story}
use Rattle.answer_laws.proofs.VersionsAlong.{only_first, unchanged_along, versions_along}

one_each : (w : World) (s : Sofar) (es : List Event) (os : List Outcome) (u : Sofar) → Simulates w s es os u → length os ≡ length es
one_each w s [] [] u run = refl
one_each w s (e ∷ es) (o ∷ os) u run = ap suc (one_each w run.0 es os u run.2)
one_each w s [] (o ∷ os) u run = absurd run
one_each w s (e ∷ es) [] u run = absurd run

-- where no replacement is accepted
unchanged : (w : World) (rs : List HandedRr) (es : List Event) (os : List Outcome) (u : Sofar) (run : Simulates w (begin w.zone) es os u) → IsZoneOf w rs → NeverReplaced os
    → VerdictsAlong w rs [] (begin w.zone) es os u run × VerdictsThrough w rs no_history [] (begin w.zone) es os u run × VerdictsHonest w rs [] [] (begin w.zone) es os u run
unchanged w rs es os u run zone never = unchanged_along w rs (first_story rs) [] (begin w.zone) es os u run zone (only_first rs) refl never (versions_along w rs es os u run zone)

pub runs_are_simulations : (w : World) (rs : List HandedRr) (es : List Event) (os : List Outcome) (end : Sofar) → IsZoneOf w rs → Simulates w (begin w.zone) es os end → IsSimulation w rs es os
runs_are_simulations w rs es os end zone run = record {
  zone = zone;
  each = one_each w (begin w.zone) es os end run;
  end = end;
  simulates = run;
  one_state = λ never u r. (unchanged w rs es os u r zone never).0;
  through_rolls = λ never u r. (unchanged w rs es os u r zone never).1;
  no_false = λ never u r. (unchanged w rs es os u r zone never).2;
  versions = λ u r. versions_along w rs es os u r zone;
}
