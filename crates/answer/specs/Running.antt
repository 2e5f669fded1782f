-- How a run of the code is seen.
use Rattle.std.specs.Prelude.{◌≡◌, ◌++◌, ◌∷◌, [], ℕ, Bool, List, Option}
use Rattle.definitions.specs.Dnskey.{Dnskey}
use Rattle.answer_events.specs.declared.event.Act.{Act}
use Rattle.answer_outcomes.specs.declared.outcome.Outcome.{Outcome}
use Rattle.answer.specs.declared.simulation.results.Thing.{Thing}
use Rattle.answer.specs.declared.simulation.results.Thing.TheVariants as thing
use Rattle.answer.specs.declared.simulation.run.Run.{Run}
use Rattle.answer.specs.Results.{Results}
use Rattle.answer_publisher.specs.declared.publishing.Publisher.{Publisher}
use Rattle.answer_publisher.specs.World.{World, world_of}
use Rattle.answer_laws.specs.Simulating.{Shown, OfParent, OfKeys, OfZone, Sofar, StepOf}
use Rattle.messages.specs.Questions.{asked_of}

abbrev pub thing_of : Thing → Shown
thing_of (thing.OfParent set) = OfParent set.now
thing_of (thing.OfKeys octets) = OfKeys octets.now
thing_of (thing.OfZone question octets) = OfZone (asked_of question.now) octets.now

-- the keys and the records of a publisher, its latest answer, and the things shown in order of place
abbrev pub sofar : {S H : Type 0} → Publisher S H → Results → Sofar
sofar p results = record { keys = p.keys; records = p.zone.records; latest = p.latest; shown = results.shown }

abbrev pub sofar_in : {S H : Type 0} → Run S H → Sofar
sofar_in r = sofar r.publisher r.results

-- the world that it runs in, by what scheme and hasher answer
abbrev pub world_in : {S H : Type 0} → (S → Dnskey → List ℕ → Option (List ℕ)) → (S → Dnskey → List ℕ → List ℕ → Bool) → (S → ℕ → List ℕ → Option (List ℕ)) → (H → List ℕ → ℕ → ℕ → List ℕ → Option (List ℕ)) → Run S H → World
world_in sign verifies digest hash r = world_of sign verifies digest hash r.publisher

-- an act adds an outcome, which is what comes of it
abbrev pub Serves : {S H : Type 0} → World → Run S H → ℕ → Act → Run S H → Type 0
Serves w old at act new = (o : Outcome) × (new.results.outcomes ≡ old.results.outcomes ++ o ∷ []) × StepOf w (sofar_in old) at act o (sofar_in new)
