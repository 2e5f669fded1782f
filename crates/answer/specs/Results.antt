-- Outcomes of a run, and what was shown, each thing by the place of its outcome.
use Rattle.std.specs.Prelude.{ℕ, List, [], Option, Some, None, IsSome, map, slice_get, unwrap_or}
use Rattle.definitions.specs.Dnskey.{Ds}
use Rattle.answer_outcomes.specs.declared.outcome.Outcome.{Outcome}
use Rattle.answer_outcomes.specs.declared.outcome.Outcome.TheVariants as outcome
use Rattle.answer.specs.declared.simulation.results.Shown.{Shown as CodeShown}
use Rattle.answer.specs.declared.simulation.results.Shown.TheVariants as code
use Rattle.answer_laws.specs.Simulating.{Shown, OfParent, OfKeys, OfZone}
use Rattle.messages.specs.Questions.{asked_of}

-- the DS set of an outcome, if there is one
abbrev pub set_of : Option Outcome → Option (List Ds)
set_of (Some (outcome.Ds place set)) = Some set.items
set_of _ = None

-- the octets of an outcome's message, if there is one
abbrev pub octets_of : Option Outcome → Option (List ℕ)
octets_of (Some (outcome.Message place octets)) = Some octets.items
octets_of _ = None

-- what was shown stands at the place of its outcome
abbrev pub IsThere : List Outcome → CodeShown → Type 0
IsThere os (code.OfParent place) = IsSome (set_of (slice_get os place))
IsThere os (code.OfKeys place) = IsSome (octets_of (slice_get os place))
IsThere os (code.OfZone question place) = IsSome (octets_of (slice_get os place))

-- what was shown, by the outcome at its place
abbrev pub shown_of : List Outcome → CodeShown → Shown
shown_of os (code.OfParent place) = OfParent (unwrap_or (set_of (slice_get os place)) [])
shown_of os (code.OfKeys place) = OfKeys (unwrap_or (octets_of (slice_get os place)) [])
shown_of os (code.OfZone question place) = OfZone (asked_of question.now) (unwrap_or (octets_of (slice_get os place)) [])

-- the outcomes so far, and the things shown in order of place
pub record Results : Type 0 where
  pub outcomes : List Outcome
  pub shown : List Shown

abbrev pub results : List Outcome → List CodeShown → Results
results os ss = record { outcomes = os; shown = map (shown_of os) ss }
