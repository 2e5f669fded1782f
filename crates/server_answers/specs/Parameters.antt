-- What a server answers to a question for the NSEC3PARAM RRset of its zone.
use Rattle.std.specs.Prelude.{◌≡◌, ℕ, ◌<◌, Bool, true, false, not, ◌&&◌, ◌==◌, List, length, Option, Some, Result, Ok, Err}
use Rattle.definitions.specs.Name.{Name, same}
use Rattle.definitions.specs.ZoneChain.{Mode}
use Rattle.answer_zone.specs.Finding.{links_names}
use Rattle.messages.specs.Message.{Asked}
use Rattle.answer_publisher.specs.Parameters as of
use Rattle.answer_publisher.specs.declared.fault.AnswerFault.{AnswerFault}
use Rattle.server_queries.specs.Queries.{Queried}
use Rattle.server_responses.specs.Responses.{is_dnssec_ok}
use Rattle.server_signatures.specs.Outcomes.{AnswersParametersEach, RefusesParametersEach}
use Rattle.server_signatures.specs.Table.{missing}
use Rattle.server_signatures.specs.declared.answering.Signed.{Signed}
use Rattle.server_signatures.specs.declared.answering.Signed.TheVariants.{Message, Missing}
use Rattle.server_answers.specs.MadeOf.{IsMadeOf}
use Rattle.server_answers.specs.Responding.{Serving, unsigned}
use Rattle.server_answers.specs.declared.requests.Response.{Response}

-- a question for the NSEC3PARAM RRset of the apex, which a chain of hashes has (RFC 5155, 4)
abbrev pub is_for_parameters : Name → Mode → Asked → Bool
is_for_parameters apex mode asked = (asked.rtype == 51) && (asked.class == 1) && same asked.name apex && not (links_names mode)

-- The message for it: with DO the publisher's under each scheme that signs as the table says; without DO one whose signatures have no
-- octets, of which the response has none.
abbrev pub IsParameters : Serving → Bool → List ℕ → Type 0
IsParameters s true m = AnswersParametersEach s.table s.world s.keys s.at m
IsParameters s false m = of.AnswersParameters (unsigned s.world) s.keys s.at (Some m) × of.SpellsParameters (unsigned s.world) s.keys s.at (Some m)

-- why there is none
abbrev pub HasNoParameters : Serving → Bool → AnswerFault → Type 0
HasNoParameters s true f = RefusesParametersEach s.table s.world s.keys s.at f
HasNoParameters s false f = of.RefusesParameters (unsigned s.world) s.keys s.at f

-- a message; with DO, what the table lacks for it, one signature at least; or why there is none
abbrev pub MakesParameters : Serving → Bool → Result Signed AnswerFault → Type 0
MakesParameters s dnssec_ok (Ok (Message m)) = IsParameters s dnssec_ok m.items
MakesParameters s dnssec_ok (Ok (Missing v)) = (dnssec_ok ≡ true) × (v.items ≡ missing s.table (of.parameters_inputs s.world s.keys s.at)) × (0 < length v.items)
MakesParameters s dnssec_ok (Err f) = HasNoParameters s dnssec_ok f

-- What answers such a question: what is said of a message, of what is missing for it, or of a fault. The moment is not noted.
abbrev pub RespondsWithParameters : Serving → Queried → Option ℕ → Option ℕ → Response → Type 0
RespondsWithParameters s q old new response =
    (made : Result Signed AnswerFault) × MakesParameters s (is_dnssec_ok q) made × IsMadeOf s.limit s.size q s.addresses made response × (new ≡ old)
