-- What a server answers to a query.
use Rattle.std.specs.Prelude.{◌≡◌, ◌≢◌, ◌⊎◌, ◌↔◌, ℕ, ◌<◌, Bool, true, false, ◌&&◌, ◌||◌, ◌==◌, List, length, Option}
use Rattle.definitions.specs.Name.{Name, same}
use Rattle.messages.specs.HandedRr.{HandedRr}
use Rattle.messages.specs.Message.{Asked}
use Rattle.answer_publisher_keys.specs.Bindings.{ZoneKeys}
use Rattle.answer_publisher.specs.Aliases.{is_answered}
use Rattle.answer_publisher.specs.Inputs.{Input, answer_inputs, keys_inputs}
use Rattle.answer_publisher.specs.Replacing.{noted}
use Rattle.answer_publisher.specs.World.{AnswersKeysQuestion, AnswersQuestion, RefusesKeysQuestion, RefusesQuestion, SpellsAnswer, SpellsKeys, World}
use Rattle.answer_publisher.specs.declared.fault.AnswerFault.{AnswerFault}
use Rattle.answer_publisher.specs.declared.fault.AnswerFault.TheVariants.{Memory, QuestionNotAllowed}
use Rattle.server_queries.specs.Queries.{Queried}
use Rattle.server_responses.specs.Responses.{error_response, is_dnssec_ok}
use Rattle.server_signatures.specs.Outcomes.{AnswersEach, AnswersKeysEach, RefusesEach, RefusesKeysEach, signed_by}
use Rattle.server_signatures.specs.Table.{Made, missing}
use Rattle.server_answers.specs.Blank.{sign_blank, verify_blank}
use Rattle.server_answers.specs.Glued.{AnswersGlued}
use Rattle.server_answers.specs.declared.requests.Response.{Response}
use Rattle.server_answers.specs.declared.requests.Response.TheVariants.{Nothing, Reply, Sign}

-- What a server answers by: the world and the keys of its publisher, a table of signatures, the moment that everything is of, how
-- many octets a response may have and this server takes, and the addresses of the zone.
pub record Serving : Type 0 where
  pub world : World
  pub keys : ZoneKeys
  pub table : List Made
  pub at : ℕ
  pub limit : ℕ
  pub size : ℕ
  pub addresses : List HandedRr

abbrev pub serving : World → ZoneKeys → List Made → ℕ → ℕ → ℕ → List HandedRr → Serving
serving world keys table at limit size addresses =
    record { world = world; keys = keys; table = table; at = at; limit = limit; size = size; addresses = addresses }

-- a question for the DNSKEY RRset of the apex
abbrev pub is_for_keys : Name → Asked → Bool
is_for_keys apex asked = (asked.rtype == 48) && (asked.class == 1) && same asked.name apex

-- a question that is answered: for the keys of the zone, or one that its publisher answers
abbrev pub may_answer : Name → Asked → Bool → Bool
may_answer apex asked keys = keys || is_answered apex asked

-- a fault says that the question is not allowed exactly where that is so
abbrev pub TellsAllowed : Name → Asked → Bool → AnswerFault → Type 0
TellsAllowed apex asked keys f = (f ≡ QuestionNotAllowed) ↔ (may_answer apex asked keys ≡ false)

-- the same world, in which signatures have no octets
abbrev pub unsigned : World → World
unsigned w = signed_by w sign_blank verify_blank

-- the message of which a response is made: with DO the publisher's under each scheme that signs as the table says; without DO one
-- whose signatures have no octets, of which the response has none
abbrev pub IsMessage : Serving → Asked → Bool → Bool → List ℕ → Type 0
IsMessage s asked true true m = AnswersKeysEach s.table s.world s.keys s.at m
IsMessage s asked true false m = AnswersKeysQuestion (unsigned s.world) s.keys s.at m × SpellsKeys (unsigned s.world) s.keys s.at m
IsMessage s asked false true m = AnswersEach s.table s.world s.keys s.at asked m
IsMessage s asked false false m = AnswersQuestion (unsigned s.world) s.keys s.at asked m × SpellsAnswer (unsigned s.world) s.keys s.at asked m

-- why there is none
abbrev pub IsFault : Serving → Asked → Bool → Bool → AnswerFault → Type 0
IsFault s asked true true f = RefusesKeysEach s.table s.world s.keys s.at f
IsFault s asked true false f = RefusesKeysQuestion (unsigned s.world) s.keys s.at f
IsFault s asked false true f = RefusesEach s.table s.world s.keys s.at asked f
IsFault s asked false false f = RefusesQuestion (unsigned s.world) s.keys s.at asked f

-- what the signatures of the message are made over
abbrev pub inputs_for : Serving → Asked → Bool → List Input
inputs_for s asked true = keys_inputs s.world s.keys s.at
inputs_for s asked false = answer_inputs s.world s.keys s.at asked

-- the greatest second of an answer, once a message is made: answers for the keys are not noted
abbrev pub latest_with : Option ℕ → ℕ → Bool → Option ℕ
latest_with latest at true = latest
latest_with latest at false = noted latest at

-- REFUSED, 5, for a question that is not allowed; SERVFAIL, 2, for what else (RFC 1035, 4.1.1)
abbrev pub rcode_of : AnswerFault → ℕ
rcode_of QuestionNotAllowed = 5
rcode_of _ = 2

-- the response of the message, with the glue of a referral
pub record IsAnswered (s : Serving) (q : Queried) (old new : Option ℕ) (octets : List ℕ) : Type 0 where
  pub allowed : may_answer s.world.zone.apex q.asked (is_for_keys s.world.zone.apex q.asked) ≡ true
  pub m : List ℕ
  pub is_message : IsMessage s q.asked (is_for_keys s.world.zone.apex q.asked) (is_dnssec_ok q) m
  pub answers : AnswersGlued s.limit s.size q s.addresses m octets
  pub noted_is : new ≡ latest_with old s.at (is_for_keys s.world.zone.apex q.asked)

-- a reply that says why there is none
pub record IsFailed (s : Serving) (q : Queried) (old new : Option ℕ) (octets : List ℕ) : Type 0 where
  pub f : AnswerFault
  pub is_fault : IsFault s q.asked (is_for_keys s.world.zone.apex q.asked) (is_dnssec_ok q) f
  pub tells_allowed : TellsAllowed s.world.zone.apex q.asked (is_for_keys s.world.zone.apex q.asked) f
  pub enough_memory : f ≢ Memory
  pub octets_are : octets ≡ error_response s.size q (rcode_of f)
  pub unchanged : new ≡ old

-- What answers a query by what the zone holds: a reply; or, with DO, a wish for all signatures that the table lacks, one at least.
-- `old` and `new` are the greatest seconds of an answer before the call and behind it.
abbrev pub AnswersHeld : Serving → Queried → Option ℕ → Option ℕ → Response → Type 0
AnswersHeld s q old new Nothing = ⊥
AnswersHeld s q old new (Reply v) = IsAnswered s q old new v.items ⊎ IsFailed s q old new v.items
AnswersHeld s q old new (Sign v) =
    (is_dnssec_ok q ≡ true) × (v.items ≡ missing s.table (inputs_for s q.asked (is_for_keys s.world.zone.apex q.asked))) × (0 < length v.items) × (new ≡ old)
    × (may_answer s.world.zone.apex q.asked (is_for_keys s.world.zone.apex q.asked) ≡ true)
