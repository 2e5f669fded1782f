-- What a server answers to questions for types of which no zone holds a record at a name that no alias answers for, and for NSEC.
use Rattle.std.specs.Prelude.{◌≡◌, ◌≢◌, ◌⊎◌, MatchBool, ℕ, ◌<◌, Bool, true, false, not, ◌&&◌, ◌||◌, ◌==◌, List, [], ◌∷◌, length, Option, Result, Ok, Err, nat_lt, slice_index}
use Rattle.definitions.specs.Name.{Name}
use Rattle.definitions.specs.ZoneChain.{Mode}
use Rattle.messages.specs.HandedRr.{HandedRr, among}
use Rattle.messages.specs.Message.{Asked}
use Rattle.answer_publisher.specs.Aliases.{is_answered}
use Rattle.answer_publisher.specs.Replacing.{noted}
use Rattle.answer_publisher.specs.declared.fault.AnswerFault.{AnswerFault}
use Rattle.answer_publisher.specs.declared.fault.AnswerFault.TheVariants.{Memory}
use Rattle.server_queries.specs.Queries.{Queried}
use Rattle.server_responses.specs.Links.{is_link_hidden}
use Rattle.server_responses.specs.Responses.{error_response, is_dnssec_ok}
use Rattle.server_signatures.specs.Table.{missing}
use Rattle.server_signatures.specs.declared.answering.Signed.{Signed}
use Rattle.server_signatures.specs.declared.answering.Signed.TheVariants.{Message, Missing}
use Rattle.server_answers.specs.Glued.{AnswersGlued}
use Rattle.server_answers.specs.MadeOf.{IsMadeOf}
use Rattle.server_answers.specs.Parameters.{is_for_parameters}
use Rattle.server_answers.specs.Responding.{IsFault, IsMessage, Serving, TellsAllowed, inputs_for, is_for_keys, rcode_of}
use Rattle.server_answers.specs.declared.requests.Response.{Response}
use Rattle.server_answers.specs.declared.requests.Response.TheVariants.{Nothing, Reply, Sign}

-- CNAME, DNAME and NSEC3; DNSKEY, but for the keys of the zone; NSEC3PARAM, but for the parameters of the zone, which one with a chain of
-- names does not have; and NSEC, whose record stands in the message for a type that the zone does not hold
abbrev pub is_synthesized : Name → Mode → Asked → Bool
is_synthesized apex mode asked =
    among (5 ∷ 39 ∷ 47 ∷ 50 ∷ []) asked.rtype || ((asked.rtype == 48) && not (is_for_keys apex asked)) || ((asked.rtype == 51) && not (is_for_parameters apex mode asked))

-- the question for a reserved type in the place of another (RFC 6895, 3.1)
abbrev pub reserved : Asked → Asked
reserved a = record { name = a.name; rtype = 65535; class = a.class }

-- the header counts records in the answer section
abbrev pub has_answers : List ℕ → Bool
has_answers m = nat_lt 0 (slice_index m 6) || nat_lt 0 (slice_index m 7)

-- a message that is not the answer: it has records of the reserved type, or denies it where the NSEC record that is asked for is that of a
-- wildcard, whose types list NSEC
abbrev pub keeps_back : Queried → List ℕ → Bool
keeps_back q m = has_answers m || is_link_hidden q m

abbrev pub is_kept_back : Queried → Result Signed AnswerFault → Bool
is_kept_back q (Ok (Message m)) = keeps_back q m.items
is_kept_back q (Ok (Missing v)) = false
is_kept_back q (Err f) = false

-- REFUSED, where a message is not the answer; otherwise what is said of it
abbrev pub IsRefusal : ℕ → Queried → Response → Type 0
IsRefusal size q (Reply v) = v.items ≡ error_response size q 5
IsRefusal size q response = ⊥

abbrev pub IsMadeSynthesized : ℕ → ℕ → Queried → List HandedRr → Result Signed AnswerFault → Response → Type 0
IsMadeSynthesized limit size q addresses made response = MatchBool (is_kept_back q made) (IsRefusal size q response) (IsMadeOf limit size q addresses made response)

-- a message for the reserved type, and whether it is not the answer
pub record IsMadeReserved (s : Serving) (q : Queried) (old new : Option ℕ) (kept_back : Bool) : Type 0 where
  pub allowed : is_answered s.world.zone.apex (reserved q.asked) ≡ true
  pub m : List ℕ
  pub is_message : IsMessage s (reserved q.asked) false (is_dnssec_ok q) m
  pub kept_back_is : keeps_back q m ≡ kept_back
  pub noted_is : new ≡ noted old s.at

-- the response of the zone's answer for the reserved type, with the NSEC record of it where that is asked for; a referral with its glue
abbrev pub IsDenied : Serving → Queried → Option ℕ → Option ℕ → List ℕ → Type 0
IsDenied s q old new octets = (r : IsMadeReserved s q old new false) × AnswersGlued s.limit s.size q s.addresses r.m octets

-- REFUSED, where that is not the answer
abbrev pub IsRefused : Serving → Queried → Option ℕ → Option ℕ → List ℕ → Type 0
IsRefused s q old new octets = IsMadeReserved s q old new true × (octets ≡ error_response s.size q 5)

-- a reply that says why there is no message
pub record IsUnmade (s : Serving) (q : Queried) (old new : Option ℕ) (octets : List ℕ) : Type 0 where
  pub f : AnswerFault
  pub is_fault : IsFault s (reserved q.asked) false (is_dnssec_ok q) f
  pub tells_allowed : TellsAllowed s.world.zone.apex (reserved q.asked) false f
  pub enough_memory : f ≢ Memory
  pub octets_are : octets ≡ error_response s.size q (rcode_of f)
  pub unchanged : new ≡ old

-- what answers such a question: a reply; or, with DO, a wish for all signatures that the table lacks, one at least
abbrev pub AnswersSynthesized : Serving → Queried → Option ℕ → Option ℕ → Response → Type 0
AnswersSynthesized s q old new Nothing = ⊥
AnswersSynthesized s q old new (Reply v) = IsDenied s q old new v.items ⊎ (IsRefused s q old new v.items ⊎ IsUnmade s q old new v.items)
AnswersSynthesized s q old new (Sign v) =
    (is_dnssec_ok q ≡ true) × (v.items ≡ missing s.table (inputs_for s (reserved q.asked) false)) × (0 < length v.items) × (new ≡ old)
    × (is_answered s.world.zone.apex (reserved q.asked) ≡ true)
