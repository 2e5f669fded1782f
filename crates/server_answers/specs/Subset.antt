-- What a server answers to questions for all records of a name, or for all signatures there: one RRset of the name (RFC 8482, 4.1).
use Rattle.std.specs.Prelude.{◌≡◌, ◌≢◌, ◌⊎◌, ◌↔◌, MatchBool, ℕ, ◌<◌, Bool, true, false, not, ◌&&◌, ◌||◌, ◌==◌, List, [], ◌∷◌, length, Option, Result, Ok, Err, slice_index}
use Rattle.definitions.specs.Name.{Name}
use Rattle.messages.specs.Message.{Asked}
use Rattle.answer_terms.specs.Asking.{is_allowed}
use Rattle.answer_publisher_keys.specs.Bindings.{ZoneKeys}
use Rattle.answer_publisher.specs.Aliases.{for_type}
use Rattle.answer_publisher.specs.Replacing.{noted}
use Rattle.answer_publisher.specs.World.{AnswersQuestion, RefusesQuestion, SpellsAnswer, World}
use Rattle.answer_publisher.specs.declared.fault.AnswerFault.{AnswerFault}
use Rattle.answer_publisher.specs.declared.fault.AnswerFault.TheVariants.{Memory, QuestionNotAllowed}
use Rattle.server_queries.specs.Queries.{Queried}
use Rattle.server_responses.specs.Responses.{error_response, is_dnssec_ok}
use Rattle.server_signatures.specs.Table.{missing}
use Rattle.server_signatures.specs.declared.answering.Signed.{Signed}
use Rattle.server_signatures.specs.declared.answering.Signed.TheVariants.{Message, Missing}
use Rattle.server_answers.specs.Glued.{AnswersGlued}
use Rattle.server_answers.specs.Listed.{listed}
use Rattle.server_answers.specs.Moments.{IsOrWasNoted}
use Rattle.server_answers.specs.Responding.{IsFault, IsMessage, Serving, inputs_for, rcode_of, unsigned}
use Rattle.server_answers.specs.Synthesized.{has_answers}
use Rattle.server_answers.specs.declared.requests.Response.{Response}
use Rattle.server_answers.specs.declared.requests.Response.TheVariants.{Nothing, Reply, Sign}

-- a question for signatures has them without DO too
abbrev pub wants_signatures : Queried → Bool
wants_signatures q = is_dnssec_ok q || (q.asked.rtype == 46)

-- no record of the type, at a name that is there: an authoritative message without an error and without records in its answer section
-- (RFC 2308, 2.2)
abbrev pub is_no_data : List ℕ → Bool
is_no_data m = (slice_index m 2 == 132) && (slice_index m 3 == 0) && not (has_answers m)

-- the zone's message without signatures, for a question that it answers
abbrev pub IsBare : World → ZoneKeys → ℕ → Asked → List ℕ → Type 0
IsBare w keys at a m = (is_allowed w.zone.apex a ≡ true) × AnswersQuestion (unsigned w) keys at a m × SpellsAnswer (unsigned w) keys at a m

abbrev pub is_memory : AnswerFault → Bool
is_memory Memory = true
is_memory _ = false

-- Whether the zone has records of the type of a question at its name, or at the wildcard that stands for it: whether its message has any
-- in its answer section. Of a type for which there is no message it has none.
abbrev pub IsHeld : World → ZoneKeys → ℕ → Asked → Bool → Type 0
IsHeld w keys at a true = (m : List ℕ) × IsBare w keys at a m × (has_answers m ≡ true)
IsHeld w keys at a false = ((m : List ℕ) × IsBare w keys at a m × (has_answers m ≡ false)) ⊎ ((f : AnswerFault) × RefusesQuestion (unsigned w) keys at a f × (f ≢ Memory))

-- the first of some types that the zone has there; a reserved one where it has none of them (RFC 6895, 3.1)
abbrev pub IsFirst : World → ZoneKeys → ℕ → Asked → List ℕ → ℕ → Type 0
IsFirst w keys at a [] t = t ≡ 65535
IsFirst w keys at a (u ∷ us) t = (b : Bool) × IsHeld w keys at (for_type u a) b × MatchBool b (t ≡ u) (IsFirst w keys at a us t)

-- The type that is answered for: where the name is there and has no record of the reserved type, the first of those that the records of
-- the chain list, which say what it has; else the reserved type.
abbrev pub IsChosen : World → ZoneKeys → ℕ → Asked → ℕ → Type 0
IsChosen w keys at a t =
    let r = for_type 65535 a in
    (m : List ℕ) × IsBare w keys at r m × MatchBool (is_no_data m) (IsFirst w keys at r (listed m) t) (t ≡ 65535)

-- why there is no message: none for the reserved type, or none for the type that is chosen
abbrev pub IsUnchosen : Serving → Asked → Bool → AnswerFault → Type 0
IsUnchosen s a signed f = IsFault s (for_type 65535 a) false false f ⊎ ((t : ℕ) × IsChosen s.world s.keys s.at a t × IsFault s (for_type t a) false signed f)

-- a fault says that the question is not allowed exactly where it is of another class than IN, or for a name that is not of the zone: where
-- that for the reserved type is not
abbrev pub TellsInside : Name → Asked → AnswerFault → Type 0
TellsInside apex a f = (f ≡ QuestionNotAllowed) ↔ (is_allowed apex (for_type 65535 a) ≡ false)

-- a message for the type that is chosen; what is missing for it; or why there is none
abbrev pub MakesSubset : Serving → Asked → Bool → Option ℕ → Option ℕ → Result Signed AnswerFault → Type 0
MakesSubset s a signed old new (Ok (Message m)) = (t : ℕ) × IsChosen s.world s.keys s.at a t × IsMessage s (for_type t a) false signed m.items × (new ≡ noted old s.at)
MakesSubset s a signed old new (Ok (Missing v)) =
    (t : ℕ) × IsChosen s.world s.keys s.at a t × (signed ≡ true) × (v.items ≡ missing s.table (inputs_for s (for_type t a) false)) × (0 < length v.items) × (new ≡ noted old s.at)
MakesSubset s a signed old new (Err f) = IsOrWasNoted s.at old new × (f ≢ Memory → IsUnchosen s a signed f × TellsInside s.world.zone.apex a f)

-- the response of the message for the type that is chosen
pub record IsSubset (s : Serving) (q : Queried) (old new : Option ℕ) (octets : List ℕ) : Type 0 where
  pub t : ℕ
  pub chosen : IsChosen s.world s.keys s.at q.asked t
  pub m : List ℕ
  pub is_message : IsMessage s (for_type t q.asked) false (wants_signatures q) m
  pub answers : AnswersGlued s.limit s.size q s.addresses m octets
  pub noted_is : new ≡ noted old s.at

-- a reply that says why there is none
pub record IsSubsetRefused (s : Serving) (q : Queried) (old new : Option ℕ) (octets : List ℕ) : Type 0 where
  pub f : AnswerFault
  pub unchosen : IsUnchosen s q.asked (wants_signatures q) f
  pub tells_inside : TellsInside s.world.zone.apex q.asked f
  pub enough_memory : f ≢ Memory
  pub octets_are : octets ≡ error_response s.size q (rcode_of f)
  pub noted_is : IsOrWasNoted s.at old new

-- What answers such a question: a reply; or, where signatures are wanted, a wish for all that the table lacks, one at least. The moment is
-- noted behind either.
abbrev pub AnswersSubset : Serving → Queried → Option ℕ → Option ℕ → Response → Type 0
AnswersSubset s q old new Nothing = ⊥
AnswersSubset s q old new (Reply v) = IsSubset s q old new v.items ⊎ IsSubsetRefused s q old new v.items
AnswersSubset s q old new (Sign v) =
    (t : ℕ) × IsChosen s.world s.keys s.at q.asked t × (wants_signatures q ≡ true) × (v.items ≡ missing s.table (inputs_for s (for_type t q.asked) false)) × (0 < length v.items) × (new ≡ noted old s.at)
