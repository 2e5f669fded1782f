-- What a server's contracts say, as what happens in a life.
use Rattle.std.specs.Prelude.{◌≡◌, ℕ, true, false, List, [], ◌∷◌, Option, None}
use Rattle.std.specs.List.{list_any}
use Rattle.definitions.specs.Name.{Name}
use Rattle.definitions.specs.ZoneChain.{Mode}
use Rattle.messages.specs.HandedRr.{HandedRr, among}
use Rattle.messages.specs.Message.{Asked}
use Rattle.answer_terms.specs.Accepted.{IsAccepted}
use Rattle.answer_terms.specs.Accepting.{is_alias}
use Rattle.answer_terms.specs.Asking.{is_allowed}
use Rattle.answer_terms.specs.Hashing.{Hasher}
use Rattle.answer_zone_records.specs.AliasFaults.{IsAcceptedWithAliases}
use Rattle.server_queries.specs.Queries.{Queried}
use Rattle.server_responses.specs.Responses.{is_dnssec_ok}
use Rattle.server_signatures.specs.Outcomes.{AnswersEach}
use Rattle.server_answers.specs.Aliases.{for_type}
use Rattle.server_answers.specs.Responding.{IsAnswered, Serving, is_for_keys}
use Rattle.server_answers.specs.Subset.{IsSubset}
use Rattle.server_answers.specs.Synthesized.{IsDenied, reserved}
use Rattle.server_zone.specs.StateLines.{StateLine}
use Rattle.server_zone.specs.States.{Digest, Follows, State}
use Rattle.server_zone.specs.declared.open_zone.Applied.{Applied}

-- what an open zone accepts is accepted before any answer
abbrev pub AcceptedLinesAreTaken : Type 0
AcceptedLinesAreTaken =
    (digest : Digest) (hash : Hasher) (latest : Option ℕ) (st t : State) (l : StateLine) (a : Applied)
    → Follows digest hash latest st l a t → Follows digest hash None st l a t

abbrev pub PlainListsAreAccepted : Type 0
PlainListsAreAccepted =
    (hash : Hasher) (apex : Name) (mode : Mode) (limit : ℕ) (rs : List HandedRr)
    → IsAcceptedWithAliases hash apex mode limit rs → list_any is_alias rs ≡ false → IsAccepted hash apex mode limit rs

-- The message that a response is made of, and the question that this answers: the question itself, for no alias and not for the
-- keys; that for a reserved type; or that for a type that is chosen.
pub data IsMadeFor (s : Serving) (q : Queried) (octets : List ℕ) (asked : Asked) (m : List ℕ) : Type 0 where
  Held : (old new : Option ℕ) (r : IsAnswered s q old new octets) → is_for_keys s.world.zone.apex q.asked ≡ false → among (5 ∷ 39 ∷ []) q.asked.rtype ≡ false
      → asked ≡ q.asked → m ≡ r.m → IsMadeFor s q octets asked m
  Denied : (old new : Option ℕ) (r : IsDenied s q old new octets) → asked ≡ reserved q.asked → m ≡ r.0.m → IsMadeFor s q octets asked m
  Chosen : (old new : Option ℕ) (r : IsSubset s q old new octets) → asked ≡ for_type r.t q.asked → m ≡ r.m → IsMadeFor s q octets asked m

-- to a client that wants records of DNSSEC it is the zone's answer, under each scheme that signs as the table says
abbrev pub ResponsesAreOfAnswers : Type 0
ResponsesAreOfAnswers =
    (s : Serving) (q : Queried) (octets : List ℕ) (asked : Asked) (m : List ℕ) → is_dnssec_ok q ≡ true → IsMadeFor s q octets asked m
    → (is_allowed s.world.zone.apex asked ≡ true) × AnswersEach s.table s.world s.keys s.at asked m
