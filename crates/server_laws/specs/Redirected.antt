-- What a judge says of the response to a question for a name below a DNAME, and that there is one.
use Rattle.std.specs.Prelude.{◌≡◌, ℕ, true, false, List, Some, unwrap_or}
use Rattle.std.specs.Option.{is_some}
use Rattle.definitions.specs.Name.{strictly_above}
use Rattle.messages.specs.Message.{Asked}
use Rattle.messages.specs.WrittenLaws.{IsQuestion}
use Rattle.answer_scheme.specs.Answers.{Answers}
use Rattle.answer_judge.specs.Judging.{JudgeInput}
use Rattle.server_queries.specs.Queries.{Queried}
use Rattle.server_responses.specs.Redirects.{redirect_response}
use Rattle.server_responses.specs.Responses.{error_response}
use Rattle.server_answers.specs.Aliases.{alias_of}
use Rattle.server_answers.specs.Responding.{IsMessage, Serving}
use Rattle.server_answers.specs.Subset.{wants_signatures}
use Rattle.server_answers.specs.World.{served_in}
use Rattle.server_laws.specs.Heard.{HoldsAll, SaysAlike}
use Rattle.server_answers.specs.Zones.{IsZone}

-- the question is answered by a DNAME above its name (RFC 6672, 3.2), and this is the message for that DNAME
pub record IsRedirected (s : Serving) (q : Queried) (alias : Asked) (m : List ℕ) : Type 0 where
  pub answers : alias_of s.world.zone.mode (served_in s.world).zone q.asked ≡ Some alias
  pub above : strictly_above alias.name q.asked.name ≡ true
  pub is_message : IsMessage s alias false (wants_signatures q) m

-- A DNAME of the message leads the name somewhere, or would make it too long: so no such response is SERVFAIL.
abbrev pub RedirectsAreMade : Type 0
RedirectsAreMade =
    (s : Serving) (q : Queried) (alias : Asked) (m : List ℕ) → IsZone s.world → IsQuestion q.asked → IsRedirected s q alias m
    → is_some (redirect_response s.limit s.size q m) ≡ true

-- The response has the DNAME RRset with its signatures, and the CNAME that is made from it, which is not signed (RFC 6672, 5.3.1); or
-- YXDOMAIN in place of this: a judge that takes an answer to another question says of it what it says of the message, whatever it is
-- asked.
abbrev pub RedirectsJudgedAlike : Type 0
RedirectsJudgedAlike =
    (s : Serving) (q : Queried) (alias : Asked) (m octets : List ℕ) → HoldsAll s q octets → IsRedirected s q alias m
    → octets ≡ unwrap_or (redirect_response s.limit s.size q m) (error_response s.size q 2)
    → (a : Answers) (h : JudgeInput) → h.other_question ≡ true → SaysAlike a h octets m
