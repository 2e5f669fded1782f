-- What a server answers to a query, by what it asks for.
use Rattle.std.specs.Prelude.{MatchBool, ℕ, Option, Some, None}
use Rattle.answer_publisher.specs.Aliases.{alias_of, asks_all}
use Rattle.answer_publisher.specs.World.{served_in}
use Rattle.messages.specs.Message.{Asked}
use Rattle.server_queries.specs.Queries.{Queried}
use Rattle.server_answers.specs.Aliased.{AnswersAlias}
use Rattle.server_answers.specs.Parameters.{RespondsWithParameters, is_for_parameters}
use Rattle.server_answers.specs.Responding.{AnswersHeld, Serving}
use Rattle.server_answers.specs.Subset.{AnswersSubset}
use Rattle.server_answers.specs.Synthesized.{AnswersSynthesized, is_synthesized}
use Rattle.server_answers.specs.declared.requests.Response.{Response}

-- for the NSEC3PARAM RRset, or for what else the zone holds
abbrev pub AnswersOne : Serving → Queried → Option ℕ → Option ℕ → Response → Type 0
AnswersOne s q old new response =
    MatchBool (is_for_parameters s.world.zone.apex s.world.zone.mode q.asked) (RespondsWithParameters s q old new response) (AnswersHeld s q old new response)

-- for all records or signatures of the name, or for any other type
abbrev pub AnswersOther : Serving → Queried → Option ℕ → Option ℕ → Response → Type 0
AnswersOther s q old new response = MatchBool (asks_all q.asked) (AnswersSubset s q old new response) (AnswersOne s q old new response)

-- where no alias answers: for a type that no accepted zone holds at the name, or for another
abbrev pub RespondsItself : Serving → Queried → Option ℕ → Option ℕ → Response → Type 0
RespondsItself s q old new response =
    MatchBool (is_synthesized s.world.zone.apex s.world.zone.mode q.asked) (AnswersSynthesized s q old new response) (AnswersOther s q old new response)

abbrev pub AnswersBy : Serving → Queried → Option ℕ → Option ℕ → Response → Option Asked → Type 0
AnswersBy s q old new response None = RespondsItself s q old new response
AnswersBy s q old new response (Some alias) = AnswersAlias s q alias old new response

-- by the RRset of an alias, where one answers
abbrev pub AnswersQueried : Serving → Queried → Option ℕ → Option ℕ → Response → Type 0
AnswersQueried s q old new response = AnswersBy s q old new response (alias_of s.world.zone.mode (served_in s.world).zone q.asked)
