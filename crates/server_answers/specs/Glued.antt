-- The response of a message, with the glue of a referral.
use Rattle.std.specs.Prelude.{ℕ, List}
use Rattle.std.specs.List.{AllByRecursion}
use Rattle.messages.specs.HandedRr.{HandedRr}
use Rattle.server_glue.specs.Glue.{IsAddress, glue}
use Rattle.server_queries.specs.Queries.{Queried}
use Rattle.server_responses.specs.Responses.{AnswersQuery}

-- In the additional section stands the glue of the message among some addresses, and nothing else but OPT: none where the message is no
-- referral. A message can spell each of these addresses.
pub record AnswersGlued (limit size : ℕ) (q : Queried) (addresses : List HandedRr) (m octets : List ℕ) : Type 0 where
  pub answers : AnswersQuery limit size q m (glue addresses m) octets
  pub each : AllByRecursion IsAddress (glue addresses m)
