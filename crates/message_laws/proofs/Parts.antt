-- What is judged of a case's messages, by its parts.
use Rattle.std.specs.Prelude.{Bool, true, false, not, ◌&&◌, Option, Some, None, Result, Ok, Err, if◌then◌else◌}
use Rattle.definitions.specs.Zone.{Verdict, Unsigned}
use Rattle.messages.specs.Message.{Message}
use Rattle.messages.specs.declared.error.MessageError.{MessageError}
use Rattle.answer_judge.specs.Judged.{by_facts, keys_of}
use Rattle.answer_judge.specs.Judging.{Answer, JudgeInput, Refuses, Says, may_ask, same_question}
use Rattle.answer_judge.specs.declared.verdict.Refusal.{Refusal}
use Rattle.answer_judge.specs.declared.verdict.Refusal.TheVariants as r
use Rattle.answer_terms.specs.EqualTags.{has_equal_tags}

-- By whether the question is judged, whether there is no DS, what both messages read as, and what is refused and judged of them.
abbrev pub judged_by : Bool → Bool → Result Message MessageError → Result Message MessageError → (Message → Message → Option Refusal) → (Message → Message → Answer) → Answer
judged_by asked none keys answer first f =
    elim (if not asked then Some r.QuestionNotAllowed
    else if none then None
    else elim keys [ Err e ↦ Some r.BadDnskeyMessage | Ok m ↦ elim answer [ Err e ↦ Some r.BadAnswerMessage | Ok n ↦ first m n ] ]) [
      | Some e ↦ Refuses e
      | None ↦ if none then Says Unsigned else elim keys [ Err e ↦ Refuses r.BadDnskeyMessage | Ok m ↦ elim answer [ Err e ↦ Refuses r.BadAnswerMessage | Ok n ↦ f m n ] ]
    ]

-- the first refusal of two messages that read
abbrev pub first_of : JudgeInput → Message → Message → Option Refusal
first_of h keys answer =
    if not (same_question keys.asked (record { name = h.apex; rtype = 48; class = 1 }) && may_ask h answer.asked) then Some r.QuestionMismatch
    else if has_equal_tags (keys_of h keys) then Some r.EqualTags
    else None

-- by whether a DS record authenticates the keys
abbrev pub chained_by : Bool → Answer → Answer
chained_by chained later = elim chained [ true ↦ later | false ↦ Refuses r.NoTrustedKey ]

-- by whether times are unlike, whether hashes are mixed, over the limit or fail, and what facts decide
abbrev pub proved_by : Bool → Bool → Bool → Bool → Option Verdict → Answer
proved_by unlike mixed over unhashed decided =
    if unlike then Refuses r.MixedVersions
    else if mixed then Refuses r.MixedNsec3Parameters
    else if over then Refuses r.IterationsOverLimit
    else if unhashed then Refuses r.HashFailed
    else by_facts decided
