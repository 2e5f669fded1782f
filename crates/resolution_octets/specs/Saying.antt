-- What a walk says, in octets.
use Rattle.std.specs.Prelude.{◌≡◌, ◌⊎◌, ℕ, ◌+◌, ◌==◌, Bool, true, false, List, [], ◌++◌, length, Some, None, nat_lt, if◌then◌else◌}
use Rattle.std.specs.Int.{w16, w32, to_be_bytes}
use Rattle.std.specs.List.{flat_map}
use Rattle.definitions.specs.Dnskey.{Ds}
use Rattle.definitions.specs.Name.{Name, wire}
use Rattle.messages.specs.Message.{Asked}
use Rattle.answer_judge.specs.Judging.{JudgeInput}
use Rattle.answer_judge.specs.declared.verdict.Refusal.{Refusal}
use Rattle.answer_judge.specs.declared.verdict.Refusal.TheVariants as r
use Rattle.answer_judge_rules.specs.Rules.{verdict_of}
use Rattle.answer_terms.specs.declared.redirection.Lead.TheVariants as lead
use Rattle.answer_extended_errors.specs.Codes.{code_of}
use Rattle.answer_extended_errors.specs.declared.error.ExtendedError.{ExtendedError}
use Rattle.answer_extended_errors.specs.declared.error.ExtendedError.TheVariants as x
use Rattle.answer_judge_octets.specs.Replying.{IsAskReplied, Replied, code_of_verdict, code_refused, counted, error_of, octets_of_verdict, only, ttl_of, until_of}
use Rattle.answer_judge_octets.specs.declared.reply.ReplyCode.{ReplyCode}
use Rattle.answer_judge_octets.specs.declared.reply.ReplyCode.TheVariants as c
use Rattle.evidence_laws.specs.Given.{Given, IsOf}
use Rattle.evidence_laws.specs.Walking.{renamed}
use Rattle.resolution_walk.specs.Truth.{last_of}
use Rattle.resolution_walk.specs.Wanted.{is_lacking}
use Rattle.resolution_walk.specs.declared.ending.Ending.{Ending}
use Rattle.resolution_walk.specs.declared.ending.Ending.TheVariants as ends
use Rattle.resolution_walk.specs.declared.ending.Walk.{Walk}
use Rattle.resolution_walk.specs.declared.ending.Wanted.{Wanted}
use Rattle.resolution_octets.specs.Cuts.{error_of_cut}
use Rattle.resolution_octets.specs.Working.{goes_too_far}
use Rattle.resolution_octets.specs.declared.walk_reply.ReplyLimits.{ReplyLimits}

-- a zone and what it is asked: two names in wire form, and a type in two octets
abbrev pub question_octets : Name → Name → ℕ → List ℕ
question_octets zone name t = wire zone ++ wire name ++ to_be_bytes w16 t

abbrev pub wanted_octets : Wanted → List ℕ
wanted_octets w = question_octets w.zone w.name w.rtype

-- names in wire form, behind their number in four octets
abbrev pub names_octets : List Name → List ℕ
names_octets ns = to_be_bytes w32 (length ns) ++ flat_map wire ns

-- the code of an end, of a refusal with its extended error
abbrev pub code_of_end : Ending → ExtendedError → ReplyCode
code_of_end (ends.Secure zone v) error = code_of_verdict (verdict_of v)
code_of_end (ends.Leads (lead.To n)) error = c.Alias
code_of_end (ends.Leads lead.TooLong) error = c.Dname
code_of_end (ends.Unsigned cut datas) error = c.Unsigned
code_of_end (ends.LeftOpen zone) error = c.Open
code_of_end (ends.Untold zone ds name t (Some refusal)) error = code_refused refusal error
code_of_end (ends.Untold zone ds name t None) error = c.NothingTold
code_of_end (ends.Asks asks) error = c.Ask
code_of_end (ends.Wants ws) error = c.Want
code_of_end ends.TooManyCuts error = c.TooManyCuts
code_of_end ends.TooManyAliases error = c.TooManyAliases
code_of_end ends.TooManyMessages error = c.TooManyMessages
code_of_end ends.Outside error = c.Outside

-- The zone of a verdict and its data; the name that an alias leads to; the delegation below which nothing is signed, or the zone that
-- leaves the name open; of an answer that tells nothing the zone and what it was asked.
abbrev pub octets_of_end : Ending → List ℕ
octets_of_end (ends.Secure zone v) = wire zone ++ octets_of_verdict (verdict_of v)
octets_of_end (ends.Leads (lead.To n)) = wire n
octets_of_end (ends.Leads lead.TooLong) = []
octets_of_end (ends.Unsigned cut datas) = wire cut
octets_of_end (ends.LeftOpen zone) = wire zone
octets_of_end (ends.Untold zone ds name t e) = question_octets zone name t
octets_of_end (ends.Asks asks) = []
octets_of_end (ends.Wants ws) = []
octets_of_end ends.TooManyCuts = []
octets_of_end ends.TooManyAliases = []
octets_of_end ends.TooManyMessages = []
octets_of_end ends.Outside = []

-- how many signatures may be checked, 256 where no number is said
abbrev pub most_of : ℕ → ℕ
most_of number = if number == 0 then 256 else number

-- Whether what is asked for makes too many signatures, beside those of the table.
abbrev pub are_too_many : ℕ → ℕ → ℕ → Bool
are_too_many most checked more = nat_lt (most_of most) (checked + more)

-- ---- extended errors

-- a question for a name and a type, of the class that was asked for
abbrev pub sought_of : Asked → Name → ℕ → Asked
sought_of asked name t = record { name = name; rtype = t; class = asked.class }

-- Why a zone's answer to a question is refused, as a judgement of its messages says it (RFC 8914); where these are not there, the
-- error that says nothing.
abbrev pub IsErrorOf : Given → Name → List Ds → Asked → Refusal → ExtendedError → Type 0
IsErrorOf e zone ds sought refusal error =
    ((h : JudgeInput) × IsOf e zone ds sought h × (error ≡ error_of h e.table refusal)) ⊎ ((is_lacking e zone sought ≡ true) × (error ≡ x.Other))

-- no record shows that something does not exist, so the answer itself says nothing
abbrev pub is_empty : ExtendedError → Bool
is_empty x.NsecMissing = true
is_empty _ = false

-- the error of signatures that do not hold now, and else another
abbrev pub untimely_or : ExtendedError → ExtendedError → ExtendedError
untimely_or named x.SignatureExpired = x.SignatureExpired
untimely_or named x.SignatureNotYetValid = x.SignatureNotYetValid
untimely_or named _ = named

-- The error that is told of a refused answer: its own. Of one that says nothing, that of signatures of the zone's answer to the
-- question, where these do not hold now, since that is why DS was asked for.
pub data IsErrorTold (e : Given) (zone : Name) (ds : List Ds) (asked sought : Asked) (refusal : Refusal) (error : ExtendedError) : Type 0 where
  OfAnswer : IsErrorOf e zone ds sought refusal error → is_empty error ≡ false → IsErrorTold e zone ds asked sought refusal error
  OfQuestion : (named own : ExtendedError) → IsErrorOf e zone ds sought refusal named → is_empty named ≡ true → IsErrorOf e zone ds asked r.NotProven own
      → error ≡ untimely_or named own → IsErrorTold e zone ds asked sought refusal error

-- the question for the name at the end of aliases
abbrev pub last_asked : Asked → List Name → Asked
last_asked asked names = renamed asked (last_of asked.name names)

-- an end that is a refusal has its error, and every other end the one that says nothing
abbrev pub IsErrorOfEnd : Given → Asked → List Name → Ending → ExtendedError → Type 0
IsErrorOfEnd e asked names (ends.Untold zone ds name t (Some refusal)) error = IsErrorTold e zone ds.items (last_asked asked names) (sought_of asked name t) refusal error
IsErrorOfEnd e asked names _ error = error ≡ x.Other

-- the code of that error; at a delegation that is not signed that of its DS records
abbrev pub ede_of_end : Ending → ExtendedError → ℕ
ede_of_end (ends.Unsigned cut datas) error = error_of_cut datas
ede_of_end ending error = code_of error

-- ---- replies

-- What is replied to an end with an error: what it says behind the names that aliases lead through, how long that lasts from a moment
-- in seconds on, and how often was verified and hashed.
abbrev pub end_reply : ℕ → Walk → ExtendedError → Replied
end_reply second w error = record {
  code = code_of_end w.ending error;
  octets = names_octets w.through.items ++ octets_of_end w.ending;
  verifications = w.counts.verifications;
  hashes = w.counts.hashes;
  ttl = ttl_of w.validity;
  until = until_of second w.validity;
  ede = ede_of_end w.ending error;
  delegates = 0;
}

pub record IsEndReplied (second : ℕ) (e : Given) (asked : Asked) (w : Walk) (said : Replied) : Type 0 where
  pub error : ExtendedError
  pub is_error : IsErrorOfEnd e asked w.through.items w.ending error
  pub is : said ≡ end_reply second w error

-- What is replied to a walk: signatures that are asked for as entries, or that they are too many; messages that are wanted, one
-- behind another; or its end. Whichever it is, the counts are those of all judgements of the walk.
abbrev pub IsEndSaid : ℕ → ReplyLimits → Given → Asked → Walk → Ending → Replied → Type 0
IsEndSaid second limits e asked w (ends.Asks asks) said = IsAskReplied (are_too_many limits.signatures limits.checked (length asks.items)) asks.items w.counts.verifications w.counts.hashes said
IsEndSaid second limits e asked w (ends.Wants ws) said = said ≡ counted w.counts.verifications w.counts.hashes (record (only c.Want) { octets = flat_map wanted_octets ws.items })
IsEndSaid second limits e asked w ending said = IsEndReplied second e asked w said

-- the same, or that the walk would go on and has been too much work
abbrev pub IsSaidWithin : Bool → ℕ → ReplyLimits → Given → Asked → Walk → Replied → Type 0
IsSaidWithin true second limits e asked w said = said ≡ counted w.counts.verifications w.counts.hashes (only c.TooMuchWork)
IsSaidWithin false second limits e asked w said = IsEndSaid second limits e asked w w.ending said

abbrev pub IsSaid : ℕ → ReplyLimits → Given → Asked → Walk → Replied → Type 0
IsSaid second limits e asked w said = IsSaidWithin (goes_too_far limits.work e w) second limits e asked w said
