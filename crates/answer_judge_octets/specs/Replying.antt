-- What is replied to a case in octets.
use Rattle.std.specs.Prelude.{◌≡◌, ℕ, ◌+◌, ◌%◌, ◌≤◌, ◌<◌, ◌==◌, ◌⊎◌, min, Bool, true, false, ◌&&◌, ◌||◌, List, [], ◌∷◌, ◌++◌, drop, filter, length, map, Option, Some, None, nat_eq, nat_lt, if◌then◌else◌}
use Rattle.std.specs.List.{AllByRecursion, flat_map, list_any, starts_with}
use Rattle.definitions.specs.Dnskey.{Ds}
use Rattle.definitions.specs.Limits.{pointer_limit}
use Rattle.definitions.specs.Name.{Name, wire}
use Rattle.definitions.specs.Zone.{Verdict, Records, NoType, NoName, StarRecords, StarNoType, Delegated, Open, Unsigned}
use Rattle.denial_laws.specs.Leading.{Lead, To, TooLong}
use Rattle.messages_canonical.specs.InForm.{GrowsTooLong, IsInForm}
use Rattle.names_rdata.specs.Composing.{with_length}
use Rattle.messages.specs.Message.{Asked}
use Rattle.messages.specs.NameOctets.{name_of_octets}
use Rattle.answer_judge_facts.specs.declared.validity.Validity.{Validity}
use Rattle.answer_judge.specs.declared.verdict.Refusal.{Refusal}
use Rattle.answer_judge.specs.declared.verdict.Refusal.TheVariants as r
use Rattle.answer_judge.specs.Judging.{JudgeInput}
use Rattle.answer_findings.specs.declared.meaning.AnswerOutcome.{AnswerOutcome}
use Rattle.answer_findings.specs.declared.meaning.AnswerOutcome.TheVariants as f
use Rattle.answer_findings.specs.Found.{IsFound, IsFoundWithin}
use Rattle.answer_findings.specs.Judgements.{aside, first_question}
use Rattle.answer_findings.specs.Seen.{Seen, SeesVerdict, SeesDelegated, SeesNoDs, SeesAlias, SeesStarAlias, SeesOpen, SeesDname, SeesReferral, seen}
use Rattle.answer_findings.specs.Truth.{FindsTruly}
use Rattle.answer_extended_errors.specs.Codes.{code_of}
use Rattle.answer_extended_errors.specs.Extended.{extended_error_of}
use Rattle.answer_extended_errors.specs.declared.error.ExtendedError.{ExtendedError}
use Rattle.answer_extended_errors.specs.declared.error.ExtendedError.TheVariants as x
use Rattle.answer_judge_octets.specs.declared.reply.ReplyCode.{ReplyCode}
use Rattle.answer_judge_octets.specs.declared.reply.ReplyCode.TheVariants as c
use Rattle.answer_judge_octets.specs.declared.reply.Reply.{Reply}
use Rattle.answer_judge_octets.specs.declared.octets.OctetCase.{OctetCase}
use Rattle.answer_judge_octets.specs.declared.octets.Report.{Report}
use Rattle.answer_findings.specs.Asking.{unchecked}
use Rattle.answer_findings.specs.Table.{Checked, Tried, answers_with, passes_in}
use Rattle.answer_judge_octets.specs.Crowded.{are_crowded}
use Rattle.answer_judge_octets.specs.Places.{octets_in_front}
use Rattle.answer_judge_octets.specs.Written.{FitsChecked, FitsDs, IsList, checked_octets, ds_octets}

-- ---- what is handed in

-- a flag is 0 or 1
abbrev pub flag_of : ℕ → Option Bool
flag_of n = if n == 0 then Some false else if n == 1 then Some true else None

-- The size of a case. No other is known: fields that a caller doesn't know would be read as none.
abbrev pub case_size : ℕ
case_size = 160

-- what a flag of a case says, if anything
abbrev pub flag_in : OctetCase → ℕ → Option Bool
flag_in case flag = if case.size == case_size then flag_of flag else None

-- an algorithm that the caller checks: each, where it names none
abbrev pub is_checked : List ℕ → ℕ → Bool
is_checked algorithms n = (length algorithms == 0) || list_any (λ a. nat_eq a n) algorithms

-- a digest type of which digests are made, those of SHA-256 and SHA-384 (RFC 4509; RFC 6605, 2)
abbrev pub is_made : ℕ → Bool
is_made t = nat_eq t 2 || nat_eq t 4

-- a DS record of an algorithm that the caller checks and of a digest that is made
abbrev pub counts_for : List ℕ → Ds → Bool
counts_for algorithms d = is_checked algorithms d.algorithm && is_made d.digest_type

-- the DS records that are judged by: others lead to no key that can be checked (RFC 4035, 5.2)
abbrev pub judged_ds : List ℕ → List Ds → List Ds
judged_ds algorithms ds = filter (counts_for algorithms) ds

-- Messages stand as they were received where that is asked for, and beside an empty DS set, where nothing that they hold counts.
abbrev pub stand_as_received : List Ds → Bool → Bool
stand_as_received ds flag = (length ds == 0) || flag

-- The octets that are judged of a message: those that were received; or, where names in data are to be taken in full and in lower
-- case, these too where its data are so, and else its canonical form. What doesn't read is refused as it was received.
abbrev pub IsJudged : Bool → List ℕ → List ℕ → Type 0
IsJudged true m judged = judged ≡ m
IsJudged false m judged = IsInForm m judged

-- What the octets of a case spell: what a judge is handed, and a table. That there is no DS record is said by a flag, so that a DS
-- set which was forgotten is none.
pub record Spells (case : OctetCase) (h : JudgeInput) (table : List Checked) : Type 0 where
  pub as_received : Bool
  pub flag : flag_in case case.as_received ≡ Some as_received
  pub apex : name_of_octets case.apex.now ≡ Some h.apex
  pub no_ds : flag_in case case.no_ds ≡ Some (length case.ds.now == 0)
  pub ds_set : List Ds
  pub ds : IsList FitsDs ds_octets case.ds.now ds_set
  pub ds_judged : h.ds ≡ judged_ds case.algorithms.now ds_set
  pub dnskey_bytes : IsJudged (stand_as_received h.ds as_received) case.dnskey.now h.dnskey_bytes
  pub answer_bytes : IsJudged (stand_as_received h.ds as_received) case.answer.now h.answer_bytes
  pub name : name_of_octets case.name.now ≡ Some h.asked.name
  pub rtype : h.asked.rtype ≡ case.rtype
  pub class : h.asked.class ≡ case.class
  pub now : h.now ≡ case.moment % 4294967296
  pub limit : h.limit ≡ case.limit
  pub one_moment : flag_in case case.one_moment ≡ Some h.one_moment
  pub other_question : flag_in case case.other_question ≡ Some h.other_question
  pub places : Bool
  pub wants_places : flag_in case case.places ≡ Some places
  pub entries : IsList FitsChecked checked_octets case.checked.now table

-- a DS set of which some record is judged by
pub record HasDs (case : OctetCase) : Type 0 where
  pub ds_set : List Ds
  pub ds : IsList FitsDs ds_octets case.ds.now ds_set
  pub some : (length (judged_ds case.algorithms.now ds_set) == 0) ≡ false

-- a case of another size, a flag that is none, or one that says of no DS octets that there are some, or of some that there are none
abbrev pub IsBadCase : OctetCase → Type 0
IsBadCase case =
    (flag_in case case.one_moment ≡ None)
    ⊎ ((flag_in case case.as_received ≡ None)
    ⊎ ((flag_in case case.other_question ≡ None)
    ⊎ ((flag_in case case.places ≡ None) ⊎ (flag_in case case.no_ds ≡ Some (length case.ds.now == 0) → ⊥))))

-- which octets of a case spell nothing
abbrev pub Unread : OctetCase → ReplyCode → Type 0
Unread case c.BadApex = name_of_octets case.apex.now ≡ None
Unread case c.BadDsSet = (ds : List Ds) → IsList FitsDs ds_octets case.ds.now ds → ⊥
Unread case c.BadName = name_of_octets case.name.now ≡ None
Unread case c.BadSignatures = (table : List Checked) → IsList FitsChecked checked_octets case.checked.now table → ⊥
Unread case c.BadCase = IsBadCase case
Unread case c.MessageTooLong = (flag_in case case.as_received ≡ Some false) × HasDs case × (GrowsTooLong case.dnskey.now ⊎ GrowsTooLong case.answer.now)
Unread case _ = ⊥

-- ---- what is replied

-- the number of a code
abbrev pub number_of : ReplyCode → ℕ
number_of c.Records = 0
number_of c.NoType = 1
number_of c.NoName = 2
number_of c.StarRecords = 3
number_of c.StarNoType = 4
number_of c.Delegated = 5
number_of c.Open = 6
number_of c.Unsigned = 7
number_of c.Alias = 8
number_of c.WildcardAlias = 9
number_of c.Dname = 10
number_of c.Referral = 11
number_of c.QuestionNotAllowed = 16
number_of c.BadDnskeyMessage = 17
number_of c.BadAnswerMessage = 18
number_of c.QuestionMismatch = 19
number_of c.EqualTags = 20
number_of c.NoTrustedKey = 21
number_of c.MixedNsec3Parameters = 22
number_of c.IterationsOverLimit = 23
number_of c.HashFailed = 24
number_of c.NotProven = 25
number_of c.OutOfMemory = 26
number_of c.MixedVersions = 27
number_of c.MessageTooLong = 28
number_of c.TooManySignatures = 29
number_of c.NothingTold = 30
number_of c.Outside = 31
number_of c.Ask = 32
number_of c.Want = 33
number_of c.BufferTooSmall = 34
number_of c.BadApex = 35
number_of c.BadDsSet = 36
number_of c.BadName = 37
number_of c.BadSignatures = 38
number_of c.BadCase = 39
number_of c.BadMessages = 40
number_of c.TooManyCuts = 48
number_of c.TooManyAliases = 49
number_of c.TooManyMessages = 50
number_of c.IncompleteDenial = 51
number_of c.TooMuchWork = 52

abbrev pub code_of_verdict : Verdict → ReplyCode
code_of_verdict (Records d) = c.Records
code_of_verdict NoType = c.NoType
code_of_verdict NoName = c.NoName
code_of_verdict (StarRecords d) = c.StarRecords
code_of_verdict StarNoType = c.StarNoType
code_of_verdict Delegated = c.Delegated
code_of_verdict Open = c.Open
code_of_verdict Unsigned = c.Unsigned

-- the code of what is found
abbrev pub code_found : Seen → ReplyCode
code_found (SeesVerdict v) = code_of_verdict v
code_found (SeesDelegated cut) = c.Delegated
code_found (SeesNoDs d) = c.NoType
code_found (SeesAlias target) = c.Alias
code_found (SeesStarAlias target) = c.WildcardAlias
code_found SeesOpen = c.Open
code_found (SeesDname owner leads) = c.Dname
code_found (SeesReferral cut ds) = c.Referral

abbrev pub code_of_refusal : Refusal → ReplyCode
code_of_refusal r.QuestionNotAllowed = c.QuestionNotAllowed
code_of_refusal r.BadDnskeyMessage = c.BadDnskeyMessage
code_of_refusal r.BadAnswerMessage = c.BadAnswerMessage
code_of_refusal r.QuestionMismatch = c.QuestionMismatch
code_of_refusal r.EqualTags = c.EqualTags
code_of_refusal r.NoTrustedKey = c.NoTrustedKey
code_of_refusal r.MixedNsec3Parameters = c.MixedNsec3Parameters
code_of_refusal r.IterationsOverLimit = c.IterationsOverLimit
code_of_refusal r.HashFailed = c.HashFailed
code_of_refusal r.NotProven = c.NotProven
code_of_refusal r.MixedVersions = c.MixedVersions
code_of_refusal r.Memory = c.OutOfMemory

-- The code of a refusal with its extended error: where nothing is proven an incomplete denial has one of its own.
abbrev pub code_refused : Refusal → ExtendedError → ReplyCode
code_refused r.NotProven x.IncompleteDenial = c.IncompleteDenial
code_refused refusal error = code_of_refusal refusal

-- a code of a verdict
abbrev pub is_verdict : ReplyCode → Bool
is_verdict c.Records = true
is_verdict c.NoType = true
is_verdict c.NoName = true
is_verdict c.StarRecords = true
is_verdict c.StarNoType = true
is_verdict c.Delegated = true
is_verdict c.Open = true
is_verdict c.Unsigned = true
is_verdict c.Alias = true
is_verdict c.WildcardAlias = true
is_verdict c.Dname = true
is_verdict c.Referral = true
is_verdict _ = false

-- a code that says why there is no verdict
abbrev pub is_refusal : ReplyCode → Bool
is_refusal c.QuestionNotAllowed = true
is_refusal c.BadDnskeyMessage = true
is_refusal c.BadAnswerMessage = true
is_refusal c.QuestionMismatch = true
is_refusal c.EqualTags = true
is_refusal c.NoTrustedKey = true
is_refusal c.MixedNsec3Parameters = true
is_refusal c.IterationsOverLimit = true
is_refusal c.HashFailed = true
is_refusal c.NotProven = true
is_refusal c.OutOfMemory = true
is_refusal c.MixedVersions = true
is_refusal c.MessageTooLong = true
is_refusal c.TooManySignatures = true
is_refusal c.NothingTold = true
is_refusal c.Outside = true
is_refusal c.TooManyCuts = true
is_refusal c.TooManyAliases = true
is_refusal c.TooManyMessages = true
is_refusal c.IncompleteDenial = true
is_refusal c.TooMuchWork = true
is_refusal _ = false

-- what is replied
pub record Replied : Type 0 where
  pub code : ReplyCode
  pub octets : List ℕ
  pub verifications : ℕ
  pub hashes : ℕ
  pub ttl : ℕ
  pub until : ℕ
  pub ede : ℕ
  pub delegates : ℕ

-- a code alone
abbrev pub only : ReplyCode → Replied
only code = record { code = code; octets = []; verifications = 0; hashes = 0; ttl = 0; until = 0; ede = 0; delegates = 0 }

-- a reply for which so often was verified and hashed
abbrev pub counted : ℕ → ℕ → Replied → Replied
counted verifications hashes said = record said { verifications = verifications; hashes = hashes }

-- a reply with its octets behind others
abbrev pub behind : List ℕ → Replied → Replied
behind front said = record said { octets = front ++ said.octets }

-- a reply as contracts see it
abbrev pub reply_seen : Reply → Replied
reply_seen r = record { code = r.code; octets = r.octets.items; verifications = r.verifications; hashes = r.hashes; ttl = r.ttl; until = r.until; ede = r.ede; delegates = r.delegates }

-- ---- what is found

-- the data of records, each behind its length
abbrev pub octets_of_verdict : Verdict → List ℕ
octets_of_verdict (Records d) = flat_map with_length d
octets_of_verdict (StarRecords d) = flat_map with_length d
octets_of_verdict _ = []

-- the owner of a DNAME, and behind it where it leads, if that is no name too long
abbrev pub octets_of_dname : Name → Lead → List ℕ
octets_of_dname owner (To name) = wire owner ++ wire name
octets_of_dname owner TooLong = wire owner

-- Names in wire form: the target of an alias, the owner of a DNAME and where it leads, the cut of a delegation; behind that of a
-- referral its DS records, as the DS set of a case.
abbrev pub octets_found : Seen → List ℕ
octets_found (SeesVerdict v) = octets_of_verdict v
octets_found (SeesDelegated None) = []
octets_found (SeesDelegated (Some cut)) = wire cut
octets_found (SeesNoDs d) = []
octets_found (SeesAlias target) = wire target
octets_found (SeesStarAlias target) = wire target
octets_found SeesOpen = []
octets_found (SeesDname owner leads) = octets_of_dname owner leads
octets_found (SeesReferral cut ds) = wire cut ++ flat_map with_length ds

-- of a name that has no DS record: 1 where it is a delegation, 2 where it is none; 0 where nothing is said of it
abbrev pub delegates_found : Seen → ℕ
delegates_found (SeesNoDs true) = 1
delegates_found (SeesNoDs false) = 2
delegates_found _ = 0

-- for how many seconds a verdict may be kept; 0 where nothing says it
abbrev pub ttl_of : Option Validity → ℕ
ttl_of None = 0
ttl_of (Some l) = l.ttl

-- The last second in which a verdict stands that was given in one, of numbers of 64 bits; 0 where nothing says it.
abbrev pub until_of : ℕ → Option Validity → ℕ
until_of second None = 0
until_of second (Some l) = min (second + l.seconds) 18446744073709551615

-- Why no DS record is judged by, as an extended error (RFC 8914, 4.2 and 4.3): 2 where none has a digest that is made; else 1, since
-- those that have one are of algorithms that are not checked; and 0 where there is no record.
abbrev pub unsupported : List Ds → ℕ
unsupported ds = if length ds == 0 then 0 else if list_any (λ d. is_made d.digest_type) ds then 1 else 2

-- it is said beside the verdict that the zone is not signed
abbrev pub error_beside : ℕ → Seen → ℕ
error_beside error (SeesVerdict Unsigned) = error
error_beside error _ = 0

-- What is replied to what is found at a moment in seconds, beside a DS set with that error.
abbrev pub found_reply : ℕ → ℕ → Seen → Option Validity → Replied
found_reply second error s validity = record {
  code = code_found s;
  octets = octets_found s;
  verifications = 0;
  hashes = 0;
  ttl = ttl_of validity;
  until = until_of second validity;
  ede = error_beside error s;
  delegates = delegates_found s;
}

-- Why a case is refused, as an extended error, of its own question: of signatures those pass that pass in the table (RFC 8914).
abbrev pub own_error : JudgeInput → List Checked → Refusal → ExtendedError
own_error h table refusal = extended_error_of (answers_with (passes_in table)) pointer_limit h refusal

-- where nothing is proven, of the question that may prove more, if the answer suggests one
abbrev pub unproven_error : JudgeInput → List Checked → Option Asked → ExtendedError
unproven_error h table None = own_error h table r.NotProven
unproven_error h table (Some asked) = own_error (aside h asked) table r.NotProven

abbrev pub error_of : JudgeInput → List Checked → Refusal → ExtendedError
error_of h table r.NotProven = unproven_error h table (first_question pointer_limit h)
error_of h table refusal = own_error h table refusal

-- what is replied to a refusal with an error
abbrev pub refusal_reply : Refusal → ExtendedError → Replied
refusal_reply refusal error = record (only (code_refused refusal error)) { ede = code_of error }

-- ---- signatures that are asked for

-- the ends of octets, from the whole to none
abbrev pub ends : List ℕ → List (List ℕ)
ends [] = [] ∷ []
ends (x ∷ octets) = (x ∷ octets) ∷ ends octets

abbrev pub begins_with : List ℕ → List ℕ → Bool
begins_with part octets = starts_with nat_eq octets part

-- octets stand somewhere in others
abbrev pub stands_in : List ℕ → List ℕ → Bool
stands_in octets part = list_any (begins_with part) (ends octets)

-- an entry whose signature stands in one of two messages
abbrev pub is_carried : List ℕ → List ℕ → Checked → Bool
is_carried m n c = stands_in m c.tried.signature || stands_in n c.tried.signature

-- how many signatures may be checked, 16 where no number is said
abbrev pub most_of : ℕ → ℕ
most_of number = if number == 0 then 16 else number

-- Whether what is asked for makes too many signatures, beside the entries of the table whose
-- signatures stand in the messages, so beside all that was asked for of them before (CVE-2023-50387).
abbrev pub are_too_many : ℕ → JudgeInput → List Checked → ℕ → Bool
are_too_many most h table more = nat_lt (most_of most) (length (filter (is_carried h.dnskey_bytes h.answer_bytes) table) + more)

-- entries of signatures that are to be checked, one behind another
abbrev pub entries_of : List Tried → List ℕ
entries_of asks = flat_map checked_octets (map unchecked asks)

-- what is asked for, as entries that fit; or that it is too much
abbrev pub AsksOrStops : Bool → List Tried → Replied → Type 0
AsksOrStops true asks said = said ≡ only c.TooManySignatures
AsksOrStops false asks said = (said ≡ record (only c.Ask) { octets = entries_of asks }) × AllByRecursion FitsChecked (map unchecked asks)

-- the same, beside how often was verified and hashed before
pub record IsAskReplied (stops : Bool) (asks : List Tried) (verifications hashes : ℕ) (said : Replied) : Type 0 where
  pub reply : Replied
  pub asks_or_stops : AsksOrStops stops asks reply
  pub counts : said ≡ counted verifications hashes reply

-- ---- what comes of a search

-- The octets in front of those of what is found, where places are wanted: which records it vouches for.
abbrev pub front_of : Bool → List Checked → JudgeInput → Seen → List ℕ
front_of false table h s = []
front_of true table h s = octets_in_front table h s

-- what is replied to what comes of a search, beside a DS set with that error, and with or without places
abbrev pub IsRepliedTo : OctetCase → ℕ → Bool → JudgeInput → List Checked → AnswerOutcome → Replied → Type 0
IsRepliedTo case error places h table (f.Means meaning validity verifications hashes) said =
    said ≡ behind (front_of places table h (seen meaning)) (counted verifications hashes (found_reply case.moment error (seen meaning) validity))
IsRepliedTo case error places h table (f.Refused refusal verifications hashes) said = said ≡ counted verifications hashes (refusal_reply refusal (error_of h table refusal))
IsRepliedTo case error places h table (f.Asks asks verifications hashes) said =
    IsAskReplied (are_too_many case.max_signatures h table (length asks.items)) asks.items verifications hashes said

-- What is found by a table, and what it is replied as. Of messages in which nothing is forged nothing is found but what is so of a
-- version of the zone, whichever signatures pass beside those of the table. Whatever is found, also signatures that are asked for,
-- the counts of the call are within those of four judgements.
pub record SaysFound (case : OctetCase) (error : ℕ) (places : Bool) (h : JudgeInput) (table : List Checked) (said : Replied) : Type 0 where
  pub found : AnswerOutcome
  pub is_found : IsFound table h found
  pub honest : FindsTruly table h found
  pub within : IsFoundWithin h found
  pub replied : IsRepliedTo case error places h table found said

-- What is said of a case: that one of its messages would cost too much work, or what is found in them.
pub data Says (case : OctetCase) (error : ℕ) (places : Bool) (h : JudgeInput) (table : List Checked) (said : Replied) : Type 0 where
  Crowded : are_crowded h ≡ true → said ≡ only c.MessageTooLong → Says case error places h table said
  Searched : are_crowded h ≡ false → SaysFound case error places h table said → Says case error places h table said

-- what the octets spell, and what is said of it
pub record IsReply (case : OctetCase) (said : Replied) : Type 0 where
  pub judge_input : JudgeInput
  pub table : List Checked
  pub spelled : Spells case judge_input table
  pub says : Says case (unsupported spelled.ds_set) spelled.places judge_input table said

-- A reply to a case: that memory ran out, also for an extended error, or that octets of it spell nothing, or what is found in what
-- they spell.
abbrev pub Replies : OctetCase → Replied → Type 0
Replies case said = ((said ≡ only said.code) × ((said.code ≡ c.OutOfMemory) ⊎ Unread case said.code)) ⊎ IsReply case said

-- ---- what is handed out

-- the size of a report, the only one that is known
abbrev pub report_size : ℕ
report_size = 48

-- what a report says of a reply
abbrev pub report_of : Replied → Report
report_of said = record {
  size = report_size;
  len = length said.octets;
  until = said.until;
  verifications = said.verifications;
  hashes = said.hashes;
  ttl = said.ttl;
  ede = said.ede;
  delegates = said.delegates;
}

-- A reply's octets in front of what was there, where there is room for them; else what was there.
pub record IsHandedOut (said : Replied) (old new : List ℕ) (code : ReplyCode) : Type 0 where
  pub fits : length said.octets ≤ length old → (code ≡ said.code) × (new ≡ said.octets ++ drop (length said.octets) old)
  pub small : length old < length said.octets → (code ≡ c.BufferTooSmall) × (new ≡ old)

-- a reply to a case, and what its report says
pub record IsReported (case : OctetCase) (old new : List ℕ) (report : Report) (code : ReplyCode) : Type 0 where
  pub said : Replied
  pub replies : Replies case said
  pub handed_out : IsHandedOut said old new code
  pub report_is : report ≡ report_of said

-- what a caller gets in octets: of a report of another size nothing but that
pub record Answers (case : OctetCase) (old new : List ℕ) (before after : Report) (code : ReplyCode) : Type 0 where
  pub known : before.size ≡ report_size → IsReported case old new after code
  pub unknown : (before.size ≡ report_size → ⊥) → (code ≡ c.BadCase) × (new ≡ old) × (after ≡ before)

-- the same, the code as its number
pub record AnswersNumber (case : OctetCase) (old new : List ℕ) (before after : Report) (number : ℕ) : Type 0 where
  pub code : ReplyCode
  pub number_is : number ≡ number_of code
  pub answers : Answers case old new before after code
