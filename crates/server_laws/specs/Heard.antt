-- What a judge says of what a name server answers.
use Rattle.std.specs.Prelude.{◌≡◌, MatchBool, ℕ, ◌<◌, ◌≤◌, Bool, true, false, ◌&&◌, ◌==◌, List, [], ◌∷◌, Option, Some, Result, Ok, Err, unwrap_or}
use Rattle.definitions.specs.Limits.{pointer_limit}
use Rattle.definitions.specs.Name.{Name, same, strictly_above}
use Rattle.definitions.specs.Zone.{verdict}
use Rattle.definitions.specs.ZoneChain.{Mode, optout_of}
use Rattle.denial_laws.specs.Aliases.{is_alias_type}
use Rattle.messages.specs.HandedRr.{HandedRr, among}
use Rattle.messages.specs.declared.error.MessageError.{MessageError}
use Rattle.messages.specs.Message.{Asked, Message, message, pair}
use Rattle.messages.specs.WrittenLaws.{IsQuestion}
use Rattle.answer_scheme.specs.Answers.{Answers}
use Rattle.answer_terms.specs.Accepting.{zone_of}
use Rattle.answer_judge.specs.Judging.{Answer, JudgeInput, Says}
use Rattle.answer_judge.specs.Judged.{AnswersAs, judged}
use Rattle.answer_judge.specs.Meeting.{WasGiven}
use Rattle.answer_findings.specs.Judgements.{alias_hint}
use Rattle.message_laws.specs.Given.{WasGivenWithAliases}
use Rattle.message_laws.specs.SeenAlike.{ProvesAlike, SeenAlike, VerifiesAlike}
use Rattle.message_laws.specs.Shown.{IsShown}
use Rattle.server_queries.specs.Headers.{has_flag}
use Rattle.server_queries.specs.Queries.{Queried}
use Rattle.server_responses.specs.Links.{shows_link}
use Rattle.server_responses.specs.Redirects.{redirect_response}
use Rattle.server_responses.specs.Responses.{error_response, is_dnssec_ok}
use Rattle.server_answers.specs.Aliases.{alias_of, for_type}
use Rattle.server_answers.specs.Glued.{AnswersGlued}
use Rattle.server_answers.specs.Parameters.{IsParameters, is_for_parameters}
use Rattle.server_answers.specs.Responding.{IsAnswered, IsMessage, Serving}
use Rattle.server_answers.specs.Subset.{IsSubset, wants_signatures}
use Rattle.server_answers.specs.Synthesized.{IsDenied}
use Rattle.server_answers.specs.World.{served_in}
use Rattle.server_answers.specs.Zones.{IsZone}

-- TC: the message holds less than was asked for (RFC 1035, 4.1.1)
abbrev pub is_truncated : List ℕ → Bool
is_truncated octets = has_flag 512 (pair octets 2)

-- A server of an accepted zone; a question whose fields fit their places, for none of the types that signatures and records of
-- chains have; and a response that holds all, with records of DNSSEC.
pub record IsWhole (s : Serving) (q : Queried) (octets : List ℕ) : Type 0 where
  pub zone : IsZone s.world
  pub asked : IsQuestion q.asked
  pub plain : among (46 ∷ 47 ∷ 50 ∷ []) q.asked.rtype ≡ false
  pub wanted : is_dnssec_ok q ≡ true
  pub limit : s.limit ≤ 65535
  pub size : s.size < 65536
  pub whole : is_truncated octets ≡ false

-- what one message suggests, of which alias a name is, another suggests too
abbrev pub SuggestsAlike : List ℕ → List ℕ → Type 0
SuggestsAlike one other = (h : JudgeInput) (q : Asked) → alias_hint pointer_limit (record h { answer_bytes = other }) ≡ Some q → alias_hint pointer_limit (record h { answer_bytes = one }) ≡ Some q

-- Of one message the same is verified as of another, of each type but OPT, 41, whatever they ask, and it suggests the alias that the other
-- does.
pub record ShowsAlike (one other : List ℕ) : Type 0 where
  pub verifies : (t : ℕ) → (t == 41) ≡ false → VerifiesAlike pointer_limit t one other
  pub suggests : SuggestsAlike one other

-- Of one message a judge says what it says of another, as an answer and as a DNSKEY answer, beside whatever else. In both alike is
-- proved of each type but OPT, they are seen alike as DNSKEY answers, and they suggest one alias.
pub record IsJudgedAs (one other : List ℕ) : Type 0 where
  pub answers : (a : Answers) (h : JudgeInput) → judged a pointer_limit (record h { answer_bytes = one }) ≡ judged a pointer_limit (record h { answer_bytes = other })
  pub keys : (a : Answers) (h : JudgeInput) → judged a pointer_limit (record h { dnskey_bytes = one }) ≡ judged a pointer_limit (record h { dnskey_bytes = other })
  pub proves : (t : ℕ) → (t == 41) ≡ false → ProvesAlike pointer_limit t one other
  pub seen : SeenAlike pointer_limit 48 one other
  pub suggests : SuggestsAlike one other

-- a judge that is handed one of two messages as an answer says the same
abbrev pub SaysAlike : Answers → JudgeInput → List ℕ → List ℕ → Type 0
SaysAlike a h one other = judged a pointer_limit (record h { answer_bytes = one }) ≡ judged a pointer_limit (record h { answer_bytes = other })

-- a response, and the message that it is made of
abbrev pub ResponsesJudgedAlike : Type 0
ResponsesJudgedAlike = (s : Serving) (q : Queried) (old new : Option ℕ) (octets : List ℕ) → IsWhole s q octets → (r : IsAnswered s q old new octets) → IsJudgedAs octets r.m

-- the response to a question for the NSEC3PARAM RRset of a chain of hashes, and the message that it is made of
abbrev pub ParametersJudgedAlike : Type 0
ParametersJudgedAlike =
    (s : Serving) (q : Queried) (m octets : List ℕ) → IsWhole s q octets → is_for_parameters s.world.zone.apex s.world.zone.mode q.asked ≡ true
    → IsParameters s (is_dnssec_ok q) m → AnswersGlued s.limit s.size q s.addresses m octets → IsJudgedAs octets m

-- the same of a question for any type
pub record HoldsAll (s : Serving) (q : Queried) (octets : List ℕ) : Type 0 where
  pub zone : IsZone s.world
  pub asked : IsQuestion q.asked
  pub wanted : is_dnssec_ok q ≡ true
  pub limit : s.limit ≤ 65535
  pub size : s.size < 65536
  pub whole : is_truncated octets ≡ false

-- the response of a message to a question for NSEC has the NSEC record of the name, and leaves out the SOA record
abbrev pub has_link_in : Queried → List ℕ → Result Message MessageError → Bool
has_link_in q m (Err e) = false
has_link_in q m (Ok read) = shows_link q m read.records

abbrev pub is_link_shown : Queried → List ℕ → Bool
is_link_shown q m = has_link_in q m (message pointer_limit m)

-- a question for the SOA record of a zone
abbrev pub asks_soa : Name → Asked → Bool
asks_soa apex a = (a.rtype == 6) && same a.name apex

-- The response to a question for a type that no zone holds, or for NSEC, is made of the message for a reserved type: a judge that takes an
-- answer to another question says of it what it says of that message, whatever it is asked; of a response that shows the NSEC record, and
-- so no SOA record, whatever it is asked but for the SOA record of the zone.
abbrev pub DenialsJudgedAlike : Type 0
DenialsJudgedAlike =
    (s : Serving) (q : Queried) (old new : Option ℕ) (octets : List ℕ) → HoldsAll s q octets → (d : IsDenied s q old new octets)
    → (a : Answers) (h : JudgeInput) → h.other_question ≡ true
    → (is_link_shown q d.0.m && asks_soa s.world.zone.apex h.asked) ≡ false → SaysAlike a h octets d.0.m

-- The response to a question for all records or signatures of a name is made of the message for the type that is chosen, a number of 16
-- bits: such a judge says of it what it says of that message. Only a question for NSEC has a response that shows an NSEC record so.
abbrev pub SubsetsJudgedAlike : Type 0
SubsetsJudgedAlike =
    (s : Serving) (q : Queried) (old new : Option ℕ) (octets : List ℕ) → HoldsAll s q octets
    → (d : IsSubset s q old new octets) → is_link_shown q d.m ≡ false → d.t < 65536 → (a : Answers) (h : JudgeInput) → h.other_question ≡ true → SaysAlike a h octets d.m

-- The response to a question that the CNAME or DNAME RRset of the name answers is made of the message for that type: such a judge says
-- of it what it says of that message.
abbrev pub AliasesJudgedAlike : Type 0
AliasesJudgedAlike =
    (s : Serving) (q : Queried) (t : ℕ) (m octets : List ℕ) → HoldsAll s q octets → is_alias_type t ≡ true
    → IsMessage s (for_type t q.asked) false (wants_signatures q) m → AnswersGlued s.limit s.size q s.addresses m octets → is_link_shown q m ≡ false
    → (a : Answers) (h : JudgeInput) → h.other_question ≡ true → SaysAlike a h octets m

-- What a zone under keys that meet has given, a DNSKEY answer and an answer, is judged by its clients as it is: from the whole responses
-- that they have of both, whichever servers of the zone made them, the judge says the zone's verdict.
abbrev pub ClientsAreTold : Type 0
ClientsAreTold =
    (s t : Serving) (q p : Queried) (old new before behind : Option ℕ) (key_octets octets : List ℕ)
    → IsWhole s q key_octets → (d : IsAnswered s q old new key_octets) → IsWhole t p octets → (r : IsAnswered t p before behind octets)
    → (a : Answers) (h : JudgeInput) (mode : Mode) (rs : List HandedRr) → h.limit < 65536 → WasGiven a pointer_limit (record h { dnskey_bytes = d.m; answer_bytes = r.m }) mode rs
    → (answer : Answer) → AnswersAs answer (judged a pointer_limit (record h { dnskey_bytes = key_octets; answer_bytes = octets }))
    → AnswersAs answer (Says (verdict (zone_of h.apex rs) (optout_of mode) h.asked.name h.asked.rtype))

-- And these responses show what the zone answers, so that walks over them come to verdicts.
abbrev pub ClientsAreShown : Type 0
ClientsAreShown =
    (s t : Serving) (q p : Queried) (old new before behind : Option ℕ) (key_octets octets : List ℕ)
    → IsWhole s q key_octets → (d : IsAnswered s q old new key_octets) → IsWhole t p octets → (r : IsAnswered t p before behind octets)
    → (a : Answers) (h : JudgeInput) (mode : Mode) (rs : List HandedRr) → h.limit < 65536 → WasGiven a pointer_limit (record h { dnskey_bytes = d.m; answer_bytes = r.m }) mode rs
    → IsShown a pointer_limit (record h { dnskey_bytes = key_octets; answer_bytes = octets }) mode rs

-- ---- zones with aliases

-- What is said of the message for the RRset of an alias: a DNAME above the name redirects it, by the CNAME that is made from it or as
-- YXDOMAIN; another RRset stands in the response alone.
abbrev pub IsAliasResponse : Serving → Queried → Asked → List ℕ → List ℕ → Type 0
IsAliasResponse s q alias octets m =
    MatchBool (strictly_above alias.name q.asked.name) (octets ≡ unwrap_or (redirect_response s.limit s.size q m) (error_response s.size q 2)) (AnswersGlued s.limit s.size q s.addresses m octets)

-- the response to a question that the RRset of an alias answers, and the message for this that it is made of
pub record IsAliasAnswered (s : Serving) (q : Queried) (octets m : List ℕ) : Type 0 where
  pub alias : Asked
  pub answers : alias_of s.world.zone.mode (served_in s.world).zone q.asked ≡ Some alias
  pub is_message : IsMessage s alias false (wants_signatures q) m
  pub is_response : IsAliasResponse s q alias octets m

-- a response, and the message that it is made of: that for the question; or, where the RRset of an alias answers, the message for that
pub data IsResponse (s : Serving) (q : Queried) (octets m : List ℕ) : Type 0 where
  Itself : {old new : Option ℕ} (r : IsAnswered s q old new octets) → r.m ≡ m → IsResponse s q octets m
  ByAlias : IsAliasAnswered s q octets m → IsResponse s q octets m

-- What a zone under keys that meet has given, aliases among its records or not, is shown to its clients as it is: the whole responses that
-- they have show what the zone answers, by an alias or not, so that walks over them come to verdicts.
abbrev pub AliasedClientsAreShown : Type 0
AliasedClientsAreShown =
    (s t : Serving) (q p : Queried) (old new : Option ℕ) (key_octets octets m : List ℕ)
    → IsWhole s q key_octets → (d : IsAnswered s q old new key_octets) → IsWhole t p octets → IsResponse t p octets m
    → (a : Answers) (h : JudgeInput) (mode : Mode) (rs : List HandedRr) → WasGivenWithAliases a pointer_limit (record h { dnskey_bytes = d.m; answer_bytes = m }) mode rs
    → IsShown a pointer_limit (record h { dnskey_bytes = key_octets; answer_bytes = octets }) mode rs
