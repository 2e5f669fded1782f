-- What a judge says of messages that show a zone's answer.
use Rattle.std.specs.Prelude.{◌≡◌, ◌⊎◌, ℕ, ◌<◌, true, false, ◌==◌, List, Some, Ok}
use Rattle.definitions.specs.Name.{IsName, Name, low}
use Rattle.definitions.specs.Zone.{verdict}
use Rattle.definitions.specs.ZoneChain.{Mode, optout_of}
use Rattle.denial_laws.specs.Aliases.{is_aliased}
use Rattle.messages.specs.HandedRr.{HandedRr}
use Rattle.messages.specs.Message.{Asked, Message, message}
use Rattle.messages.specs.WrittenLaws.{IsQuestion}
use Rattle.answer_scheme.specs.Answers.{Answers}
use Rattle.answer_terms.specs.Accepting.{zone_of}
use Rattle.answer_terms.specs.Asking.{is_allowed}
use Rattle.answer_terms.specs.Hashing.{HashesHold}
use Rattle.answer_zone_records.specs.AliasFaults.{IsAcceptedWithAliases}
use Rattle.answer_judge.specs.Judged.{judged}
use Rattle.answer_judge.specs.Judging.{JudgeInput, Says, may_ask}
use Rattle.answer_judge.specs.Meeting.{WasGiven}
use Rattle.answer_findings.specs.Judgements.{alias_hint}
use Rattle.message_laws.specs.Given.{WasGivenWithAliases}
use Rattle.message_laws.specs.InPlace.{in_place}
use Rattle.message_laws.specs.SeenAlike.{SeenAlike, VerifiesAlike}
use Rattle.message_laws.specs.Shown.{IsShown, Shows, ShowsKeys, usable_of}

-- Of messages that show the keys of a zone and its answer to an allowed question, whose name is no alias for the type, a judge says the
-- zone's verdict, whatever else the messages hold.
abbrev pub ShownIsSaid : Type 0
ShownIsSaid =
    (a : Answers) (k : ℕ) (h : JudgeInput) (mode : Mode) (rs : List HandedRr) (keys : ShowsKeys a k h.apex h.ds h.dnskey_bytes h.now) (read : Message)
    → message k h.answer_bytes ≡ Ok read → may_ask h read.asked ≡ true → IsAcceptedWithAliases a.hash h.apex mode h.limit rs → IsQuestion h.asked → is_allowed h.apex h.asked ≡ true
    → HashesHold a.hash mode (zone_of h.apex rs) h.asked.name → is_aliased (zone_of h.apex rs) (optout_of mode) h.asked.name h.asked.rtype ≡ false
    → Shows a k h (usable_of keys) read mode rs h.asked
    → judged a k h ≡ Says (verdict (zone_of h.apex rs) (optout_of mode) h.asked.name h.asked.rtype)

-- What a zone without aliases has given shows what it answers; limits are numbers of 16 bits.
abbrev pub GivenIsShown : Type 0
GivenIsShown = (a : Answers) (k : ℕ) (h : JudgeInput) (mode : Mode) (rs : List HandedRr) → h.limit < 65536 → WasGiven a k h mode rs → IsShown a k h mode rs

-- So does what a zone with aliases has given, by an alias or not.
abbrev pub GivenWithAliasesIsShown : Type 0
GivenWithAliasesIsShown = (a : Answers) (k : ℕ) (h : JudgeInput) (mode : Mode) (rs : List HandedRr) → WasGivenWithAliases a k h mode rs → IsShown a k h mode rs

-- Of two pairs of messages one shows what the other shows: their DNSKEY answers are seen alike; in their answers, whatever these ask, the
-- same is verified of each type but OPT, 41; and, if the zone answers by an alias, the one suggests that which the other does.
abbrev pub AlikeShowsAlike : Type 0
AlikeShowsAlike =
    (a : Answers) (k : ℕ) (h : JudgeInput) (mode : Mode) (rs : List HandedRr) (key_octets other_keys octets other : List ℕ)
    → SeenAlike k 48 key_octets other_keys → ((t : ℕ) → (t == 41) ≡ false → VerifiesAlike k t octets other)
    → (in_place (zone_of h.apex rs) h.asked ≡ h.asked)
    ⊎ ((q : Asked) → alias_hint k (record h { dnskey_bytes = other_keys; answer_bytes = other }) ≡ Some q → alias_hint k (record h { dnskey_bytes = key_octets; answer_bytes = octets }) ≡ Some q)
    → IsShown a k (record h { dnskey_bytes = other_keys; answer_bytes = other }) mode rs → IsShown a k (record h { dnskey_bytes = key_octets; answer_bytes = octets }) mode rs

-- the same, asked for a name as it is spelled
abbrev pub named : JudgeInput → Name → JudgeInput
named h name = record h { asked = record h.asked { name = name } }

-- In which case the question's name is spelled means nothing to what is shown.
abbrev pub ShownInAnyCase : Type 0
ShownInAnyCase =
    (a : Answers) (k : ℕ) (h : JudgeInput) (mode : Mode) (rs : List HandedRr) (name : Name) → low h.asked.name ≡ low name → IsName name
    → IsShown a k h mode rs → IsShown a k (named h name) mode rs
