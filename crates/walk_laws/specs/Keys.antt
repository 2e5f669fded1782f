-- What is said beside keys that are shown, as those that a zone has given.
use Rattle.std.specs.Prelude.{◌≡◌, ℕ, Bool, false, List}
use Rattle.definitions.specs.ZoneChain.{Mode}
use Rattle.messages.specs.HandedRr.{HandedRr}
use Rattle.answer_scheme.specs.Answers.{Answers}
use Rattle.answer_judge.specs.Meeting.{WasGiven}
use Rattle.answer_judge.specs.Judged.{AnswersAs, judged}
use Rattle.answer_judge.specs.Judging.{Answer, Says, Refuses, JudgeInput}
use Rattle.message_laws.specs.Given.{KeysWereGiven}
use Rattle.message_laws.specs.Shown.{ShowsKeys}
use Rattle.resolution_walk.specs.Judged.{is_of_keys}

-- a refusal for the zone's keys
abbrev pub is_refused_for_keys : Answer → Bool
is_refused_for_keys (Says v) = false
is_refused_for_keys (Refuses e) = is_of_keys e

-- A judge does not refuse keys that are shown, whatever it is asked and whatever answer stands beside them. Keys that were given so are
-- shown; and a zone that has given an answer under keys that meet has given them so.
pub record GivenKeysAreTrusted : Type 0 where
  pub trusted : (a : Answers) (k : ℕ) (h : JudgeInput) (answer : Answer) → ShowsKeys a k h.apex h.ds h.dnskey_bytes h.now → AnswersAs answer (judged a k h) → is_refused_for_keys answer ≡ false
  pub shown : (a : Answers) (k : ℕ) (h : JudgeInput) → KeysWereGiven a k h.apex h.ds h.dnskey_bytes h.now → ShowsKeys a k h.apex h.ds h.dnskey_bytes h.now
  pub given : (a : Answers) (k : ℕ) (h : JudgeInput) (mode : Mode) (rs : List HandedRr) → WasGiven a k h mode rs → KeysWereGiven a k h.apex h.ds h.dnskey_bytes h.now
