-- Messages in which nothing is forged, of a zone that never changed.
use Rattle.std.specs.Prelude.{◌≡◌, ℕ, ◌<◌, true, false, ◌&&◌, List, [], Ok}
use Rattle.definitions.specs.Name.{at_or_above}
use Rattle.definitions.specs.ZoneChain.{Mode}
use Rattle.denial_laws.specs.Truth.{is_added_type}
use Rattle.messages.specs.HandedRr.{HandedRr}
use Rattle.messages.specs.Message.{Asked, Message, message}
use Rattle.answer_scheme.specs.Answers.{Answers}
use Rattle.answer_terms.specs.Served.{answer_groups}
use Rattle.answer_zone_records.specs.AliasFaults.{IsAcceptedWithAliases}
use Rattle.answer_judge_facts.specs.Times.{are_unlike, proof_times}
use Rattle.answer_judge.specs.Honest.{AreHonestOf}
use Rattle.answer_judge.specs.Judged.{trusting}
use Rattle.answer_judge.specs.Judging.{JudgeInput}
use Rattle.answer_judge.specs.Meeting.{served_from}
use Rattle.answer_judge.specs.Versions.{Version}
use Rattle.message_laws.specs.Held.{HoldsAnswer}
use Rattle.message_laws.specs.Shown.{IsTruthful, Shows, ShowsKeys, usable_of}

-- the one version of a zone, whose signer makes no records of denial for questions
abbrev pub as_published : Mode → List HandedRr → Version
as_published mode rs = record { records = rs; mode = mode; made = [] }

-- Octets show keys, and beside them a message reads in which nothing is forged for a question; and the signatures by which it is verified
-- are of one moment, if they must be.
pub record IsHonestOn (a : Answers) (k : ℕ) (h : JudgeInput) (keys : ShowsKeys a k h.apex h.ds h.dnskey_bytes h.now) (read : Message) (mode : Mode) (rs : List HandedRr) (asked : Asked) : Type 0 where
  pub reads : message k h.answer_bytes ≡ Ok read
  pub plain : is_added_type asked.rtype ≡ false
  pub moment : (h.one_moment && are_unlike (proof_times (trusting a h (usable_of keys)) k h.answer_bytes read.records asked.name asked.rtype)) ≡ false
  pub honest : AreHonestOf a k (record h { asked = asked }) (as_published mode rs)

-- Then what is verified in it is true of the zone.
abbrev pub HonestIsTruthful : Type 0
HonestIsTruthful =
    (a : Answers) (k : ℕ) (h : JudgeInput) (keys : ShowsKeys a k h.apex h.ds h.dnskey_bytes h.now) (read : Message) (mode : Mode) (rs : List HandedRr) (asked : Asked)
    → IsHonestOn a k h keys read mode rs asked → IsTruthful a k h (usable_of keys) read mode rs asked

-- And where it holds what an accepted zone answers, it shows that, whoever signed and sent it.
abbrev pub HonestIsShown : Type 0
HonestIsShown =
    (a : Answers) (k : ℕ) (h : JudgeInput) (keys : ShowsKeys a k h.apex h.ds h.dnskey_bytes h.now) (read : Message) (mode : Mode) (rs : List HandedRr) (asked : Asked)
    → IsHonestOn a k h keys read mode rs asked → h.limit < 65536 → IsAcceptedWithAliases a.hash h.apex mode h.limit rs → at_or_above h.apex asked.name ≡ true
    → HoldsAnswer (trusting a h (usable_of keys)) k h.answer_bytes read.records (answer_groups (served_from a h mode rs) asked.name asked.rtype) asked
    → Shows a k h (usable_of keys) read mode rs asked
