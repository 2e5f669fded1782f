-- What judgements say of a zone whose records are replaced: of the records that an answer was of, and never of a mixture.
use Rattle.std.specs.Prelude.{◌≡◌, ◌⊎◌, ℕ, ◌+◌, ◌<◌, Bool, true, ◌&&◌, List, [], ◌∷◌, ◌++◌, Contains, Option, Some, None, Ok, length, map, nat_le, slice_get}
use Rattle.std.specs.List.{AllByRecursion}
use Rattle.definitions.specs.Dnskey.{Ds}
use Rattle.definitions.specs.Limits.{pointer_limit}
use Rattle.messages.specs.HandedRr.{HandedRr, handed_of}
use Rattle.messages.specs.Message.{Asked}
use Rattle.answer_terms.specs.Accepting.{sorted_records}
use Rattle.answer_events.specs.declared.event.Act.{Act}
use Rattle.answer_events.specs.declared.event.Act.TheVariants as act
use Rattle.answer_events.specs.declared.event.Event.{Event}
use Rattle.answer_judge.specs.Honest.{HasOneRrset, SaysOneOf, Signing}
use Rattle.answer_judge.specs.Judging.{Answer, JudgeInput}
use Rattle.answer_publisher.specs.Replacing.{noted, whole_second}
use Rattle.answer_publisher.specs.World.{World}
use Rattle.answer_publisher_keys.specs.Bindings.{ZoneKeys}
use Rattle.answer_outcomes.specs.declared.outcome.Outcome.{Outcome}
use Rattle.answer_outcomes.specs.declared.outcome.Outcome.TheVariants as outcome
use Rattle.answer_laws.specs.HonestBytes.{AreHonestSo, AtJudgement, IsApart, published_by, signings_with, version_of}
use Rattle.answer_laws.specs.OneState.{Moment, VerdictAt, moments_with}
use Rattle.answer_laws.specs.Simulating.{Simulates, Sofar, begin, judge_input, with_records}
use Rattle.answer_laws.specs.ThroughRolls.{History, VerdictThrough, history_with, no_history, past_with}

-- ---- versions

-- A version of a zone is a list of records as it was handed in and accepted: the first one, and each that replaced the one
-- before. Those so far, the one of now, and that of now at the showing of each thing.
pub record Versions : Type 0 where
  pub all : List (List HandedRr)
  pub now : List HandedRr
  pub shown : List (List HandedRr)

abbrev pub first_version : List HandedRr → Versions
first_version rs = record { all = rs ∷ []; now = rs; shown = [] }

abbrev pub replaced_by : Versions → List HandedRr → Versions
replaced_by v rs = record { all = v.all ++ rs ∷ []; now = rs; shown = v.shown }

abbrev pub with_showing : Versions → Versions
with_showing v = record v { shown = v.shown ++ v.now ∷ [] }

-- with one more event
abbrev pub versions_with : Versions → Act → Outcome → Versions
versions_with v (act.Replace records) (outcome.Replaced (Ok u)) = replaced_by v (map handed_of records.items)
versions_with v (act.Key c) o = v
versions_with v (act.Judge ds dnskey answer) o = v
versions_with v (act.JudgeBytes ds dnskey answer q) o = v
versions_with v act.ShowDs (outcome.Ds place set) = with_showing v
versions_with v act.ShowDnskey (outcome.Message place octets) = with_showing v
versions_with v (act.Ask q) (outcome.Message place octets) = with_showing v
versions_with v _ _ = v

-- The greatest second of a replacement so far, and whether no answer was of a second before that of the replacements in front of it.
-- Since no replacement comes too soon, the seconds in front of one lie then before all seconds behind it.
pub record Parting : Type 0 where
  pub since : Option ℕ
  pub kept : Bool

abbrev pub no_parting : Parting
no_parting = record { since = None; kept = true }

-- a moment's second is not before another
abbrev pub is_behind : Option ℕ → ℕ → Bool
is_behind None at = true
is_behind (Some second) at = nat_le second (whole_second at)

-- with one more event, at a moment
abbrev pub parting_with : Parting → ℕ → Act → Outcome → Parting
parting_with p at (act.Replace records) (outcome.Replaced (Ok u)) = record p { since = noted p.since at }
parting_with p at (act.Key c) o = p
parting_with p at (act.Judge ds dnskey answer) o = p
parting_with p at (act.JudgeBytes ds dnskey answer q) o = p
parting_with p at (act.Ask q) (outcome.Message place octets) = record p { kept = p.kept && is_behind p.since at }
parting_with p at _ _ = p

-- the world with a version of its zone
abbrev pub in_version : World → List HandedRr → World
in_version w rs = with_records w (sorted_records rs)

-- ---- the events so far

-- the moments of all events, the showing of each thing in both ways, the keys that were passed, what was signed, the versions of
-- the zone, and how replacements part the seconds of answers
pub record Story : Type 0 where
  pub times : List ℕ
  pub moments : List Moment
  pub history : History
  pub past : List ZoneKeys
  pub signings : List Signing
  pub versions : Versions
  pub parting : Parting

abbrev pub first_story : List HandedRr → Story
first_story rs = record { times = []; moments = []; history = no_history; past = []; signings = []; versions = first_version rs; parting = no_parting }

-- with one more event, before which there are these keys
abbrev pub story_with : World → Story → ZoneKeys → ℕ → Act → Outcome → Story
story_with w y keys at a o = record {
  times = y.times ++ at ∷ [];
  moments = moments_with y.moments keys at a o;
  history = history_with y.history at a o;
  past = past_with y.past keys a o;
  signings = signings_with y.signings w y.versions.now at a o;
  versions = versions_with y.versions a o;
  parting = parting_with y.parting at a o;
}

-- ---- judgements

-- the versions that a judgement is about: of things that were shown the one of the zone answer, of any bytes each one so far
abbrev pub IsAbout : Versions → Act → List HandedRr → Type 0
IsAbout v (act.Judge ds dnskey answer) rs = slice_get v.shown answer ≡ Some rs
IsAbout v (act.JudgeBytes ds dnskey answer q) rs = Contains v.all rs
IsAbout v _ rs = ⊥

-- The seconds of answers in front of a replacement lie before all those behind it, and all seconds less than 2^32 apart. Moments may
-- go back otherwise, as where a clock is put right.
pub record AreTimely (y : Story) : Type 0 where
  pub parted : y.parting.kept ≡ true
  pub near : (m n : ℕ) → Contains y.times m → Contains y.times n → whole_second m < whole_second n + 4294967296

-- the zone never changed, or the events so far are timely, or one RRset of the zone answer is signed
abbrev pub IsSettled : World → Story → Sofar → JudgeInput → Type 0
IsSettled w y s h = (length y.versions.all ≡ 1) ⊎ (AreTimely y ⊎ HasOneRrset w.answers pointer_limit h (published_by y.past s.keys))

-- A judgement of messages in which nothing is forged says the verdict of one version, in which the name is no alias, or refuses:
-- a mixture of two is never taken for a zone.
abbrev pub SaysOneHonestly : World → Story → Sofar → ℕ → List Ds → List ℕ → List ℕ → Asked → Answer → Type 0
SaysOneHonestly w y s at set dnskey bytes asked answer =
    AreHonestSo w y.signings y.past s (judge_input w set dnskey bytes asked at) → AllByRecursion (IsApart w asked) y.versions.all → IsSettled w y s (judge_input w set dnskey bytes asked at)
    → SaysOneOf (judge_input w set dnskey bytes asked at) (map (version_of w) y.versions.all) answer

-- What an event brings behind others. A judgement of things of one state of the keys, or of any three states, none of them
-- retired, says the verdict of the version that the zone answer was of, whatever versions came before and behind; one of any
-- bytes that tell such answers, that of the version whose answer they tell.
pub record SaysOfVersions (w : World) (y : Story) (s : Sofar) (at : ℕ) (a : Act) (o : Outcome) : Type 0 where
  pub one_state : (rs : List HandedRr) → IsAbout y.versions a rs → VerdictAt (in_version w rs) rs y.moments s at a o
  pub through_rolls : (rs : List HandedRr) → IsAbout y.versions a rs → VerdictThrough (in_version w rs) rs y.history y.past s at a o
  pub no_false : AtJudgement (SaysOneHonestly w y s at) s a o

-- at each event of a simulation
abbrev pub VersionsAlong : (w : World) (y : Story) (s : Sofar) (es : List Event) (os : List Outcome) (u : Sofar) → Simulates w s es os u → Type 0
VersionsAlong w y s [] [] u run = Unit {0}
VersionsAlong w y s (e ∷ es) (o ∷ os) u run = SaysOfVersions w y s e.at e.act o × VersionsAlong w (story_with w y s.keys e.at e.act o) run.0 es os u run.2
VersionsAlong w y s [] (o ∷ os) u run = Unit {0}
VersionsAlong w y s (e ∷ es) [] u run = Unit {0}

-- in every run from the beginning with these outcomes, of a zone whose first version these records are
abbrev pub SaysVersions : World → List HandedRr → List Event → List Outcome → Type 0
SaysVersions w rs es os = (end : Sofar) (run : Simulates w (begin w.zone) es os end) → VersionsAlong w (first_story rs) (begin w.zone) es os end run

-- ---- a zone that doesn't change

-- not a replacement that was accepted
abbrev pub KeepsZone : Outcome → Type 0
KeepsZone (outcome.Replaced (Ok u)) = ⊥
KeepsZone _ = Unit {0}

abbrev pub NeverReplaced : List Outcome → Type 0
NeverReplaced os = AllByRecursion KeepsZone os
