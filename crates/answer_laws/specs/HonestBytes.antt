-- What was signed in a run so far, and what a judgement of messages says in which nothing is forged.
use Rattle.std.specs.Prelude.{◌≡◌, ℕ, List, [], ◌∷◌, ◌++◌, Contains, Some, slice_get}
use Rattle.std.specs.List.{AllByRecursion, flat_map}
use Rattle.definitions.specs.Dnskey.{Dnskey, Ds}
use Rattle.definitions.specs.Limits.{pointer_limit}
use Rattle.denial_laws.specs.Truth.{NoSharedHash}
use Rattle.messages.specs.HandedRr.{HandedRr}
use Rattle.messages.specs.Message.{Asked, Spelled}
use Rattle.messages.specs.Questions.{asked_of}
use Rattle.answer_terms.specs.Accepting.{zone_of}
use Rattle.answer_terms.specs.Hashing.{hash_in}
use Rattle.answer_events.specs.declared.event.Event.{Event}
use Rattle.answer_events.specs.declared.event.Act.{Act}
use Rattle.answer_events.specs.declared.event.Act.TheVariants as act
use Rattle.answer_scheme.specs.Moments.{second_of}
use Rattle.answer_judge.specs.Honest.{IsHonest, NoStranger, SaysAtMost, Signing, WasSigned, sought_of_answer, sought_of_keys}
use Rattle.answer_judge.specs.Versions.{Version}
use Rattle.answer_judge.specs.OwnMessages.{signing_of}
use Rattle.answer_judge_facts.specs.Sought.{Sought}
use Rattle.answer_judge.specs.Judging.{Answer, JudgeInput, answer_of}
use Rattle.answer_publisher_keys.specs.Bindings.{ZoneKeys, dnskeys, published}
use Rattle.answer_publisher_keys.specs.declared.keys.Publication.TheVariants as publication
use Rattle.answer_publisher.specs.World.{World, present_keys}
use Rattle.answer_outcomes.specs.declared.outcome.Outcome.{Outcome}
use Rattle.answer_outcomes.specs.declared.outcome.Outcome.TheVariants as outcome
use Rattle.answer_laws.specs.Simulating as things
use Rattle.answer_laws.specs.Simulating.{Simulates, Sofar, begin, judge_input}
use Rattle.answer_laws.specs.ThroughRolls.{past_with}

-- the zone where it has these records; its chain stays as it is
abbrev pub version_of : World → List HandedRr → Version
version_of w rs = record { records = rs; mode = w.zone.mode; made = [] }

-- The versions that were signed, each at the times of a zone answer that was handed out, with one more event. A DNSKEY answer
-- has no RRset of a version, and what is refused hands nothing out.
abbrev pub signings_with : List Signing → World → List HandedRr → ℕ → Act → Outcome → List Signing
signings_with signings w rs at (act.Ask q) (outcome.Message place octets) = signings ++ signing_of w.zone.mode rs (second_of at) w.life ∷ []
signings_with signings w rs at _ _ = signings

-- the keys that a state publishes: at the parent, or in the DNSKEY answer
abbrev pub published_in : ZoneKeys → List Dnskey
published_in keys = dnskeys (published keys publication.AtParent) ++ present_keys keys

-- those of the states so far, the present one last
abbrev pub published_by : List ZoneKeys → ZoneKeys → List Dnskey
published_by past keys = flat_map published_in (past ++ keys ∷ [])

-- a version of the run, signed from the second of an answer that was of it, until whenever
pub record IsOfRun (signings : List Signing) (s : Signing) : Type 0 where
  pub given : Signing
  pub there : Contains signings given
  pub version_is : s.version ≡ given.version
  pub began : s.times.inception ≡ given.times.inception

-- a message in which nothing is forged, of what was signed in the run so far
abbrev pub IsHonestSo : World → List Signing → List ZoneKeys → Sofar → JudgeInput → (List Spelled → Sought) → List ℕ → Type 0
IsHonestSo w signed past s h sought m =
    IsHonest w.answers pointer_limit h (published_by past s.keys) (WasSigned w.answers h.apex (published_by past s.keys) signed) sought m

-- names of the zone's chain have different hashes, and none of them shares its hash with another name that the question concerns
abbrev pub IsApart : World → Asked → List HandedRr → Type 0
IsApart w asked rs = NoSharedHash (zone_of w.zone.apex rs) (hash_in w.answers.hash w.zone.mode) w.zone.mode asked.name

-- What is handed in beside a DS set that isn't empty: two messages in which nothing is forged, each key of the first that the
-- DS set trusts a published one.
pub record AreHonestSo (w : World) (signings : List Signing) (past : List ZoneKeys) (s : Sofar) (h : JudgeInput) : Type 0 where
  pub some : h.ds ≡ [] → ⊥
  pub signed : List Signing
  pub of_run : AllByRecursion (IsOfRun signings) signed
  pub keys_honest : IsHonestSo w signed past s h (sought_of_keys h) h.dnskey_bytes
  pub keys_known : NoStranger w.answers pointer_limit h (published_by past s.keys)
  pub answer_honest : IsHonestSo w signed past s h (sought_of_answer pointer_limit h) h.answer_bytes

-- a judgement of these says the zone's verdict, of a name that is no alias there, or refuses
abbrev pub SaysHonestly : World → List HandedRr → List Signing → List ZoneKeys → Sofar → ℕ → List Ds → List ℕ → List ℕ → Asked → Answer → Type 0
SaysHonestly w rs signings past s at set dnskey bytes asked answer =
    AreHonestSo w signings past s (judge_input w set dnskey bytes asked at) → IsApart w asked rs
    → SaysAtMost (judge_input w set dnskey bytes asked at) (version_of w rs) answer

-- a fact of what a judgement is handed and answers, of things that were shown, and of any bytes beside a DS set that was shown
abbrev pub AtJudgement : (List Ds → List ℕ → List ℕ → Asked → Answer → Type 0) → Sofar → Act → Outcome → Type 0
AtJudgement Says s (act.Judge ds dnskey answer) (outcome.Judged j) =
    (set : List Ds) (keys bytes : List ℕ) (asked : Asked)
    → slice_get s.shown ds ≡ Some (things.OfParent set) → slice_get s.shown dnskey ≡ Some (things.OfKeys keys) → slice_get s.shown answer ≡ Some (things.OfZone asked bytes)
    → Says set keys bytes asked (answer_of j)
AtJudgement Says s (act.JudgeBytes ds dnskey answer q) (outcome.Judged j) =
    (set : List Ds) → slice_get s.shown ds ≡ Some (things.OfParent set) → Says set dnskey.items answer.items (asked_of q) (answer_of j)
AtJudgement Says s _ _ = Unit {0}

abbrev pub VerdictHonest : World → List HandedRr → List Signing → List ZoneKeys → Sofar → ℕ → Act → Outcome → Type 0
VerdictHonest w rs signings past s at a o = AtJudgement (SaysHonestly w rs signings past s at) s a o

-- at each judgement of a simulation
abbrev pub VerdictsHonest : (w : World) (rs : List HandedRr) (signings : List Signing) (past : List ZoneKeys) (s : Sofar) (es : List Event) (os : List Outcome) (u : Sofar) → Simulates w s es os u → Type 0
VerdictsHonest w rs signings past s [] [] u run = Unit {0}
VerdictsHonest w rs signings past s (e ∷ es) (o ∷ os) u run = VerdictHonest w rs signings past s e.at e.act o × VerdictsHonest w rs (signings_with signings w rs e.at e.act o) (past_with past s.keys e.act o) run.0 es os u run.2
VerdictsHonest w rs signings past s [] (o ∷ os) u run = Unit {0}
VerdictsHonest w rs signings past s (e ∷ es) [] u run = Unit {0}

-- in every run from the beginning with these outcomes
abbrev pub NoFalseVerdicts : World → List HandedRr → List Event → List Outcome → Type 0
NoFalseVerdicts w rs es os = (end : Sofar) (run : Simulates w (begin w.zone) es os end) → VerdictsHonest w rs [] [] (begin w.zone) es os end run
