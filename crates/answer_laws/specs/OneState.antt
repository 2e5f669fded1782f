-- What a judgement says of things that were given in one state of the keys.
use Rattle.std.specs.Prelude.{◌≡◌, ℕ, true, List, [], ◌∷◌, ◌++◌, Some, slice_get}
use Rattle.definitions.specs.Zone.{verdict}
use Rattle.definitions.specs.ZoneChain.{optout_of}
use Rattle.answer_events.specs.declared.event.Event.{Event}
use Rattle.answer_events.specs.declared.event.Act.{Act}
use Rattle.answer_events.specs.declared.event.Act.TheVariants as act
use Rattle.answer_outcomes.specs.declared.outcome.Outcome.{Outcome}
use Rattle.answer_outcomes.specs.declared.outcome.Outcome.TheVariants as outcome
use Rattle.answer_publisher_keys.specs.declared.keys.Publication.TheVariants as publication
use Rattle.messages.specs.HandedRr.{HandedRr}
use Rattle.answer_terms.specs.Accepting.{zone_of}
use Rattle.answer_terms.specs.Hashing.{HashesHold}
use Rattle.answer_publisher_keys.specs.Bindings.{ZoneKeys, dnskeys, published}
use Rattle.answer_judge.specs.Judged.{AnswersAs}
use Rattle.answer_judge.specs.Judging.{Says, answer_of}
use Rattle.answer_judge.specs.Meeting.{Meet, holds}
use Rattle.messages.specs.Message.{Asked}
use Rattle.messages.specs.Questions.{asked_of}
use Rattle.answer_terms.specs.Asking.{is_allowed}
use Rattle.answer_scheme.specs.Moments.{second_of}
use Rattle.answer_laws.specs.Simulating.{OfZone, Simulates, Sofar, begin}
use Rattle.answer_publisher.specs.World.{TellsAnswer, TellsKeys, World}

-- the keys and the time at which a thing was shown
pub record Moment : Type 0 where
  pub keys : ZoneKeys
  pub at : ℕ

abbrev pub moment : ZoneKeys → ℕ → Moment
moment keys at = record { keys = keys; at = at }

-- the keys of one state meet
abbrev pub MeetsItself : ZoneKeys → Type 0
MeetsItself keys = Meet (dnskeys (published keys publication.AtParent)) (dnskeys (published keys publication.Present)) (dnskeys (published keys publication.SignsKeys)) (dnskeys (published keys publication.SignsZone))

-- a thing that is shown has the present moment, at its place
abbrev pub moments_with : List Moment → ZoneKeys → ℕ → Act → Outcome → List Moment
moments_with ms keys at (act.Key c) o = ms
moments_with ms keys at (act.Judge ds dnskey answer) o = ms
moments_with ms keys at (act.JudgeBytes ds dnskey answer q) o = ms
moments_with ms keys at act.ShowDs (outcome.Ds place set) = ms ++ moment keys at ∷ []
moments_with ms keys at act.ShowDnskey (outcome.Message place octets) = ms ++ moment keys at ∷ []
moments_with ms keys at (act.Ask q) (outcome.Message place octets) = ms ++ moment keys at ∷ []
moments_with ms keys at _ _ = ms

-- A judgement of three things that were shown in one state says the zone's verdict, where the state's keys meet and the
-- signatures hold. So does one of any bytes that tell the DNSKEY answer of that state and the zone's answer to a question,
-- given at any two moments: in whatever case owners are spelled, however names are compressed, and whatever flags and TTLs the
-- messages have.
abbrev pub VerdictAt : World → List HandedRr → List Moment → Sofar → ℕ → Act → Outcome → Type 0
VerdictAt w rs ms s at (act.Judge ds dnskey answer) (outcome.Judged j) =
    (keys : ZoneKeys) (parent_at keys_at answer_at : ℕ) (asked : Asked) (bytes : List ℕ)
    → slice_get ms ds ≡ Some (moment keys parent_at) → slice_get ms dnskey ≡ Some (moment keys keys_at) → slice_get ms answer ≡ Some (moment keys answer_at)
    → slice_get s.shown answer ≡ Some (OfZone asked bytes)
    → MeetsItself keys → holds (second_of keys_at) w.life (second_of at) ≡ true → holds (second_of answer_at) w.life (second_of at) ≡ true
    → HashesHold w.answers.hash w.zone.mode (zone_of w.zone.apex rs) asked.name
    → AnswersAs (answer_of j) (Says (verdict (zone_of w.zone.apex rs) (optout_of w.zone.mode) asked.name asked.rtype))
VerdictAt w rs ms s at (act.JudgeBytes ds dnskey answer q) (outcome.Judged j) =
    (keys : ZoneKeys) (parent_at keys_at answer_at : ℕ)
    → slice_get ms ds ≡ Some (moment keys parent_at)
    → TellsKeys w keys keys_at dnskey.items → TellsAnswer w keys answer_at (asked_of q) answer.items → is_allowed w.zone.apex (asked_of q) ≡ true
    → MeetsItself keys → holds (second_of keys_at) w.life (second_of at) ≡ true → holds (second_of answer_at) w.life (second_of at) ≡ true
    → HashesHold w.answers.hash w.zone.mode (zone_of w.zone.apex rs) (asked_of q).name
    → AnswersAs (answer_of j) (Says (verdict (zone_of w.zone.apex rs) (optout_of w.zone.mode) (asked_of q).name (asked_of q).rtype))
VerdictAt w rs ms s at _ _ = Unit {0}

-- at each judgement of a simulation
abbrev pub VerdictsAlong : (w : World) (rs : List HandedRr) (ms : List Moment) (s : Sofar) (es : List Event) (os : List Outcome) (u : Sofar) → Simulates w s es os u → Type 0
VerdictsAlong w rs ms s [] [] u run = Unit {0}
VerdictsAlong w rs ms s (e ∷ es) (o ∷ os) u run = VerdictAt w rs ms s e.at e.act o × VerdictsAlong w rs (moments_with ms s.keys e.at e.act o) run.0 es os u run.2
VerdictsAlong w rs ms s [] (o ∷ os) u run = Unit {0}
VerdictsAlong w rs ms s (e ∷ es) [] u run = Unit {0}

-- in every run from the beginning with these outcomes judgements say the verdicts of the zone that records spell
abbrev pub SaysVerdicts : World → List HandedRr → List Event → List Outcome → Type 0
SaysVerdicts w rs es os = (end : Sofar) (run : Simulates w (begin w.zone) es os end) → VerdictsAlong w rs [] (begin w.zone) es os end run
