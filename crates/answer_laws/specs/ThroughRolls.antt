-- What a judgement says of things that were given in three states of the keys.
use Rattle.std.specs.Prelude.{◌≡◌, ℕ, Bool, true, false, List, [], ◌∷◌, ◌++◌, length, Some, Ok, slice_get}
use Rattle.definitions.specs.Name.{Name}
use Rattle.definitions.specs.Dnskey.{Ds}
use Rattle.definitions.specs.Zone.{verdict}
use Rattle.definitions.specs.ZoneChain.{optout_of}
use Rattle.messages.specs.HandedRr.{HandedRr}
use Rattle.messages.specs.Message.{Asked}
use Rattle.messages.specs.Questions.{asked_of}
use Rattle.answer_terms.specs.Asking.{is_allowed}
use Rattle.answer_events.specs.Calls.{call_of}
use Rattle.answer_events.specs.declared.event.Event.{Event}
use Rattle.answer_events.specs.declared.event.Act.{Act}
use Rattle.answer_events.specs.declared.event.Act.TheVariants as act
use Rattle.answer_outcomes.specs.declared.outcome.Outcome.{Outcome}
use Rattle.answer_outcomes.specs.declared.outcome.Outcome.TheVariants as outcome
use Rattle.keyset.specs.KeyRuns as runs
use Rattle.keyset.specs.KeyRuns.{Call}
use Rattle.keyset.specs.KeyRunLaws.{by_rolls_alone}
use Rattle.keyset_laws.specs.KeyLife.{DnskeyAnswer, DsSet, Step, Thing, ZoneAnswer, accepted, retired}
use Rattle.keyset_laws.specs.Meeting.{algorithm_first, by_then}
use Rattle.keyset_laws.specs.Sides.{is_empty}
use Rattle.answer_terms.specs.Accepting.{zone_of}
use Rattle.answer_terms.specs.Hashing.{HashesHold}
use Rattle.answer_judge.specs.Judged.{AnswersAs}
use Rattle.answer_judge.specs.Judging.{Says, answer_of}
use Rattle.answer_judge.specs.Meeting.{holds}
use Rattle.answer_publisher_keys.specs.Bindings as bindings
use Rattle.answer_publisher_keys.specs.Bindings.{ZoneKeys, set_call}
use Rattle.answer_scheme.specs.Moments.{second_of}
use Rattle.answer_laws.specs.Simulating.{OfParent, OfZone, Simulates, Sofar, begin}
use Rattle.answer_publisher.specs.World.{TellsAnswer, TellsKeys, World}

-- ---- the events so far

-- how many key calls were accepted before a thing was shown, and when it was shown
pub record Showing : Type 0 where
  pub behind : ℕ
  pub at : ℕ

-- the key calls that were accepted so far, each at its moment, and the showing of each thing
pub record History : Type 0 where
  pub calls : List (ℕ × Call)
  pub shown : List Showing

abbrev pub no_history : History
no_history = record { calls = []; shown = [] }

abbrev pub with_call : History → ℕ → bindings.Call → History
with_call h at c = record h { calls = h.calls ++ (at, set_call c at) ∷ [] }

abbrev pub with_thing : History → ℕ → History
with_thing h at = record h { shown = h.shown ++ (record { behind = length h.calls; at = at }) ∷ [] }

-- with one more event
abbrev pub history_with : History → ℕ → Act → Outcome → History
history_with h at (act.Key c) (outcome.Key (Ok actions)) = with_call h at (call_of c)
history_with h at (act.Judge ds dnskey answer) o = h
history_with h at (act.JudgeBytes ds dnskey answer q) o = h
history_with h at act.ShowDs (outcome.Ds place set) = with_thing h at
history_with h at act.ShowDnskey (outcome.Message place octets) = with_thing h at
history_with h at (act.Ask q) (outcome.Message place octets) = with_thing h at
history_with h at _ _ = h

-- ---- judgements

-- the keys of a zone behind these calls
abbrev pub steps : Name → List (ℕ × Call) → List Step
steps apex cs = accepted (runs.no_keys apex) cs

-- what was shown behind so many of these calls is retired at a moment
abbrev pub is_retired : Thing → Name → List (ℕ × Call) → ℕ → ℕ → Bool
is_retired thing apex cs behind moment = retired thing (runs.no_keys apex) (steps apex cs) behind moment

-- A DS set, a DNSKEY answer and a zone answer, each shown behind so many of these accepted calls, may all be in use at a
-- moment: none of the three is retired. No call set a flag or a stamp by hand or comes later than the moment, and the zone's
-- first DS set came by a roll of its algorithm.
pub record Unretired (apex : Name) (cs : List (ℕ × Call)) (moment ds dnskey answer : ℕ) : Type 0 where
  pub by_rolls : by_rolls_alone cs ≡ true
  pub in_time : by_then moment cs ≡ true
  pub first : algorithm_first (steps apex cs) ≡ true
  pub ds_lives : is_retired DsSet apex cs ds moment ≡ false
  pub dnskey_lives : is_retired DnskeyAnswer apex cs dnskey moment ≡ false
  pub answer_lives : is_retired ZoneAnswer apex cs answer moment ≡ false

-- a state that the keys have been in, behind so many accepted calls, and a moment at which they answer
pub record Answering : Type 0 where
  pub behind : ℕ
  pub keys : ZoneKeys
  pub at : ℕ

-- the keys before each accepted call, with one more event
abbrev pub past_with : List ZoneKeys → ZoneKeys → Act → Outcome → List ZoneKeys
past_with past keys (act.Key c) (outcome.Key (Ok actions)) = past ++ keys ∷ []
past_with past keys _ _ = past

-- the keys were in that state, or are now
abbrev pub WasPassed : List ZoneKeys → Sofar → Answering → Type 0
WasPassed past s y = slice_get (past ++ s.keys ∷ []) y.behind ≡ Some y.keys

-- A judgement of three things that aren't retired, shown in any three states of the keys, says the zone's verdict, where the
-- DS set isn't empty and the signatures hold. So does one of any bytes that tell the DNSKEY answer of any state and the zone's
-- answer of any state to a question, in whatever case owners are spelled, however names are compressed, and whatever flags
-- and TTLs the messages have.
abbrev pub VerdictThrough : World → List HandedRr → History → List ZoneKeys → Sofar → ℕ → Act → Outcome → Type 0
VerdictThrough w rs h past s at (act.Judge ds dnskey answer) (outcome.Judged j) =
    (x y z : Showing) (set : List Ds) (asked : Asked) (bytes : List ℕ)
    → slice_get h.shown ds ≡ Some x → slice_get h.shown dnskey ≡ Some y → slice_get h.shown answer ≡ Some z
    → slice_get s.shown ds ≡ Some (OfParent set) → slice_get s.shown answer ≡ Some (OfZone asked bytes)
    → Unretired w.zone.apex h.calls at x.behind y.behind z.behind → is_empty set ≡ false
    → holds (second_of y.at) w.life (second_of at) ≡ true → holds (second_of z.at) w.life (second_of at) ≡ true
    → HashesHold w.answers.hash w.zone.mode (zone_of w.zone.apex rs) asked.name
    → AnswersAs (answer_of j) (Says (verdict (zone_of w.zone.apex rs) (optout_of w.zone.mode) asked.name asked.rtype))
VerdictThrough w rs h past s at (act.JudgeBytes ds dnskey answer q) (outcome.Judged j) =
    (x : Showing) (y z : Answering) (set : List Ds)
    → slice_get h.shown ds ≡ Some x → slice_get s.shown ds ≡ Some (OfParent set) → WasPassed past s y → WasPassed past s z
    → TellsKeys w y.keys y.at dnskey.items → TellsAnswer w z.keys z.at (asked_of q) answer.items → is_allowed w.zone.apex (asked_of q) ≡ true
    → Unretired w.zone.apex h.calls at x.behind y.behind z.behind → is_empty set ≡ false
    → holds (second_of y.at) w.life (second_of at) ≡ true → holds (second_of z.at) w.life (second_of at) ≡ true
    → HashesHold w.answers.hash w.zone.mode (zone_of w.zone.apex rs) (asked_of q).name
    → AnswersAs (answer_of j) (Says (verdict (zone_of w.zone.apex rs) (optout_of w.zone.mode) (asked_of q).name (asked_of q).rtype))
VerdictThrough w rs h past s at _ _ = Unit {0}

-- at each judgement of a simulation
abbrev pub VerdictsThrough : (w : World) (rs : List HandedRr) (h : History) (past : List ZoneKeys) (s : Sofar) (es : List Event) (os : List Outcome) (u : Sofar) → Simulates w s es os u → Type 0
VerdictsThrough w rs h past s [] [] u run = Unit {0}
VerdictsThrough w rs h past s (e ∷ es) (o ∷ os) u run = VerdictThrough w rs h past s e.at e.act o × VerdictsThrough w rs (history_with h e.at e.act o) (past_with past s.keys e.act o) run.0 es os u run.2
VerdictsThrough w rs h past s [] (o ∷ os) u run = Unit {0}
VerdictsThrough w rs h past s (e ∷ es) [] u run = Unit {0}

-- in every run from the beginning with these outcomes
abbrev pub VerdictsHoldThroughRolls : World → List HandedRr → List Event → List Outcome → Type 0
VerdictsHoldThroughRolls w rs es os = (end : Sofar) (run : Simulates w (begin w.zone) es os end) → VerdictsThrough w rs no_history [] (begin w.zone) es os end run
