-- The life of a served zone, as events of a simulation.
use Rattle.std.specs.Prelude.{◌≡◌, ℕ, true, false, List, [], ◌∷◌, ◌++◌, map, Option, None}
use Rattle.std.specs.List.{flat_map, list_any}
use Rattle.std.specs.Global.{Vec}
use Rattle.definitions.specs.Name.{Name}
use Rattle.plain.specs.declared.record.Record.{Record}
use Rattle.plain.specs.declared.zone_data.ZoneRecordData.{ZoneRecordData}
use Rattle.messages.specs.HandedRr.{HandedRr, handed_of}
use Rattle.messages.specs.Questions.{asked_of}
use Rattle.messages.specs.WrittenLaws.{IsQuestion}
use Rattle.messages.specs.declared.question.Question.{Question}
use Rattle.answer_events.specs.declared.event.Event.{Event}
use Rattle.answer_events.specs.declared.event.Act.{Act}
use Rattle.answer_events.specs.declared.event.Act.TheVariants as act
use Rattle.answer_terms.specs.Accepting.{is_alias}
use Rattle.answer_terms.specs.Asking.{is_allowed}
use Rattle.answer_publisher_keys.specs.Bindings.{no_keys}
use Rattle.answer_publisher.specs.Replacing.{is_too_soon, noted}
use Rattle.answer_publisher.specs.World.{World}
use Rattle.answer_outcomes.specs.declared.outcome.Outcome.{Outcome}
use Rattle.answer_laws.specs.Simulating.{OfKeys, OfZone, Simulates, Sofar, StepOf, begin, now_in}
use Rattle.answer_laws.specs.Simulations.{IsSimulation, IsZoneOf}
use Rattle.answer_laws.specs.Versions.{Parting, no_parting, parting_with}
use Rattle.server_signatures.specs.Outcomes.{AnswersEach, AnswersKeysEach}
use Rattle.server_signatures.specs.Table.{SignsAs}
use Rattle.server_answers.specs.Responding.{Serving}
use Rattle.server_zone.specs.StateLines.{StateLine, Replaced, line_view}
use Rattle.server_zone.specs.States.{Follows, State}
use Rattle.server_zone.specs.declared.line.Line.{Line}
use Rattle.server_zone.specs.declared.line.Line.TheVariants as line
use Rattle.server_zone.specs.declared.open_zone.Applied.{Applied}

-- records as they are handed in
abbrev pub Records : Type 0
Records = Vec (Record Name (ZoneRecordData (Vec ℕ) Name))

-- What happens: a line is taken, beside the records that were gathered before it, and says this; a server makes the zone's
-- answer to a question, or its DNSKEY answer; or anything outside of the server.
pub data Happening : Type 0 where
  Takes : Records → Line → Applied → Happening
  Answers : Serving → Question Name → Vec ℕ → Happening
  AnswersKeys : Serving → Vec ℕ → Happening
  Else : Event → Outcome → Happening

-- ---- the events that this is

abbrev pub events_of_line : Records → Line → List Event
events_of_line gathered (line.Call c at) = record { at = at; act = act.Key c } ∷ []
events_of_line gathered (line.Replacement at) = record { at = at; act = act.Replace gathered } ∷ []
events_of_line gathered _ = []

abbrev pub events_of : Happening → List Event
events_of (Takes gathered l a) = events_of_line gathered l
events_of (Answers s q m) = record { at = s.at; act = act.Ask q } ∷ []
events_of (AnswersKeys s m) = record { at = s.at; act = act.ShowDnskey } ∷ []
events_of (Else e o) = e ∷ []

-- ---- what may happen

-- the zone, the life of its signatures and the keys are those that a simulation has come to
pub record Mirrors (w : World) (st : State) (s : Sofar) : Type 0 where
  pub zone_is : st.zone ≡ (now_in w s).zone
  pub life_is : st.life ≡ w.life
  pub keys_are : st.keys ≡ s.keys

-- A server answers by this zone and these keys. The signatures of its table are those that the scheme of the zone's keys makes.
pub record ServesFrom (w : World) (st : State) (v : Serving) : Type 0 where
  pub zone_is : v.world.zone ≡ st.zone
  pub life_is : v.world.life ≡ st.life
  pub digest_is : v.world.answers.digest ≡ w.answers.digest
  pub hash_is : v.world.answers.hash ≡ w.answers.hash
  pub keys_are : v.keys ≡ st.keys
  pub signs : SignsAs v.table w.sign w.answers.verifies

-- A replacement comes behind the second of every answer so far, and the records that replace the zone's are no aliases.
abbrev pub IsInOrder : Sofar → State → StateLine → Type 0
IsInOrder s st (Replaced at) = (is_too_soon s.latest at ≡ false) × (list_any is_alias st.gathered ≡ false)
IsInOrder s st _ = Unit {0}

-- what no server does: the parent has a set, a client judges
abbrev pub IsElsewhere : Act → Type 0
IsElsewhere act.ShowDs = Unit {0}
IsElsewhere act.ShowCds = Unit {0}
IsElsewhere act.ShowCdnskey = Unit {0}
IsElsewhere (act.Judge ds dnskey answer) = Unit {0}
IsElsewhere (act.JudgeBytes ds dnskey answer q) = Unit {0}
IsElsewhere _ = ⊥

-- One thing happens to a zone in a state, of which a simulation has come so far, and leaves another state, and the simulation there.
abbrev pub Happens : World → State → Sofar → Happening → State → Sofar → Type 0
Happens w st s (Takes gathered l a) t u =
    (map handed_of gathered.items ≡ st.gathered)
    × IsInOrder s st (line_view l)
    × Follows w.answers.digest w.answers.hash None st (line_view l) a t
    × (u ≡ record s { keys = t.keys; records = t.zone.records })
Happens w st s (Answers v q m) t u =
    ServesFrom w st v
    × IsQuestion (asked_of q)
    × (is_allowed w.zone.apex (asked_of q) ≡ true)
    × AnswersEach v.table v.world v.keys v.at (asked_of q) m.items
    × (t ≡ st)
    × (u ≡ record s { latest = noted s.latest v.at; shown = s.shown ++ OfZone (asked_of q) m.items ∷ [] })
Happens w st s (AnswersKeys v m) t u =
    ServesFrom w st v
    × AnswersKeysEach v.table v.world v.keys v.at m.items
    × (t ≡ st)
    × (u ≡ record s { shown = s.shown ++ OfKeys m.items ∷ [] })
Happens w st s (Else e o) t u = IsElsewhere e.act × StepOf w s e.at e.act o u × (t ≡ st)

-- one thing behind another
abbrev pub Lives : World → State → Sofar → List Happening → State → Sofar → Type 0
Lives w st s [] t u = (t ≡ st) × (u ≡ s)
Lives w st s (h ∷ hs) t u = (between : State) × (sofar : Sofar) × Happens w st s h between sofar × Lives w between sofar hs t u

-- a zone of its own records, without keys
pub record IsNewborn (w : World) (st : State) : Type 0 where
  pub zone_is : st.zone ≡ w.zone
  pub life_is : st.life ≡ w.life
  pub keys_are : st.keys ≡ no_keys w.zone.apex

-- ---- the seconds of answers

-- an answer is of a second behind those of all replacements, as the moment of a zone's response is
abbrev pub IsBehindReplacements : State → Happening → Type 0
IsBehindReplacements st (Answers v q m) = is_too_soon st.closed v.at ≡ false
IsBehindReplacements st _ = Unit {0}

-- so is each in a life
abbrev pub AnswersLieBehind : (w : World) (st : State) (s : Sofar) (hs : List Happening) (t : State) (u : Sofar) → Lives w st s hs t u → Type 0
AnswersLieBehind w st s [] t u l = Unit {0}
AnswersLieBehind w st s (h ∷ hs) t u l = IsBehindReplacements st h × AnswersLieBehind w l.0 l.1 hs t u l.3

-- At each event the seconds of answers in front of a replacement lie before all those behind it; the greatest second of a replacement
-- is this in the end.
abbrev pub PartsInto : Parting → List Event → List Outcome → Option ℕ → Type 0
PartsInto p [] [] closed = (p.since ≡ closed) × (p.kept ≡ true)
PartsInto p (e ∷ es) (o ∷ os) closed = (p.kept ≡ true) × PartsInto (parting_with p e.at e.act o) es os closed
PartsInto p [] (o ∷ os) closed = ⊥
PartsInto p (e ∷ es) [] closed = ⊥

-- Whatever happens in a life from its beginning is a simulation, event by event, and the zone is what that has come to. Where its answers
-- lie behind replacements, these part their seconds.
abbrev pub LivesAreSimulations : Type 0
LivesAreSimulations =
    (w : World) (rs : List HandedRr) (hs : List Happening) (st t : State) (u : Sofar) → IsZoneOf w rs → IsNewborn w st → (l : Lives w st (begin w.zone) hs t u)
    → (os : List Outcome) × Simulates w (begin w.zone) (flat_map events_of hs) os u × IsSimulation w rs (flat_map events_of hs) os × Mirrors w t u
    × (st.closed ≡ None → AnswersLieBehind w st (begin w.zone) hs t u l → PartsInto no_parting (flat_map events_of hs) os t.closed)
