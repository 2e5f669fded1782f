-- Each thing that happens to a served zone is an event of a simulation, or none.
use Rattle.std.proofs.Common.{◌≡◌, ℕ, true, false, ◌&&◌, List, [], ◌∷◌, map, length, Option, Some, None, refl, sym, ap, subst, ◌∙◌, arith}
use Rattle.std.proofs.lemmas.Bool.{leb-false, le-leb}
use Rattle.std.specs.Prelude.{Ok}
use Rattle.std.specs.Global.{Vec}
use Rattle.std.specs.List.{AllByRecursion}
use Rattle.definitions.specs.Name.{Name}
use Rattle.messages.specs.Handed.{IsHanded}
use Rattle.messages.specs.HandedRr.{HandedRr, handed_of}
use Rattle.messages.specs.Message.{Asked}
use Rattle.messages.specs.Questions.{asked_of}
use Rattle.messages.specs.declared.question.Question.{Question}
use Rattle.answer_events.specs.Calls.{call_of}
use Rattle.answer_events.specs.declared.event.Event.{Event}
use Rattle.answer_events.specs.declared.event.Act.{Act}
use Rattle.answer_events.specs.declared.event.Act.TheVariants as act
use Rattle.answer_events.specs.declared.event.KeyCall.{KeyCall}
use Rattle.answer_terms.specs.Accepted.{IsAccepted}
use Rattle.answer_terms.specs.Accepting.{sorted_records}
use Rattle.answer_terms.specs.ZoneView.{AcceptedZone}
use Rattle.answer_publisher_keys.specs.Bindings.{ZoneKeys, apply}
use Rattle.answer_publisher.specs.Publishing.{digest_at}
use Rattle.answer_publisher.specs.Replacing.{is_too_soon, noted, whole_second}
use Rattle.answer_publisher.specs.World.{AnswersKeysQuestion, AnswersQuestion, HashesNames, SpellsAnswer, SpellsKeys, World, world}
use Rattle.answer_outcomes.specs.declared.outcome.Outcome.{Outcome}
use Rattle.answer_outcomes.specs.declared.outcome.Outcome.TheVariants as outcome
use Rattle.answer_laws.specs.Simulating.{Simulates, Sofar, StepOf, now_in}
use Rattle.answer_laws.specs.Versions.{Parting, is_behind, parting_with}
use Rattle.keyset_rolls.specs.declared.rolls.Action.{Action}
use Rattle.server_signatures.specs.Outcomes.{signed_by}
use Rattle.server_answers.specs.Responding.{Serving}
use Rattle.server_zone.specs.States.{State, called, replaced}
use Rattle.server_zone.specs.declared.line.Line.{Line}
use Rattle.server_zone.specs.declared.line.Line.TheVariants as line
use Rattle.server_zone.specs.declared.open_zone.Applied.{Applied}
use Rattle.server_zone.specs.declared.open_zone.Applied.TheVariants as applied
use Rattle.served_lives.specs.Lives.{Happening, Happens, IsBehindReplacements, IsElsewhere, Mirrors, PartsInto, Records, ServesFrom, Takes, Answers, AnswersKeys, Else, events_of}
use Rattle.served_lives.proofs.Made.{plain_lists_accepted}

-- where replacements part the seconds of answers in front of what happens, they do so behind it
abbrev pub Parts : State → Happening → List Outcome → State → Type 0
Parts st h os t = (p : Parting) → p.since ≡ st.closed → p.kept ≡ true → IsBehindReplacements st h → PartsInto p (events_of h) os t.closed

-- the events of what happens are a simulation, which the zone mirrors behind them
abbrev pub IsEvents : World → State → Sofar → Happening → State → Sofar → Type 0
IsEvents w st s h t u = (os : List Outcome) × Simulates w s (events_of h) os u × Mirrors w t u × Parts st h os t

-- an answer that comes behind replacements keeps them so
behind_kept : (closed since : Option ℕ) (at : ℕ) → since ≡ closed → is_too_soon closed at ≡ false → is_behind since at ≡ true
behind_kept closed since at e h = subst (λ (o : Option ℕ). is_behind o at ≡ true) (sym e) (go closed h)
  where
    go : (o : Option ℕ) → is_too_soon o at ≡ false → is_behind o at ≡ true
    go None k = refl
    go (Some second) k = let later = leb-false (whole_second at) second k in le-leb second (whole_second at) (omega arith)

-- ---- no event

module _ (w : World) (st t : State) (s u : Sofar) (m : Mirrors w st s) (e : u ≡ record s { keys = t.keys; records = t.zone.records }) where
  still : t.zone ≡ st.zone → t.life ≡ st.life → t.keys ≡ st.keys → u ≡ s
  still z l k = e ∙ (λ i. record s { keys = (k ∙ m.keys_are) i; records = ((z ∙ m.zone_is) i).records })

  quiet : t.zone ≡ st.zone → t.life ≡ st.life → t.keys ≡ st.keys → (u ≡ s) × Mirrors w t u
  quiet z l k =
      let is : u ≡ s = still z l k in (
        is,
        record {
          zone_is = z ∙ m.zone_is ∙ ap (λ (x : Sofar). (now_in w x).zone) (sym is);
          life_is = l ∙ m.life_is;
          keys_are = k ∙ m.keys_are ∙ ap (λ (x : Sofar). x.keys) (sym is);
        },
      )

  -- ---- a call on the keys

  by_call : (c : KeyCall) (at : ℕ) (actions : Vec Action) (keys : ZoneKeys)
      → apply (digest_at w.answers.digest st.zone.apex) (call_of c) at st.keys ≡ Ok (keys, actions.items) → t ≡ called at keys st
      → StepOf w s at (act.Key c) (outcome.Key (Ok actions)) u × Mirrors w t u
  by_call c at actions keys f g =
      let k : t.keys ≡ keys = ap (λ (x : State). x.keys) g in
      let zone : t.zone ≡ (now_in w s).zone = ap (λ (x : State). x.zone) g ∙ m.zone_is in
      let apex : st.zone.apex ≡ w.zone.apex = ap (λ (z : AcceptedZone). z.apex) m.zone_is in
      let is : u ≡ record s { keys = keys } = e ∙ (λ i. record s { keys = k i; records = (zone i).records }) in
      let own : u.keys ≡ keys = ap (λ (x : Sofar). x.keys) is in
      let same : u.records ≡ s.records = ap (λ (x : Sofar). x.records) is in (
        (
          (λ i. apply (digest_at w.answers.digest (sym apex i)) (call_of c) at (sym m.keys_are i)) ∙ f ∙ (λ i. Ok (sym own i, actions.items)),
          is ∙ (λ i. record s { keys = sym own i }),
        ),
        record {
          zone_is = zone ∙ (λ i. record w.zone { records = sym same i });
          life_is = ap (λ (x : State). x.life) g ∙ m.life_is;
          keys_are = k ∙ sym own;
        },
      )

  -- ---- a replacement

  by_replacement : (at : ℕ) (gathered : Records) → map handed_of gathered.items ≡ st.gathered → AllByRecursion IsHanded st.gathered
      → IsAccepted w.answers.hash st.zone.apex st.zone.mode st.zone.limit st.gathered → t ≡ replaced at st
      → AllByRecursion IsHanded (map handed_of gathered.items)
      × IsAccepted w.answers.hash w.zone.apex w.zone.mode w.zone.limit (map handed_of gathered.items)
      × (u ≡ record s { records = sorted_records (map handed_of gathered.items) })
      × Mirrors w t u
  by_replacement at gathered is handed accepted g =
      let rs : List HandedRr = map handed_of gathered.items in
      let k : t.keys ≡ s.keys = ap (λ (x : State). x.keys) g ∙ m.keys_are in
      let sorted : t.zone.records ≡ sorted_records rs = ap (λ (x : State). x.zone.records) g ∙ ap sorted_records (sym is) in
      let there : IsAccepted w.answers.hash w.zone.apex w.zone.mode w.zone.limit st.gathered =
      subst (λ (z : AcceptedZone). IsAccepted w.answers.hash z.apex z.mode z.limit st.gathered) m.zone_is accepted in
      let come : u ≡ record s { records = sorted_records rs } = e ∙ (λ i. record s { keys = k i; records = sorted i }) in
      let now : sorted_records st.gathered ≡ u.records = ap sorted_records (sym is) ∙ sym (ap (λ (x : Sofar). x.records) come) in (
        subst (AllByRecursion IsHanded) (sym is) handed,
        subst (IsAccepted w.answers.hash w.zone.apex w.zone.mode w.zone.limit) (sym is) there,
        come,
        record {
          zone_is = ap (λ (x : State). x.zone) g ∙ ap (λ (z : AcceptedZone). record z { records = sorted_records st.gathered }) m.zone_is ∙ (λ i. record w.zone { records = now i });
          life_is = ap (λ (x : State). x.life) g ∙ m.life_is;
          keys_are = k ∙ sym (ap (λ (x : Sofar). x.keys) come);
        },
      )

taken : (w : World) (st t : State) (s u : Sofar) → Mirrors w st s → (gathered : Records) (l : Line) (a : Applied) → Happens w st s (Takes gathered l a) t u → IsEvents w st s (Takes gathered l a) t u
taken w st t s u m gathered line.Nothing applied.Nothing h =
    let q = quiet w st t s u m h.3 (ap (λ (x : State). x.zone) h.2) (ap (λ (x : State). x.life) h.2) (ap (λ (x : State). x.keys) h.2) in
    ([], q.0, q.1, λ p e k b. (e ∙ sym (ap (λ (x : State). x.closed) h.2), k))
taken w st t s u m gathered (line.Record r) applied.Gathered h =
    let g = h.2.1 in
    let q = quiet w st t s u m h.3 (ap (λ (x : State). x.zone) g) (ap (λ (x : State). x.life) g) (ap (λ (x : State). x.keys) g) in
    ([], q.0, q.1, λ p e k b. (e ∙ sym (ap (λ (x : State). x.closed) g), k))
taken w st t s u m gathered (line.Call c at) (applied.Actions actions) h =
    let r = by_call w st t s u m h.3 c at actions h.2.0 h.2.1 h.2.2 in
    (outcome.Key (Ok actions) ∷ [], (u, r.0, refl), r.1, λ p e k b. (k, (e ∙ sym (ap (λ (x : State). x.closed) h.2.2), k)))
taken w st t s u m gathered (line.Replacement at) applied.Replaced h =
    let f = h.2 in
    let accepted : IsAccepted w.answers.hash st.zone.apex st.zone.mode st.zone.limit st.gathered =
    plain_lists_accepted w.answers.hash st.zone.apex st.zone.mode st.zone.limit st.gathered f.2 h.1.1 in
    let r = by_replacement w st t s u m h.3 at gathered h.0 f.1 accepted f.3 in (
      outcome.Replaced (Ok tt) ∷ [],
      (u, (h.1.0, r.0, r.1, r.2), refl),
      r.3,
      λ p e k b. (k, (ap (λ (x : Option ℕ). noted x at) e ∙ sym (ap (λ (x : State). x.closed) f.3), k)),
    )
taken w st t s u m gathered line.Nothing _ h = absurd h.2
taken w st t s u m gathered (line.Record r) _ h = absurd h.2
taken w st t s u m gathered (line.Call c at) _ h = absurd h.2
taken w st t s u m gathered (line.Replacement at) _ h = absurd h.2
taken w st t s u m gathered line.Other _ h = absurd h.2

-- ---- answers

module _ (w : World) (st : State) (s : Sofar) (m : Mirrors w st s) (v : Serving) (from : ServesFrom w st v) where
  world_is : signed_by v.world w.sign w.answers.verifies ≡ now_in w s
  world_is = λ i. world ((from.zone_is ∙ m.zone_is) i) ((from.life_is ∙ m.life_is) i) w.sign w.answers.verifies (from.digest_is i) (from.hash_is i)

  keys_are : v.keys ≡ s.keys
  keys_are = from.keys_are ∙ m.keys_are

  in_place : (P : World → ZoneKeys → Type 0) → P (signed_by v.world w.sign w.answers.verifies) v.keys → P (now_in w s) s.keys
  in_place P h = subst (P (now_in w s)) keys_are (subst (λ x. P x v.keys) world_is h)

  -- the records and keys stay, so the zone mirrors them still
  stays : (t : State) (u : Sofar) → t ≡ st → u.records ≡ s.records → u.keys ≡ s.keys → Mirrors w t u
  stays t u g records keys = record {
    zone_is = ap (λ (x : State). x.zone) g ∙ m.zone_is ∙ (λ i. record w.zone { records = sym records i });
    life_is = ap (λ (x : State). x.life) g ∙ m.life_is;
    keys_are = ap (λ (x : State). x.keys) g ∙ m.keys_are ∙ sym keys;
  }

  answered : (t : State) (u : Sofar) (q : Question Name) (octets : Vec ℕ) → Happens w st s (Answers v q octets) t u → IsEvents w st s (Answers v q octets) t u
  answered t u q octets h =
      let asked : Asked = asked_of q in
      let both = h.3.0 w.sign w.answers.verifies from.signs in
      let shows = in_place (λ x k. AnswersQuestion x k v.at asked octets.items) both.0 in
      let spells = in_place (λ x k. SpellsAnswer x k v.at asked octets.items) both.1 in
      let hashes = in_place (λ x k. HashesNames x asked) h.3.1 in (
        outcome.Message (length s.shown) octets ∷ [],
        (u, (refl, h.2, h.1, (shows, spells, hashes), h.5), refl),
        stays t u h.4 (ap (λ (x : Sofar). x.records) h.5) (ap (λ (x : Sofar). x.keys) h.5),
        λ p e k b. (k, (e ∙ sym (ap (λ (x : State). x.closed) h.4), ap (λ x. x && is_behind p.since v.at) k ∙ behind_kept st.closed p.since v.at e b)),
      )

  answered_keys : (t : State) (u : Sofar) (octets : Vec ℕ) → Happens w st s (AnswersKeys v octets) t u → IsEvents w st s (AnswersKeys v octets) t u
  answered_keys t u octets h =
      let both = h.1 w.sign w.answers.verifies from.signs in
      let shows = in_place (λ x k. AnswersKeysQuestion x k v.at octets.items) both.0 in
      let spells = in_place (λ x k. SpellsKeys x k v.at octets.items) both.1 in (
        outcome.Message (length s.shown) octets ∷ [],
        (u, (refl, (shows, spells), h.3), refl),
        stays t u h.2 (ap (λ (x : Sofar). x.records) h.3) (ap (λ (x : Sofar). x.keys) h.3),
        λ p e k b. (k, (e ∙ sym (ap (λ (x : State). x.closed) h.2), k)),
      )

-- ---- elsewhere

-- neither keys nor records change
elsewhere_keeps : (w : World) (s u : Sofar) (at : ℕ) (a : Act) (o : Outcome) → IsElsewhere a → StepOf w s at a o u → (u.records ≡ s.records) × (u.keys ≡ s.keys)
elsewhere_keeps w s u at act.ShowDs (outcome.Ds place set) k h = (ap (λ (x : Sofar). x.records) h.2, ap (λ (x : Sofar). x.keys) h.2)
elsewhere_keeps w s u at act.ShowCds (outcome.Cds set) k h = (ap (λ (x : Sofar). x.records) h.1, ap (λ (x : Sofar). x.keys) h.1)
elsewhere_keeps w s u at act.ShowCdnskey (outcome.Cdnskey set) k h = (ap (λ (x : Sofar). x.records) h.1, ap (λ (x : Sofar). x.keys) h.1)
elsewhere_keeps w s u at (act.Judge ds dnskey answer) o k h = (ap (λ (x : Sofar). x.records) h.1, ap (λ (x : Sofar). x.keys) h.1)
elsewhere_keeps w s u at (act.JudgeBytes ds dnskey answer q) o k h = (ap (λ (x : Sofar). x.records) h.2, ap (λ (x : Sofar). x.keys) h.2)
elsewhere_keeps w s u at act.ShowDs _ k h = absurd h
elsewhere_keeps w s u at act.ShowCds _ k h = absurd h
elsewhere_keeps w s u at act.ShowCdnskey _ k h = absurd h
elsewhere_keeps w s u at (act.Key c) o k h = absurd k
elsewhere_keeps w s u at (act.Replace rs) o k h = absurd k
elsewhere_keeps w s u at act.ShowDnskey o k h = absurd k
elsewhere_keeps w s u at (act.Ask q) o k h = absurd k

-- nor what replacements part
elsewhere_parts : (p : Parting) (at : ℕ) (a : Act) (o : Outcome) → IsElsewhere a → parting_with p at a o ≡ p
elsewhere_parts p at act.ShowDs o k = refl
elsewhere_parts p at act.ShowCds o k = refl
elsewhere_parts p at act.ShowCdnskey o k = refl
elsewhere_parts p at (act.Judge ds dnskey answer) o k = refl
elsewhere_parts p at (act.JudgeBytes ds dnskey answer q) o k = refl
elsewhere_parts p at (act.Key c) o k = absurd k
elsewhere_parts p at (act.Replace rs) o k = absurd k
elsewhere_parts p at act.ShowDnskey o k = absurd k
elsewhere_parts p at (act.Ask q) o k = absurd k

elsewhere : (w : World) (st t : State) (s u : Sofar) → Mirrors w st s → (e : Event) (o : Outcome) → Happens w st s (Else e o) t u → IsEvents w st s (Else e o) t u
elsewhere w st t s u m e o h =
    let kept = elsewhere_keeps w s u e.at e.act o h.0 h.1 in (
      o ∷ [],
      (u, h.1, refl),
      record {
        zone_is = ap (λ (x : State). x.zone) h.2 ∙ m.zone_is ∙ (λ i. record w.zone { records = sym kept.0 i });
        life_is = ap (λ (x : State). x.life) h.2 ∙ m.life_is;
        keys_are = ap (λ (x : State). x.keys) h.2 ∙ m.keys_are ∙ sym kept.1;
      },
      λ p f k b. let same = elsewhere_parts p e.at e.act o h.0 in
          (k, (ap (λ (x : Parting). x.since) same ∙ f ∙ sym (ap (λ (x : State). x.closed) h.2), ap (λ (x : Parting). x.kept) same ∙ k)),
    )

pub happening_is_events : (w : World) (st t : State) (s u : Sofar) (h : Happening) → Mirrors w st s → Happens w st s h t u → IsEvents w st s h t u
happening_is_events w st t s u (Takes gathered l a) m h = taken w st t s u m gathered l a h
happening_is_events w st t s u (Answers v q octets) m h = answered w st s m v h.0 t u q octets h
happening_is_events w st t s u (AnswersKeys v octets) m h = answered_keys w st s m v h.0 t u octets h
happening_is_events w st t s u (Else e o) m h = elsewhere w st t s u m e o h
