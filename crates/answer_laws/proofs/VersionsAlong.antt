-- What judgements say of the versions of a zone, and of a zone that doesn't change.
use Rattle.std.proofs.Common.{◌≡◌, ℕ, zero, suc, List, [], ◌∷◌, ◌++◌, map, refl, sym, ap, subst, inl}
use Rattle.std.specs.Prelude.{Contains, Some, Ok, Err, length, slice_get}
use Rattle.std.specs.List.{AllByRecursion}
use Rattle.definitions.specs.Dnskey.{Ds}
use Rattle.messages.specs.HandedRr.{HandedRr}
use Rattle.messages.specs.Message.{Asked}
use Rattle.answer_terms.specs.ZoneView.{AcceptedZone}
use Rattle.answer_events.specs.declared.event.Act.{Act}
use Rattle.answer_events.specs.declared.event.Act.TheVariants as act
use Rattle.answer_events.specs.declared.event.Event.{Event}
use Rattle.answer_judge.specs.Honest.{SaysOneOf, Signing}
use Rattle.answer_judge.proofs.OneZone.{at_most}
use Rattle.answer_judge.proofs.GivenLists.{contained_has}
use Rattle.answer_judge.specs.Judging.{Answer}
use Rattle.answer_publisher.specs.World.{World}
use Rattle.answer_publisher_keys.specs.Bindings.{ZoneKeys}
use Rattle.answer_outcomes.specs.declared.outcome.Outcome.{Outcome}
use Rattle.answer_outcomes.specs.declared.outcome.Outcome.TheVariants as outcome
use Rattle.answer_laws.specs.HonestBytes.{AtJudgement, SaysHonestly, VerdictHonest, VerdictsHonest, signings_with, version_of}
use Rattle.answer_laws.specs.OneState.{VerdictAt, VerdictsAlong}
use Rattle.answer_laws.specs.Simulating.{Simulates, Sofar, StepOf, begin, judge_input}
use Rattle.answer_laws.specs.Simulations.{IsZoneOf}
use Rattle.answer_laws.specs.ThroughRolls.{VerdictThrough, VerdictsThrough}
use Rattle.answer_laws.specs.Versions.{KeepsZone, NeverReplaced, SaysOfVersions, SaysOneHonestly, Story, VersionsAlong, first_story, in_version, story_with}
use Rattle.answer_laws.proofs.HonestBytes as honest
use Rattle.answer_laws.proofs.Judgements as judgements
use Rattle.answer_laws.proofs.OneAtATime as moments

-- what is known of a run so far
pub record IsTold (w : World) (y : Story) (s : Sofar) : Type 0 where
  pub known : judgements.IsKnown w y.moments y.history y.past y.versions s
  pub so : honest.IsSo w y.signings y.past y.versions s
  pub dated : moments.AreDatedSo w y.times y.parting y.versions y.signings s

stepped : (w : World) (y : Story) (s t : Sofar) (at : ℕ) (a : Act) (o : Outcome) → IsTold w y s → StepOf w s at a o t → IsTold w (story_with w y s.keys at a o) t
stepped w y s t at a o h is = record {
  known = judgements.stepped w y.moments y.history y.past y.versions s t at a o h.known is;
  so = honest.stepped w y.signings y.past y.versions s t at a o h.so is;
  dated = moments.stepped w y.times y.parting y.versions y.signings s t at a o h.dated is;
}

spoken : (w : World) (y : Story) (s t : Sofar) (at : ℕ) (a : Act) (o : Outcome) → IsTold w y s → StepOf w s at a o t → SaysOfVersions w y s at a o
spoken w y s t at a o h is = record {
  one_state = judgements.spoken_at w y.moments y.history y.past y.versions s t at a o h.known is;
  through_rolls = judgements.spoken_through w y.moments y.history y.past y.versions s t at a o h.known is;
  no_false = honest.spoken w y s t at a o h.known.now_is.apex_is h.known.all_are (moments.one_begins w y s.latest y.versions.now y.signings h.dated) h.so is;
}

along : (w : World) (y : Story) (s : Sofar) (es : List Event) (os : List Outcome) (u : Sofar) (run : Simulates w s es os u) → IsTold w y s → VersionsAlong w y s es os u run
along w y s [] [] u run h = tt
along w y s (e ∷ es) (o ∷ os) u run h = (
  spoken w y s run.0 e.at e.act o h run.1,
  along w (story_with w y s.keys e.at e.act o) run.0 es os u run.2 (stepped w y s run.0 e.at e.act o h run.1),
)
along w y s [] (o ∷ os) u run h = tt
along w y s (e ∷ es) [] u run h = tt

-- from the beginning
pub versions_along : (w : World) (rs : List HandedRr) (es : List Event) (os : List Outcome) (u : Sofar) (run : Simulates w (begin w.zone) es os u) → IsZoneOf w rs → VersionsAlong w (first_story rs) (begin w.zone) es os u run
versions_along w rs es os u run zone = along w (first_story rs) (begin w.zone) es os u run (record { known = judgements.none_known w rs zone; so = honest.none_so w rs; dated = moments.none_dated w rs })

-- ---- a zone that doesn't change

-- each thing that was shown has its version, which is the only one
abbrev AllOf : {M : Type 0} → List HandedRr → List M → List (List HandedRr) → Type 0
AllOf rs [] [] = Unit {0}
AllOf rs (m ∷ ms) (v ∷ vs) = (v ≡ rs) × AllOf rs ms vs
AllOf rs _ _ = ⊥

module _ {M : Type 0} where
  one_more : (rs : List HandedRr) (ms : List M) (vs : List (List HandedRr)) (m : M) (v : List HandedRr) → AllOf rs ms vs → v ≡ rs → AllOf rs (ms ++ m ∷ []) (vs ++ v ∷ [])
  one_more rs [] [] m v h e = (e, tt)
  one_more rs (n ∷ ms) (u ∷ vs) m v h e = (h.0, one_more rs ms vs m v h.1 e)
  one_more rs [] (u ∷ vs) m v h e = absurd h
  one_more rs (n ∷ ms) [] m v h e = absurd h

  of_it : (rs : List HandedRr) (ms : List M) (vs : List (List HandedRr)) (i : ℕ) (m : M) → AllOf rs ms vs → slice_get ms i ≡ Some m → slice_get vs i ≡ Some rs
  of_it rs [] [] i m h e = cc
  of_it rs (n ∷ ms) (v ∷ vs) zero m h e = ap (λ x. Some x) h.0
  of_it rs (n ∷ ms) (v ∷ vs) (suc i) m h e = of_it rs ms vs i m h.1 e
  of_it rs [] (v ∷ vs) i m h e = absurd h
  of_it rs (n ∷ ms) [] i m h e = absurd h

pub record IsOnly (rs : List HandedRr) (y : Story) : Type 0 where
  pub all : y.versions.all ≡ rs ∷ []
  pub now : y.versions.now ≡ rs
  pub moments : AllOf rs y.moments y.versions.shown
  pub places : AllOf rs y.history.shown y.versions.shown

only_keeps : (w : World) (rs : List HandedRr) (y : Story) (keys : ZoneKeys) (at : ℕ) (a : Act) (o : Outcome) → KeepsZone o → IsOnly rs y → IsOnly rs (story_with w y keys at a o)
only_keeps w rs y keys at (act.Key c) (outcome.Key (Ok acts)) keeps h = record { all = h.all; now = h.now; moments = h.moments; places = h.places }
only_keeps w rs y keys at (act.Key c) (outcome.Key (Err e)) keeps h = record { all = h.all; now = h.now; moments = h.moments; places = h.places }
only_keeps w rs y keys at (act.Key c) _ keeps h = record { all = h.all; now = h.now; moments = h.moments; places = h.places }
only_keeps w rs y keys at (act.Replace records) (outcome.Replaced (Ok u)) keeps h = absurd keeps
only_keeps w rs y keys at (act.Replace records) (outcome.Replaced (Err e)) keeps h = record { all = h.all; now = h.now; moments = h.moments; places = h.places }
only_keeps w rs y keys at (act.Replace records) _ keeps h = record { all = h.all; now = h.now; moments = h.moments; places = h.places }
only_keeps w rs y keys at act.ShowDs (outcome.Ds place set) keeps h = record {
  all = h.all;
  now = h.now;
  moments = one_more rs y.moments y.versions.shown _ y.versions.now h.moments h.now;
  places = one_more rs y.history.shown y.versions.shown _ y.versions.now h.places h.now;
}
only_keeps w rs y keys at act.ShowDs _ keeps h = record { all = h.all; now = h.now; moments = h.moments; places = h.places }
only_keeps w rs y keys at act.ShowCds o keeps h = record { all = h.all; now = h.now; moments = h.moments; places = h.places }
only_keeps w rs y keys at act.ShowCdnskey o keeps h = record { all = h.all; now = h.now; moments = h.moments; places = h.places }
only_keeps w rs y keys at act.ShowDnskey (outcome.Message place octets) keeps h = record {
  all = h.all;
  now = h.now;
  moments = one_more rs y.moments y.versions.shown _ y.versions.now h.moments h.now;
  places = one_more rs y.history.shown y.versions.shown _ y.versions.now h.places h.now;
}
only_keeps w rs y keys at act.ShowDnskey _ keeps h = record { all = h.all; now = h.now; moments = h.moments; places = h.places }
only_keeps w rs y keys at (act.Ask q) (outcome.Message place octets) keeps h = record {
  all = h.all;
  now = h.now;
  moments = one_more rs y.moments y.versions.shown _ y.versions.now h.moments h.now;
  places = one_more rs y.history.shown y.versions.shown _ y.versions.now h.places h.now;
}
only_keeps w rs y keys at (act.Ask q) _ keeps h = record { all = h.all; now = h.now; moments = h.moments; places = h.places }
only_keeps w rs y keys at (act.Judge ds dnskey answer) o keeps h = record { all = h.all; now = h.now; moments = h.moments; places = h.places }
only_keeps w rs y keys at (act.JudgeBytes ds dnskey answer q) o keeps h = record { all = h.all; now = h.now; moments = h.moments; places = h.places }

-- the world with the only version is the world
same_world : (w : World) (rs : List HandedRr) → IsZoneOf w rs → in_version w rs ≡ w
same_world w rs zone = ap (λ (z : AcceptedZone). record w { zone = z }) (sym zone.zone_is)

is_among : (rs : List HandedRr) (y : Story) → IsOnly rs y → Contains y.versions.all rs
is_among rs y only = subst (λ (all : List (List HandedRr)). Contains all rs) (sym only.all) (contained_has (rs ∷ []) rs (inl refl))

unchanged_at : (w : World) (rs : List HandedRr) (y : Story) (s : Sofar) (at : ℕ) (a : Act) (o : Outcome) → IsZoneOf w rs → IsOnly rs y → SaysOfVersions w y s at a o → VerdictAt w rs y.moments s at a o
unchanged_at w rs y s at (act.Judge ds dnskey answer) (outcome.Judged j) zone only h = λ keys parent_at keys_at answer_at asked bytes md mk ma.
    let about = of_it rs y.moments y.versions.shown answer _ only.moments ma in
    let v : VerdictAt w rs y.moments s at (act.Judge ds dnskey answer) (outcome.Judged j) =
    subst (λ (x : World). VerdictAt x rs y.moments s at (act.Judge ds dnskey answer) (outcome.Judged j)) (same_world w rs zone) (h.one_state rs about) in
    v keys parent_at keys_at answer_at asked bytes md mk ma
unchanged_at w rs y s at (act.Judge ds dnskey answer) _ zone only h = tt
unchanged_at w rs y s at (act.JudgeBytes ds dnskey answer q) (outcome.Judged j) zone only h =
    subst (λ (x : World). VerdictAt x rs y.moments s at (act.JudgeBytes ds dnskey answer q) (outcome.Judged j)) (same_world w rs zone) (h.one_state rs (is_among rs y only))
unchanged_at w rs y s at (act.JudgeBytes ds dnskey answer q) _ zone only h = tt
unchanged_at w rs y s at (act.Key c) o zone only h = tt
unchanged_at w rs y s at (act.Replace records) o zone only h = tt
unchanged_at w rs y s at act.ShowDs o zone only h = tt
unchanged_at w rs y s at act.ShowCds o zone only h = tt
unchanged_at w rs y s at act.ShowCdnskey o zone only h = tt
unchanged_at w rs y s at act.ShowDnskey o zone only h = tt
unchanged_at w rs y s at (act.Ask q) o zone only h = tt

unchanged_through : (w : World) (rs : List HandedRr) (y : Story) (s : Sofar) (at : ℕ) (a : Act) (o : Outcome) → IsZoneOf w rs → IsOnly rs y → SaysOfVersions w y s at a o → VerdictThrough w rs y.history y.past s at a o
unchanged_through w rs y s at (act.Judge ds dnskey answer) (outcome.Judged j) zone only h = λ p q r set asked bytes hp hq hr.
    let about = of_it rs y.history.shown y.versions.shown answer _ only.places hr in
    let v : VerdictThrough w rs y.history y.past s at (act.Judge ds dnskey answer) (outcome.Judged j) =
    subst (λ (x : World). VerdictThrough x rs y.history y.past s at (act.Judge ds dnskey answer) (outcome.Judged j)) (same_world w rs zone) (h.through_rolls rs about) in
    v p q r set asked bytes hp hq hr
unchanged_through w rs y s at (act.Judge ds dnskey answer) _ zone only h = tt
unchanged_through w rs y s at (act.JudgeBytes ds dnskey answer q) (outcome.Judged j) zone only h =
    subst (λ (x : World). VerdictThrough x rs y.history y.past s at (act.JudgeBytes ds dnskey answer q) (outcome.Judged j)) (same_world w rs zone) (h.through_rolls rs (is_among rs y only))
unchanged_through w rs y s at (act.JudgeBytes ds dnskey answer q) _ zone only h = tt
unchanged_through w rs y s at (act.Key c) o zone only h = tt
unchanged_through w rs y s at (act.Replace records) o zone only h = tt
unchanged_through w rs y s at act.ShowDs o zone only h = tt
unchanged_through w rs y s at act.ShowCds o zone only h = tt
unchanged_through w rs y s at act.ShowCdnskey o zone only h = tt
unchanged_through w rs y s at act.ShowDnskey o zone only h = tt
unchanged_through w rs y s at (act.Ask q) o zone only h = tt

at_more : (P Q : List Ds → List ℕ → List ℕ → Asked → Answer → Type 0) (s : Sofar) (a : Act) (o : Outcome)
    → ((set : List Ds) (keys bytes : List ℕ) (asked : Asked) (answer : Answer) → P set keys bytes asked answer → Q set keys bytes asked answer)
    → AtJudgement P s a o → AtJudgement Q s a o
at_more P Q s (act.Judge ds dnskey answer) (outcome.Judged j) f h = λ set keys bytes asked a b c. f set keys bytes asked _ (h set keys bytes asked a b c)
at_more P Q s (act.Judge ds dnskey answer) _ f h = tt
at_more P Q s (act.JudgeBytes ds dnskey answer q) (outcome.Judged j) f h = λ set a. f set dnskey.items answer.items _ _ (h set a)
at_more P Q s (act.JudgeBytes ds dnskey answer q) _ f h = tt
at_more P Q s (act.Key c) o f h = tt
at_more P Q s (act.Replace records) o f h = tt
at_more P Q s act.ShowDs o f h = tt
at_more P Q s act.ShowCds o f h = tt
at_more P Q s act.ShowCdnskey o f h = tt
at_more P Q s act.ShowDnskey o f h = tt
at_more P Q s (act.Ask q) o f h = tt

unchanged_honest : (w : World) (rs : List HandedRr) (y : Story) (s : Sofar) (at : ℕ) (a : Act) (o : Outcome) → IsOnly rs y → SaysOfVersions w y s at a o → VerdictHonest w rs y.signings y.past s at a o
unchanged_honest w rs y s at a o only h =
    at_more (SaysOneHonestly w y s at) (SaysHonestly w rs y.signings y.past s at) s a o (λ set keys bytes asked answer one honest apart.
    let says = one honest (subst (AllByRecursion _) (sym only.all) (apart, tt)) (inl (ap length only.all)) in
    at_most (judge_input w set keys bytes asked at) (version_of w rs) answer
    (subst (λ (all : List (List HandedRr)). SaysOneOf (judge_input w set keys bytes asked at) (map (version_of w) all) answer) only.all says))
    h.no_false

pub unchanged_along : (w : World) (rs : List HandedRr) (y : Story) (signings : List Signing) (s : Sofar) (es : List Event) (os : List Outcome) (u : Sofar) (run : Simulates w s es os u) → IsZoneOf w rs → IsOnly rs y → y.signings ≡ signings → NeverReplaced os → VersionsAlong w y s es os u run
    → VerdictsAlong w rs y.moments s es os u run × VerdictsThrough w rs y.history y.past s es os u run × VerdictsHonest w rs signings y.past s es os u run
unchanged_along w rs y signings s [] [] u run zone only same never h = (tt, tt, tt)
unchanged_along w rs y signings s (e ∷ es) (o ∷ os) u run zone only same never h =
    let next = story_with w y s.keys e.at e.act o in
    let after = unchanged_along w rs next (signings_with signings w rs e.at e.act o) run.0 es os u run.2 zone (only_keeps w rs y s.keys e.at e.act o never.0 only) (λ i. signings_with (same i) w (only.now i) e.at e.act o) never.1 h.1 in
    let honest_now : VerdictHonest w rs signings y.past s e.at e.act o = subst (λ (xs : List Signing). VerdictHonest w rs xs y.past s e.at e.act o) same (unchanged_honest w rs y s e.at e.act o only h.0) in
    ((unchanged_at w rs y s e.at e.act o zone only h.0, after.0), (unchanged_through w rs y s e.at e.act o zone only h.0, after.1), (honest_now, after.2))
unchanged_along w rs y signings s [] (o ∷ os) u run zone only same never h = (tt, tt, tt)
unchanged_along w rs y signings s (e ∷ es) [] u run zone only same never h = (tt, tt, tt)

pub only_first : (rs : List HandedRr) → IsOnly rs (first_story rs)
only_first rs = record { all = refl; now = refl; moments = tt; places = tt }
