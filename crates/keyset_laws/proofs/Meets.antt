-- What is not retired meets.
use Rattle.std.proofs.Common.{◌≡◌, ℕ, zero, suc, ◌+◌, take, arith, ◌≤◌, Bool, true, false, not, List, [], ◌∷◌, ◌++◌, refl, sym, ap, subst, ◌∙◌, ◌&&◌, ◌||◌, ◌⊎◌, inl, inr, ⊎_elim, slice_get, nat_le, append_assoc, append-nil}
use Rattle.std.specs.Prelude.{Option, Some, None, Result, Ok, Err, is_ok}
use Rattle.std.specs.Global.{Vec}
use Rattle.keyset_keys.specs.declared.errors.Error.{Error}
use Rattle.keyset_keys.specs.declared.errors.Error.TheVariants.{Memory}
use Rattle.keyset.specs.KeyAnswers.{Fails, Gives, GivesAtOnce, Refuses, refusal_of}
use Rattle.std.specs.List.{list_any}
use Rattle.std.specs.Str.{bytes_eq}
use Rattle.std.specs.Cmp.Lexicographic.{bytes_decides}
use Rattle.std.proofs.lemmas.Bool.{and_from, false≢true, le-leb, leb-true, or_left, or_right}
use Rattle.keyset_rolls.specs.declared.rolls.Action.{Action}
use Rattle.keyset_rolls.specs.declared.rolls.RollType.{RollType}
use Rattle.keyset_rolls.specs.declared.rolls.RollType.TheVariants.{KskRoll, AlgorithmRoll}
use Rattle.keyset.specs.KeyState.{Answer, KeySetState, Reference, Refusal, ds, keysigners, listed, present, zonesigners}
use Rattle.keyset.specs.KeyRuns.{Call, is_accepted, left, no_keys, on_state, sets_by_hand, behind}
use Rattle.keyset.specs.KeyRunLaws.{Reports, by_rolls_alone, no_reports}
use Rattle.keyset.proofs.KeyTables.{and_left as left_of, and_right as right_of}
use Rattle.keyset_laws.specs.KeyLife.{DnskeyAnswer, DsSet, Step, Thing, ZoneAnswer, accepted, differ, is_first_wait, meet, retired, states, tags_of}
use Rattle.keyset_laws.specs.Sides.{OfKeys, OfZone, Side, doubles, first_of, is_empty, partner, second_of, shows}
use Rattle.keyset_laws.specs.Anchors.{Anchored, Crossing, Grows, Kept, Life, Live, NoDs, Rests, Switches, Unborn}
use Rattle.keyset_laws.specs.Meeting.{CallsMakeLives, GoesOn, EmptyDsSetsComeFirst, RollsKeepSides, UnretiredThingsMeet, algorithm_first, by_then}
use Rattle.keyset_laws.proofs.LifeSteps.{Noted, then}
use Rattle.keyset_laws.proofs.Retiring.{step_of}
use Rattle.keyset_laws.proofs.Lived.{Lived, base_of_none, first_state, one_more}
use Rattle.keyset_laws.proofs.Publishing.{Published, published_more}

-- ---- one side meets

-- a DS set or an answer of the zone and a DNSKEY answer show one key
abbrev pub SideMeets : Side → Life → List Step → Type 0
SideMeets side life steps = (i j : ℕ) (x y : KeySetState) → slice_get (states life.start steps) i ≡ Some x → slice_get (states life.start steps) j ≡ Some y → retired (partner side) life.start life.steps i life.moment ≡ false → retired DnskeyAnswer life.start life.steps j life.moment ≡ false
    → (q : Reference) × (shows side (partner side) q x ≡ true) × (shows side DnskeyAnswer q y ≡ true)

anchor_meets : (side : Side) (life : Life) (steps : List Step) (s : KeySetState) (q : Reference) → Anchored side life steps s q → SideMeets side life steps
anchor_meets side life steps s q h i j x y f g a b = (q, h.ends i x f a, h.keys j y g b)

-- what grew shows both keys, what is handed over one of them
crossing_meets : (side : Side) (r : RollType) (life : Life) (steps : List Step) (s : KeySetState) (p : Reports) (n : Reference) → Crossing side r life steps s p n → SideMeets side life steps
crossing_meets side r life steps s p n h = at side r (λ thing q. shows side thing q) h.both h.either
  where
    one : (thing : Thing) (i : ℕ) (x : KeySetState) (shown : Reference → KeySetState → Bool) → (shown h.old x || shown n x) ≡ true → (q : Reference) × (shown q x ≡ true) × ((q ≡ h.old) ⊎ (q ≡ n))
    one thing i x shown e = at (shown h.old x) refl e
      where
        at : (b : Bool) → shown h.old x ≡ b → (b || shown n x) ≡ true → (q : Reference) × (shown q x ≡ true) × ((q ≡ h.old) ⊎ (q ≡ n))
        at true i e = (h.old, i, inl refl)
        at false i e = (n, e, inr refl)

    other : (shown : Reference → KeySetState → Bool) (y : KeySetState) (q : Reference) → (q ≡ h.old) ⊎ (q ≡ n) → (shown h.old y && shown n y) ≡ true → shown q y ≡ true
    other shown y q (inl e) b = ap (λ q. shown q y) e ∙ left_of (shown h.old y) (shown n y) b
    other shown y q (inr e) b = ap (λ q. shown q y) e ∙ right_of (shown h.old y) (shown n y) b

    at : (side : Side) (r : RollType) (shown : Thing → Reference → KeySetState → Bool) → Live life (first_of side r) steps (λ x. shown (first_of side r) h.old x && shown (first_of side r) n x) → Live life (second_of side r) steps (λ x. shown (second_of side r) h.old x || shown (second_of side r) n x)
        → (i j : ℕ) (x y : KeySetState) → slice_get (states life.start steps) i ≡ Some x → slice_get (states life.start steps) j ≡ Some y → retired (partner side) life.start life.steps i life.moment ≡ false → retired DnskeyAnswer life.start life.steps j life.moment ≡ false
        → (q : Reference) × (shown (partner side) q x ≡ true) × (shown DnskeyAnswer q y ≡ true)
    at OfKeys Rattle.keyset_rolls.specs.declared.rolls.RollType.TheVariants.KskDoubleDsRoll shown both either i j x y f g a b =
        let w = one DnskeyAnswer j y (shown DnskeyAnswer) (either j y g b) in
        (w.0, other (shown DsSet) x w.0 w.2 (both i x f a), w.1)
    at OfZone KskRoll shown both either i j x y f g a b =
        let w = one ZoneAnswer i x (shown ZoneAnswer) (either i x f a) in
        (w.0, w.1, other (shown DnskeyAnswer) y w.0 w.2 (both j y g b))
    at side r shown both either i j x y f g a b =
        let w = one (partner side) i x (shown (partner side)) (either i x f a) in
        (w.0, w.1, other (shown DnskeyAnswer) y w.0 w.2 (both j y g b))

kept_meets : (side : Side) (life : Life) (steps : List Step) (s : KeySetState) (p : RollType → Reports) → Kept side life steps s p → NoDs life steps ⊎ SideMeets side life steps
kept_meets side life steps s p (Rests h) = inr (anchor_meets side life steps s h.anchor h.anchored)
kept_meets side life steps s p (Grows r h) = ⊎_elim
    (λ (e : (r ≡ AlgorithmRoll) × NoDs life steps). inl e.1)
    (λ (a : (q : Reference) × Anchored side life steps s q). inr (anchor_meets side life steps s a.0 a.1))
    h.anchored
kept_meets side life steps s p (Switches r h) = at (doubles side r) refl
  where
    at : (d : Bool) → doubles side r ≡ d → NoDs life steps ⊎ SideMeets side life steps
    at true e = let w = h.doubled e in inr (λ i j x y f g a b. (h.new, w.ends i x f a, w.keys j y g b))
    at false e = inr (crossing_meets side r life steps s (p r) h.new (h.handed_over e))

-- ---- the meeting of three

listed_any : (f : Reference → Bool) (qs : List Reference) (q : Reference) → listed qs q ≡ true → f q ≡ true → list_any f qs ≡ true
listed_any f [] q l h = cc
listed_any f (p ∷ qs) q l h = at (bytes_eq p q) refl l (λ l. listed_any f qs q l h)
  where
    at : (b : Bool) → bytes_eq p q ≡ b → (b || listed qs q) ≡ true → (listed qs q ≡ true → list_any f qs ≡ true) → (f p || list_any f qs) ≡ true
    at true e l more = or_left (f p) (list_any f qs) (ap f ((bytes_decides p q).0 e) ∙ h)
    at false e l more = or_right (f p) (list_any f qs) (more l)

ds_listed : (x : KeySetState) (q : Reference) → is_empty (ds x) ≡ false → shows OfKeys DsSet q x ≡ true → listed (ds x) q ≡ true
ds_listed x q e h = ap (λ b. b || listed (ds x) q) (sym e) ∙ h

sides_meet : (x y z : KeySetState) (p q : Reference) → is_empty (ds x) ≡ false → shows OfKeys DsSet p x ≡ true → shows OfKeys DnskeyAnswer p y ≡ true → shows OfZone ZoneAnswer q z ≡ true → shows OfZone DnskeyAnswer q y ≡ true → differ (tags_of y (present y)) ≡ true → meet x y z ≡ true
sides_meet x y z p q some a b c d e =
    three (list_any (λ q. listed (present y) q && listed (keysigners y) q) (ds x)) (list_any (λ q. listed (zonesigners z) q) (present y)) (differ (tags_of y (present y)))
    (listed_any (λ q. listed (present y) q && listed (keysigners y) q) (ds x) p (ds_listed x p some a) b)
    (listed_any (λ q. listed (zonesigners z) q) (present y) q d c)
    e
  where
    three : (a b c : Bool) → a ≡ true → b ≡ true → c ≡ true → (a && b && c) ≡ true
    three true true true e f g = refl
    three true true false e f g = cc
    three true false c e f g = cc
    three false b c e f g = cc

-- ---- all calls

pub accepted_ok : (s : KeySetState) (c : ℕ × Call) (cs : List (ℕ × Call)) (a : KeySetState × List Action) → on_state c.1 c.0 s ≡ Ok a → accepted s (c ∷ cs) ≡ step_of c.0 c.1 a.0 ∷ accepted a.0 cs
accepted_ok s c cs a e = rw (e, accepted) refl

accepted_err : (s : KeySetState) (c : ℕ × Call) (cs : List (ℕ × Call)) (f : Refusal) → on_state c.1 c.0 s ≡ Err f → accepted s (c ∷ cs) ≡ accepted s cs
accepted_err s c cs f e = rw (e, accepted) refl

none_of : (a b : Bool) → not (a || b) ≡ true → (a ≡ false) × (not b ≡ true)
none_of true b h = cc
none_of false b h = (refl, h)

-- a life up to here, and where its DS sets are empty
pub record Told (life : Life) (steps : List Step) (s : KeySetState) (p : Noted) : Type 0 where
  pub lived : Lived life steps s p
  pub published : Published life steps s

module _ (life : Life) (first : algorithm_first life.steps ≡ true) where
  told_more : (steps after : List Step) (s x : KeySetState) (now : ℕ) (p : Noted) (acts : List Action) → Told life steps s p → now ≤ life.moment → (c : Call) → sets_by_hand c ≡ false → on_state c now s ≡ Ok (x, acts) → life.steps ≡ steps ++ step_of now c x ∷ after
      → Told life (steps ++ step_of now c x ∷ []) x (then p c now)
  told_more steps after s x now p acts h in_time c by_rolls e all =
      let next = one_more life steps after s x now p acts h.lived in_time first c by_rolls e all in
      record { lived = next; published = published_more life steps s x c now p (then p c now) acts h.lived next e h.published }

  abbrev pub Ended : KeySetState → Type 0
  Ended s = (p : Noted) × Told life life.steps s p

  pub all_more : (cs : List (ℕ × Call)) (steps : List Step) (s : KeySetState) (p : Noted) → Told life steps s p → life.steps ≡ steps ++ accepted s cs → by_rolls_alone cs ≡ true → by_then life.moment cs ≡ true → Ended (behind s cs)
  all_more [] steps s p h e by_rolls in_time = (p, subst (λ ts. Told life ts s p) (sym (append-nil steps) ∙ sym e) h)
  all_more (c ∷ cs) steps s p h e by_rolls in_time =
      let w = none_of (sets_by_hand c.1) (list_any (λ (c : ℕ × Call). sets_by_hand c.1) cs) by_rolls in
      let now : c.0 ≤ life.moment = leb-true c.0 life.moment (left_of (nat_le c.0 life.moment) (by_then life.moment cs) in_time) in
      let rest : by_then life.moment cs ≡ true = right_of (nat_le c.0 life.moment) (by_then life.moment cs) in_time in
      at (on_state c.1 c.0 s) refl
      (λ a i.
      (let all : life.steps ≡ steps ++ step_of c.0 c.1 a.0 ∷ accepted a.0 cs = e ∙ ap (λ ts. steps ++ ts) (accepted_ok s c cs a i) in
      all_more cs (steps ++ step_of c.0 c.1 a.0 ∷ []) a.0 (then p c.1 c.0) (told_more steps (accepted a.0 cs) s a.0 c.0 p a.1 h now c.1 w.0 i all) (all ∙ sym (append_assoc steps (step_of c.0 c.1 a.0 ∷ []) (accepted a.0 cs))) w.1 rest))
      (λ f i. all_more cs steps s p h (e ∙ ap (λ ts. steps ++ ts) (accepted_err s c cs f i)) w.1 rest)
    where
      at : (a : Answer) → on_state c.1 c.0 s ≡ a → ((a : KeySetState × List Action) → on_state c.1 c.0 s ≡ Ok a → Ended (behind a.0 cs)) → ((f : Refusal) → on_state c.1 c.0 s ≡ Err f → Ended (behind s cs)) → Ended (behind (left s (on_state c.1 c.0 s)) cs)
      at (Ok a) i more less = subst (λ a. Ended (behind (left s a) cs)) (sym i) (more a i)
      at (Err f) i more less = subst (λ a. Ended (behind (left s a) cs)) (sym i) (less f i)

none_lived : (life : Life) (name : List (List ℕ)) → life.start ≡ no_keys name → Lived life [] (no_keys name) (λ _. no_reports)
none_lived life name e = record {
  base = base_of_none life name e;
  sides = inl (record {
    no_ds = λ i x f. first_state (λ x. is_empty (ds x) ≡ true) (no_keys name) refl i x (ap (λ s. slice_get (s ∷ []) i) (sym e) ∙ f);
    at_no_parent = λ q k f. cc;
    no_roll = λ r on. refl;
    none_started = refl;
  });
}

none_told : (life : Life) (name : List (List ℕ)) → life.start ≡ no_keys name → Told life [] (no_keys name) (λ _. no_reports)
none_told life name e = record {
  lived = none_lived life name e;
  published = record { now = λ w. cc; each = λ i x f empty. first_place i };
}
  where
    first_place : (i : ℕ) → list_any (λ (t : Step). is_first_wait AlgorithmRoll t.call) (take i []) ≡ false
    first_place zero = refl
    first_place (suc i) = refl

module _ (life : Life) (s : KeySetState) (p : Noted) (h : Lived life life.steps s p) where
  side_meets : (side : Side) (i : ℕ) (x : KeySetState) → slice_get (states life.start life.steps) i ≡ Some x → is_empty (ds x) ≡ false → SideMeets side life life.steps
  side_meets side i x f some = ⊎_elim
      (λ (u : Unborn life life.steps s). absurd (false≢true (sym some ∙ u.no_ds i x f)))
      (λ (k : (side : Side) → Kept side life life.steps s p).
      ⊎_elim
      (λ (n : NoDs life life.steps). absurd (false≢true (sym some ∙ n i x f)))
      (λ (m : SideMeets side life life.steps). m)
      (kept_meets side life life.steps s p (k side)))
      h.sides

  pub lived_meets : (i j k : ℕ) (x y z : KeySetState) → slice_get (states life.start life.steps) i ≡ Some x → slice_get (states life.start life.steps) j ≡ Some y → slice_get (states life.start life.steps) k ≡ Some z
      → retired DsSet life.start life.steps i life.moment ≡ false → retired DnskeyAnswer life.start life.steps j life.moment ≡ false → retired ZoneAnswer life.start life.steps k life.moment ≡ false → is_empty (ds x) ≡ false → meet x y z ≡ true
  lived_meets i j k x y z f g e a b c some =
      let keys = side_meets OfKeys i x f some i j x y f g a b in
      let zone = side_meets OfZone i x f some k j z y e g c b in
      sides_meet x y z keys.0 zone.0 some keys.1 keys.2 zone.1 zone.2 (h.base.differing j y g)

pub unretired_things_meet : UnretiredThingsMeet
unretired_things_meet name cs moment i j k x y z by_rolls in_time first f g e a b c some =
    let life : Life = record { start = no_keys name; steps = accepted (no_keys name) cs; moment = moment } in
    let end = all_more life first cs [] (no_keys name) (λ _. no_reports) (none_told life name refl) refl by_rolls in_time in
    lived_meets life (behind (no_keys name) cs) end.0 end.1.lived i j k x y z f g e a b c some

pub rolls_keep_sides : RollsKeepSides
rolls_keep_sides name cs moment by_rolls in_time first =
    let life : Life = record { start = no_keys name; steps = accepted (no_keys name) cs; moment = moment } in
    let end = all_more life first cs [] (no_keys name) (λ _. no_reports) (none_told life name refl) refl by_rolls in_time in
    (end.0, end.1.lived.sides)

-- a moment by which all calls have come
latest : List (ℕ × Call) → ℕ
latest [] = 0
latest (c ∷ cs) = c.0 + latest cs

come_later : (m n : ℕ) (cs : List (ℕ × Call)) → m ≤ n → by_then m cs ≡ true → by_then n cs ≡ true
come_later m n [] l h = refl
come_later m n (c ∷ cs) l h =
    let a : c.0 ≤ m = leb-true c.0 m (left_of (nat_le c.0 m) (by_then m cs) h) in
    let b : c.0 ≤ n = omega (arith, a, l) in
    and_from (nat_le c.0 n) (by_then n cs) (le-leb c.0 n b) (come_later m n cs l (right_of (nat_le c.0 m) (by_then m cs) h))

all_come : (cs : List (ℕ × Call)) → by_then (latest cs) cs ≡ true
unfolding latest
all_come [] = refl
all_come (c ∷ cs) =
    let a : c.0 ≤ c.0 + latest cs = omega arith in
    let b : latest cs ≤ c.0 + latest cs = omega arith in
    and_from (nat_le c.0 (c.0 + latest cs)) (by_then (c.0 + latest cs) cs) (le-leb c.0 (c.0 + latest cs) a) (come_later (latest cs) (c.0 + latest cs) cs b (all_come cs))

pub empty_ds_sets_come_first : EmptyDsSetsComeFirst
empty_ds_sets_come_first name cs i x by_rolls first f empty =
    let life : Life = record { start = no_keys name; steps = accepted (no_keys name) cs; moment = latest cs } in
    let end = all_more life first cs [] (no_keys name) (λ _. no_reports) (none_told life name refl) refl by_rolls (all_come cs) in
    end.1.published.each i x f empty

calls_go_on : {X : Type 0} (view : X → List Action) (old new : KeySetState) (result : Result X Error) (answer : Answer) → Gives view old new result answer → GoesOn old new result answer
calls_go_on view old new (Ok y) answer h = inr (ap (left old) (sym h), ap is_accepted (sym h))
calls_go_on {X = X} view old new (Err e) answer h = at (refusal_of e) refl h.1
  where
    memory : (e : Error) → refusal_of e ≡ None → e ≡ Memory
    memory Memory i = refl
    memory _ i = cc

    at : (o : Option Refusal) → refusal_of e ≡ o → Fails o answer → GoesOn {X = X} old new (Err e) answer
    at None i f = inl (ap (λ e. Err e) (memory e i), h.0)
    at (Some r) i f = inr (h.0 ∙ ap (left old) (sym f), ap is_accepted (sym f))

calls_at_once : {X : Type 0} (view : X → List Action) (old new : KeySetState) (result : Result X Error) (answer : Answer) → GivesAtOnce view old new result answer → (new ≡ left old answer) × (is_ok result ≡ is_accepted answer)
calls_at_once view old new (Ok y) answer h = (ap (left old) (sym h), ap is_accepted (sym h))
calls_at_once view old new (Err e) answer h = at (refusal_of e) h.1
  where
    at : (o : Option Refusal) → Refuses o answer → (new ≡ left old answer) × (false ≡ is_accepted answer)
    at None f = absurd f
    at (Some r) f = (h.0 ∙ ap (left old) (sym f), ap is_accepted (sym f))

pub calls_make_lives : CallsMakeLives
calls_make_lives = record {
  acting = λ old new result c now h. calls_go_on (λ (v : Vec Action). v.items) old new result (on_state c now old) h;
  changing = λ old new result c now h. calls_go_on (λ _. []) old new result (on_state c now old) h;
  at_once = λ old new result c now h. calls_at_once (λ _. []) old new result (on_state c now old) h;
}
