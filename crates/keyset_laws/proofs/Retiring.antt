-- What a report leaves live: the things that stand since the call that it speaks of.
use Rattle.std.proofs.Common.{◌≡◌, ℕ, zero, suc, ◌+◌, ◌-◌, ◌*◌, ◌<◌, ◌≤◌, Bool, true, false, not, List, [], ◌∷◌, ◌++◌, map, length, take, drop, refl, sym, ap, subst, ◌∙◌, ◌&&◌, ◌||◌, ◌⊎◌, inl, inr, ⊎_elim, arith, slice_get, nat_eq, nat_le, append_assoc}
use Rattle.std.specs.Prelude.{Some, if◌then◌else◌}
use Rattle.std.specs.List.{list_all, list_any}
use Rattle.std.proofs.lemmas.Bool.{and_from, cases_lt, eqb-true, le-leb, lt-ltb, not-false, or_parts}
use Rattle.std.proofs.lemmas.List.{map-append}
use Rattle.keyset_rolls.specs.declared.rolls.RollType.{RollType}
use Rattle.keyset.specs.KeyState.{KeySetState}
use Rattle.keyset.specs.KeyRuns.{Call, Report1, Report2}
use Rattle.keyset.proofs.KeyTables.{and_left as left_of, and_right as right_of}
use Rattle.keyset_laws.specs.KeyLife.{Step, Thing, changes_along, content, is_first_wait, is_start, last_place, replaced, reported_first, reported_second, retired, retired_from, retires, same_content, same_thing, states}
use Rattle.keyset_laws.specs.Anchors.{HasRun, Life, Live, Since}
use Rattle.keyset_laws.proofs.Contents.{contents_same}

abbrev pub step_of : ℕ → Call → KeySetState → Step
step_of now c s = record { at = now; call = c; left = s }

-- ---- places in lists

pub get_front : {X : Type 0} (xs ys : List X) (i : ℕ) (x : X) → slice_get xs i ≡ Some x → slice_get (xs ++ ys) i ≡ Some x
get_front [] ys i x h = cc
get_front (a ∷ xs) ys zero x h = h
get_front (a ∷ xs) ys (suc i) x h = get_front xs ys i x h

pub get_last : {X : Type 0} (xs : List X) (y : X) (i : ℕ) (x : X) → slice_get (xs ++ y ∷ []) i ≡ Some x → (slice_get xs i ≡ Some x) ⊎ (y ≡ x)
get_last [] y zero x h = inr (cc)
get_last [] y (suc i) x h = cc
get_last (a ∷ xs) y zero x h = inl h
get_last (a ∷ xs) y (suc i) x h = get_last xs y i x h

get_behind : {X : Type 0} (xs ys : List X) (d : ℕ) → slice_get (xs ++ ys) (length xs + d) ≡ slice_get ys d
get_behind {X = X} [] ys d = let e : length {A = X} [] + d ≡ d = omega arith in ap (slice_get ys) e
get_behind (x ∷ xs) ys d = let e : length (x ∷ xs) + d ≡ suc (length xs + d) = omega arith in ap (slice_get (x ∷ xs ++ ys)) e ∙ get_behind xs ys d

get_drop : {X : Type 0} (i d : ℕ) (xs : List X) → slice_get (drop i xs) d ≡ slice_get xs (i + d)
get_drop zero d xs = let e : d ≡ zero + d = omega arith in ap (slice_get xs) e
get_drop (suc i) d [] = refl
get_drop (suc i) d (x ∷ xs) = let e : suc (i + d) ≡ suc i + d = omega arith in get_drop i d xs ∙ ap (slice_get (x ∷ xs)) e

take_front : {X : Type 0} (xs ys : List X) → take (length xs) (xs ++ ys) ≡ xs
take_front [] ys = refl
take_front (x ∷ xs) ys = ap (λ l. x ∷ l) (take_front xs ys)

all_passes : {X : Type 0} (p : X → Bool) (xs : List X) (i : ℕ) (x : X) → list_all p xs ≡ true → slice_get xs i ≡ Some x → p x ≡ true
all_passes p [] i x h g = cc
all_passes p (a ∷ xs) zero x h g = let same : a ≡ x = cc in ap p (sym same) ∙ left_of (p a) (list_all p xs) h
all_passes p (a ∷ xs) (suc i) x h g = all_passes p xs i x (right_of (p a) (list_all p xs) h) g

get_mapped : {X Y : Type 0} (f : X → Y) (xs : List X) (i : ℕ) (y : Y) → slice_get (map f xs) i ≡ Some y → (x : X) × (slice_get xs i ≡ Some x) × (f x ≡ y)
get_mapped f [] i y h = cc
get_mapped f (a ∷ xs) zero y h = (a, refl, cc)
get_mapped f (a ∷ xs) (suc i) y h = get_mapped f xs i y h

-- ---- contents that don't change

unchanged_to : (thing : Thing) (xs : List KeySetState) (d : ℕ) (x y : KeySetState) → slice_get xs 0 ≡ Some x → slice_get xs d ≡ Some y → changes_along thing (take (suc d) xs) ≡ false → content thing x ≡ content thing y
unchanged_to thing [] d x y g h e = cc
unchanged_to thing (a ∷ xs) zero x y g h e = let same : x ≡ y = cc in ap (content thing) same
unchanged_to thing (a ∷ []) (suc d) x y g h e = cc
unchanged_to thing (a ∷ b ∷ xs) (suc d) x y g h e =
    let w = or_parts (not (same_content (content thing a) (content thing b))) (changes_along thing (take (suc d) (b ∷ xs))) e in
    let here : a ≡ x = cc in
    ap (content thing) (sym here)
    ∙ contents_same (content thing a) (content thing b) (not-false (same_content (content thing a) (content thing b)) w.0)
    ∙ unchanged_to thing (b ∷ xs) d b y refl h w.1

unchanged : (thing : Thing) (xs : List KeySetState) (i d c : ℕ) (x y : KeySetState) → c ≡ i + d → 0 < d → slice_get xs i ≡ Some x → slice_get xs c ≡ Some y → replaced thing xs i c ≡ false → content thing x ≡ content thing y
unchanged thing xs i d c x y e pos g h r =
    let low : i < c = omega (arith, e, pos) in
    let far : c + 1 - i ≡ suc d = omega (arith, e) in
    let none : changes_along thing (take (c + 1 - i) (drop i xs)) ≡ false = ap (λ b. b && changes_along thing (take (c + 1 - i) (drop i xs))) (sym (lt-ltb i c low)) ∙ r in
    let i0 : i + 0 ≡ i = omega arith in
    unchanged_to thing (drop i xs) d x y
    (get_drop i 0 xs ∙ ap (slice_get xs) i0 ∙ g)
    (get_drop i d xs ∙ ap (slice_get xs) (sym e) ∙ h)
    (ap (λ n. changes_along thing (take n (drop i xs))) (sym far) ∙ none)

-- ---- the last call of a kind

no_place : (b : Call → Bool) (ts : List Step) → list_any (λ (t : Step). b t.call) ts ≡ false → last_place b ts ≡ 0
no_place b [] h = refl
no_place b (t ∷ ts) h =
    let w = or_parts (b t.call) (list_any (λ (t : Step). b t.call) ts) h in
    (λ i. (if nat_eq (no_place b ts w.1 i) 0 then (if w.0 i then 1 else 0) else no_place b ts w.1 i + 1))

not_zero : (n : ℕ) → nat_eq (suc n) 0 ≡ false
not_zero n = at (nat_eq (suc n) 0) refl
  where
    at : (z : Bool) → nat_eq (suc n) 0 ≡ z → z ≡ false
    at true e = let h : suc n ≡ 0 = eqb-true (suc n) 0 e in let none : ⊥ = omega (arith, h) in absurd none
    at false e = refl

place_of : (b : Call → Bool) (before : List Step) (t : Step) (later : List Step) → b t.call ≡ true → list_any (λ (t : Step). b t.call) later ≡ false → last_place b (before ++ t ∷ later) ≡ suc (length before)
place_of b [] t later h n = (λ i. (if nat_eq (no_place b later n i) 0 then (if h i then 1 else 0) else no_place b later n i + 1))
place_of b (x ∷ before) t later h n =
    let e : suc (length before) + 1 ≡ suc (suc (length before)) = omega arith in
    (λ i. (if nat_eq (place_of b before t later h n i) 0 then (if b x.call then 1 else 0) else place_of b before t later h n i + 1))
    ∙ ap (λ z. if z then (if b x.call then 1 else 0) else suc (length before) + 1) (not_zero (length before))
    ∙ e

-- ---- a report that retires nothing of a thing

retires_at : (thing : Thing) (s : KeySetState) (all before : List Step) (t : Step) (after : List Step) (i m place n : ℕ) → n ≡ place + length before → retired_from thing s all i m place (before ++ t ∷ after) ≡ false → retires thing s all i m n t ≡ false
retires_at thing s all [] t after i m place n e h =
    let same : n ≡ place = omega (arith, e) in
    ap (λ p. retires thing s all i m p t) same ∙ (or_parts (retires thing s all i m place t) (retired_from thing s all i m (place + 1) after) h).0
retires_at thing s all (x ∷ before) t after i m place n e h =
    let on : n ≡ place + 1 + length before = omega (arith, e) in
    retires_at thing s all before t after i m (place + 1) n on (or_parts (retires thing s all i m place x) (retired_from thing s all i m (place + 1) (before ++ t ∷ after)) h).1

third : (a b c : Bool) → a ≡ true → b ≡ true → (a && b && c) ≡ false → c ≡ false
third true true c h k e = e
third true false c h k e = cc
third false b c h k e = cc

module _ (life : Life) (before : List Step) (t : Step) (after : List Step) (e : life.steps ≡ before ++ t ∷ after) where
  retires_none : (thing : Thing) (i : ℕ) → retired thing life.start life.steps i life.moment ≡ false → retires thing life.start life.steps i life.moment (length before) t ≡ false
  retires_none thing i h =
      let zeroed : length before ≡ 0 + length before = omega arith in
      retires_at thing life.start life.steps before t after i life.moment 0 (length before) zeroed (ap (λ ts. retired_from thing life.start life.steps i life.moment 0 ts) (sym e) ∙ h)

  up_to : take (length before) life.steps ≡ before
  up_to = ap (take (length before)) e ∙ take_front before (t ∷ after)

module _ (life : Life) (before after : List Step) (now ttl : ℕ) (r : RollType) (s : KeySetState) (thing : Thing) (in_time : now + ttl * 1000000000 ≤ life.moment) (i : ℕ) (live : retired thing life.start life.steps i life.moment ≡ false) where
  not_replaced1 : life.steps ≡ before ++ step_of now (Report1 r ttl) s ∷ after → list_any (same_thing thing) (reported_first r) ≡ true → replaced thing (states life.start life.steps) i (last_place (is_start r) before) ≡ false
  not_replaced1 e of =
      ap (λ ts. replaced thing (states life.start life.steps) i (last_place (is_start r) ts)) (sym (up_to life before (step_of now (Report1 r ttl) s) after e))
      ∙ third (list_any (same_thing thing) (reported_first r)) (nat_le (now + ttl * 1000000000) life.moment) (replaced thing (states life.start life.steps) i (last_place (is_start r) (take (length before) life.steps)))
      of (le-leb (now + ttl * 1000000000) life.moment in_time) (retires_none life before (step_of now (Report1 r ttl) s) after e thing i live)

  not_replaced2 : life.steps ≡ before ++ step_of now (Report2 r ttl) s ∷ after → list_any (same_thing thing) (reported_second r) ≡ true → replaced thing (states life.start life.steps) i (last_place (is_first_wait r) before) ≡ false
  not_replaced2 e of =
      ap (λ ts. replaced thing (states life.start life.steps) i (last_place (is_first_wait r) ts)) (sym (up_to life before (step_of now (Report2 r ttl) s) after e))
      ∙ third (list_any (same_thing thing) (reported_second r)) (nat_le (now + ttl * 1000000000) life.moment) (replaced thing (states life.start life.steps) i (last_place (is_first_wait r) (take (length before) life.steps)))
      of (le-leb (now + ttl * 1000000000) life.moment in_time) (retires_none life before (step_of now (Report2 r ttl) s) after e thing i live)

-- ---- states since a call

lefts_append : (s : KeySetState) (ts us : List Step) → states s (ts ++ us) ≡ states s ts ++ map (λ (t : Step). t.left) us
lefts_append s ts us = ap (λ l. s ∷ l) (map-append (λ (t : Step). t.left) ts us)

pub state_further : (s : KeySetState) (ts us : List Step) (i : ℕ) (x : KeySetState) → slice_get (states s ts) i ≡ Some x → slice_get (states s (ts ++ us)) i ≡ Some x
state_further s ts us i x g = ap (λ l. slice_get l i) (lefts_append s ts us) ∙ get_front (states s ts) (map (λ (t : Step). t.left) us) i x g

states_long : (s : KeySetState) (ts : List Step) → length (states s ts) ≡ suc (length ts)
states_long s [] = refl
states_long s (t ∷ ts) = ap suc (states_long t.left ts)

state_since : (s : KeySetState) (before us : List Step) (d n : ℕ) → n ≡ suc (length before) + d → slice_get (states s (before ++ us)) n ≡ slice_get (map (λ (t : Step). t.left) us) d
state_since s before us d n e =
    let far : n ≡ length (states s before) + d = e ∙ ap (λ n. n + d) (sym (states_long s before)) in
    ap (λ l. slice_get l n) (lefts_append s before us)
    ∙ ap (slice_get (states s before ++ map (λ (t : Step). t.left) us)) far
    ∙ get_behind (states s before) (map (λ (t : Step). t.left) us) d

module _ (life : Life) (steps after : List Step) (all : life.steps ≡ steps ++ after) (thing : Thing) (begins : Call → Bool) (test : KeySetState → Bool) (w : Since begins steps test) (alike : (x y : KeySetState) → content thing x ≡ content thing y → test x ≡ test y) where
  place : last_place begins steps ≡ suc (length w.before)
  place = ap (last_place begins) w.all ∙ place_of begins w.before w.first w.later w.begun w.last

  since_passes : (i d : ℕ) (s : KeySetState) → i ≡ suc (length w.before) + d → slice_get (states life.start steps) i ≡ Some s → test s ≡ true
  since_passes i d s e g =
      let h : slice_get (map (λ (t : Step). t.left) (w.first ∷ w.later)) d ≡ Some s = sym (state_since life.start w.before (w.first ∷ w.later) d i e) ∙ ap (λ ts. slice_get (states life.start ts) i) (sym w.all) ∙ g in
      let m = get_mapped (λ (t : Step). t.left) (w.first ∷ w.later) d s h in
      ap test (sym m.2) ∙ all_passes (λ (t : Step). test t.left) (w.first ∷ w.later) d m.0 w.passed m.1

  first_there : slice_get (states life.start steps) (suc (length w.before)) ≡ Some w.first.left
  first_there =
      let e : suc (length w.before) ≡ suc (length w.before) + 0 = omega arith in
      ap (λ ts. slice_get (states life.start ts) (suc (length w.before))) w.all ∙ state_since life.start w.before (w.first ∷ w.later) 0 (suc (length w.before)) e

  in_all : (i : ℕ) (s : KeySetState) → slice_get (states life.start steps) i ≡ Some s → slice_get (states life.start life.steps) i ≡ Some s
  in_all i s g = ap (λ ts. slice_get (states life.start ts) i) all ∙ state_further life.start steps after i s g

  since_live : (i : ℕ) (s : KeySetState) → slice_get (states life.start steps) i ≡ Some s → replaced thing (states life.start life.steps) i (last_place begins steps) ≡ false → test s ≡ true
  since_live i s g r = ⊎_elim
      (λ (low : i < suc (length w.before)).
      (let c = suc (length w.before) in
      let far : c ≡ i + (c - i) = omega (arith, low) in
      let pos : 0 < c - i = omega (arith, low) in
      let none : replaced thing (states life.start life.steps) i c ≡ false = ap (replaced thing (states life.start life.steps) i) (sym place) ∙ r in
      alike s w.first.left (unchanged thing (states life.start life.steps) i (c - i) c s w.first.left far pos (in_all i s g) (in_all c w.first.left first_there) none)
      ∙ left_of (test w.first.left) (list_all (λ (t : Step). test t.left) w.later) w.passed))
      (λ (high : suc (length w.before) ≤ i).
      (let e : i ≡ suc (length w.before) + (i - suc (length w.before)) = omega (arith, high) in
      since_passes i (i - suc (length w.before)) s e g))
      (cases_lt i (suc (length w.before)))

-- a report's moment and TTL, where the TTL has run
pub run_in_time : (life : Life) (since ttl : ℕ) → since ≤ life.moment → HasRun life since ttl → since + ttl * 1000000000 ≤ life.moment
run_in_time life since ttl h w = let a = w.1 in let b = w.2 in omega (arith, h, a, b)

-- Behind a first report whose TTL has run, what is live of its things passes a test that each state since the roll's start passes.
pub first_report_leaves : (life : Life) (steps after : List Step) (now ttl : ℕ) (r : RollType) (s : KeySetState) (thing : Thing) (test : KeySetState → Bool) → life.steps ≡ steps ++ step_of now (Report1 r ttl) s ∷ after → list_any (same_thing thing) (reported_first r) ≡ true
    → now + ttl * 1000000000 ≤ life.moment → Since (is_start r) steps test → ((x y : KeySetState) → content thing x ≡ content thing y → test x ≡ test y) → Live life thing steps test
first_report_leaves life steps after now ttl r s thing test e of in_time w alike i x g live =
    since_live life steps (step_of now (Report1 r ttl) s ∷ after) e thing (is_start r) test w alike i x g (not_replaced1 life steps after now ttl r s thing in_time i live e of)

-- the same of a second report and the roll's first wait
pub second_report_leaves : (life : Life) (steps after : List Step) (now ttl : ℕ) (r : RollType) (s : KeySetState) (thing : Thing) (test : KeySetState → Bool) → life.steps ≡ steps ++ step_of now (Report2 r ttl) s ∷ after → list_any (same_thing thing) (reported_second r) ≡ true
    → now + ttl * 1000000000 ≤ life.moment → Since (is_first_wait r) steps test → ((x y : KeySetState) → content thing x ≡ content thing y → test x ≡ test y) → Live life thing steps test
second_report_leaves life steps after now ttl r s thing test e of in_time w alike i x g live =
    since_live life steps (step_of now (Report2 r ttl) s ∷ after) e thing (is_first_wait r) test w alike i x g (not_replaced2 life steps after now ttl r s thing in_time i live e of)

-- ---- one step more

module _ (life : Life) (steps : List Step) (t : Step) where
  states_more : states life.start (steps ++ t ∷ []) ≡ states life.start steps ++ t.left ∷ []
  states_more = lefts_append life.start steps (t ∷ [])

  pub each_more : (test : KeySetState → Type 0) → ((i : ℕ) (s : KeySetState) → slice_get (states life.start steps) i ≡ Some s → test s) → test t.left → (i : ℕ) (s : KeySetState) → slice_get (states life.start (steps ++ t ∷ [])) i ≡ Some s → test s
  each_more test h last i s g = ⊎_elim (λ (b : slice_get (states life.start steps) i ≡ Some s). h i s b) (λ (l : t.left ≡ s). subst test l last) (get_last (states life.start steps) t.left i s (ap (λ l. slice_get l i) (sym states_more) ∙ g))

  pub live_more : (thing : Thing) (test : KeySetState → Bool) → Live life thing steps test → test t.left ≡ true → Live life thing (steps ++ t ∷ []) test
  live_more thing test h last i s g live = ⊎_elim (λ (b : slice_get (states life.start steps) i ≡ Some s). h i s b live) (λ (l : t.left ≡ s). ap test (sym l) ∙ last) (get_last (states life.start steps) t.left i s (ap (λ l. slice_get l i) (sym states_more) ∙ g))

pub live_so : (life : Life) (thing : Thing) (steps : List Step) (p q : KeySetState → Bool) → ((s : KeySetState) → p s ≡ true → q s ≡ true) → Live life thing steps p → Live life thing steps q
live_so life thing steps p q h l i s g live = h s (l i s g live)

pub any_last : (b : Call → Bool) (ts : List Step) (t : Step) → list_any (λ (t : Step). b t.call) ts ≡ false → b t.call ≡ false → list_any (λ (t : Step). b t.call) (ts ++ t ∷ []) ≡ false
any_last b [] t h k = ap (λ x. x || false) k
any_last b (x ∷ ts) t h k = let w = or_parts (b x.call) (list_any (λ (t : Step). b t.call) ts) h in ap (λ y. y || list_any (λ (t : Step). b t.call) (ts ++ t ∷ [])) w.0 ∙ any_last b ts t w.1 k

all_last : (p : KeySetState → Bool) (ts : List Step) (t : Step) → list_all (λ (t : Step). p t.left) ts ≡ true → p t.left ≡ true → list_all (λ (t : Step). p t.left) (ts ++ t ∷ []) ≡ true
all_last p [] t h k = ap (λ x. x && true) k
all_last p (x ∷ ts) t h k = and_from (p x.left) (list_all (λ (t : Step). p t.left) (ts ++ t ∷ [])) (left_of (p x.left) (list_all (λ (t : Step). p t.left) ts) h) (all_last p ts t (right_of (p x.left) (list_all (λ (t : Step). p t.left) ts) h) k)

pub since_more : (b : Call → Bool) (steps : List Step) (test : KeySetState → Bool) (t : Step) → Since b steps test → b t.call ≡ false → test t.left ≡ true → Since b (steps ++ t ∷ []) test
since_more b steps test t w other last = record {
  before = w.before;
  first = w.first;
  later = w.later ++ t ∷ [];
  all = ap (λ ts. ts ++ t ∷ []) w.all ∙ append_assoc w.before (w.first ∷ w.later) (t ∷ []);
  begun = w.begun;
  last = any_last b w.later t w.last other;
  passed = all_last test (w.first ∷ w.later) t w.passed last;
}

pub since_now : (b : Call → Bool) (steps : List Step) (test : KeySetState → Bool) (t : Step) → b t.call ≡ true → test t.left ≡ true → Since b (steps ++ t ∷ []) test
since_now b steps test t begun last = record { before = steps; first = t; later = []; all = refl; begun = begun; last = refl; passed = ap (λ x. x && true) last }

all_so : (p q : KeySetState → Bool) (ts : List Step) → ((s : KeySetState) → p s ≡ true → q s ≡ true) → list_all (λ (t : Step). p t.left) ts ≡ true → list_all (λ (t : Step). q t.left) ts ≡ true
all_so p q [] h a = refl
all_so p q (t ∷ ts) h a = and_from (q t.left) (list_all (λ (t : Step). q t.left) ts) (h t.left (left_of (p t.left) (list_all (λ (t : Step). p t.left) ts) a)) (all_so p q ts h (right_of (p t.left) (list_all (λ (t : Step). p t.left) ts) a))

pub since_so : (b : Call → Bool) (steps : List Step) (p q : KeySetState → Bool) → ((s : KeySetState) → p s ≡ true → q s ≡ true) → Since b steps p → Since b steps q
since_so b steps p q h w = record { before = w.before; first = w.first; later = w.later; all = w.all; begun = w.begun; last = w.last; passed = all_so p q (w.first ∷ w.later) h w.passed }

-- the last state is one of the states
pub get_last_place : (s : KeySetState) (steps : List Step) (t : Step) → (n : ℕ) × (slice_get (states s (steps ++ t ∷ [])) n ≡ Some t.left)
get_last_place s steps t =
    let n = length (states s steps) in
    let e : n ≡ n + 0 = omega arith in
    (n, ap (λ l. slice_get l n) (lefts_append s steps (t ∷ [])) ∙ ap (slice_get (states s steps ++ t.left ∷ [])) e ∙ get_behind (states s steps) (t.left ∷ []) 0)

get_inside : {X : Type 0} (xs : List X) (i : ℕ) (x : X) → slice_get xs i ≡ Some x → i < length xs
get_inside [] i x h = cc
get_inside {X = X} (a ∷ xs) zero x h = let e : length (a ∷ xs) ≡ suc (length xs) = refl in omega (arith, e)
get_inside (a ∷ xs) (suc i) x h = let e : length (a ∷ xs) ≡ suc (length xs) = refl in let k = get_inside xs i x h in omega (arith, e, k)

get_end : {X : Type 0} (xs : List X) (y : X) (i : ℕ) (x : X) → slice_get (xs ++ y ∷ []) i ≡ Some x → ((slice_get xs i ≡ Some x) × (i < length xs)) ⊎ ((i ≡ length xs) × (y ≡ x))
get_end [] y zero x h = inr (refl, cc)
get_end [] y (suc i) x h = cc
get_end (a ∷ xs) y zero x h = inl (h, get_inside (a ∷ xs) zero x h)
get_end {X = X} (a ∷ xs) y (suc i) x h = ⊎_elim
    (λ (w : (slice_get xs i ≡ Some x) × (i < length xs)). inl (w.0, get_inside (a ∷ xs) (suc i) x w.0))
    (λ (w : (i ≡ length xs) × (y ≡ x)). inr (ap suc w.0, w.1))
    (get_end xs y i x h)

-- a state is one of before, or the last
pub get_place : (s : KeySetState) (steps : List Step) (t : Step) (i : ℕ) (x : KeySetState) → slice_get (states s (steps ++ t ∷ [])) i ≡ Some x → ((slice_get (states s steps) i ≡ Some x) × (i ≤ length steps)) ⊎ ((i ≡ suc (length steps)) × (t.left ≡ x))
get_place s steps t i x h =
    let long = states_long s steps in
    ⊎_elim
    (λ (w : (slice_get (states s steps) i ≡ Some x) × (i < length (states s steps))). (let a = w.1 in let b : i ≤ length steps = omega (arith, a, long) in inl (w.0, b)))
    (λ (w : (i ≡ length (states s steps)) × (t.left ≡ x)). inr (w.0 ∙ long, w.1))
    (get_end (states s steps) t.left i x (sym (ap (λ l. slice_get l i) (lefts_append s steps (t ∷ []))) ∙ h))
