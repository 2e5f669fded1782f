-- One side of a life at a call of a roll that is on it.
use Rattle.std.proofs.Common.{◌≡◌, ℕ, ◌+◌, ◌*◌, ◌≤◌, Bool, true, false, cond, not, List, [], ◌∷◌, ◌++◌, refl, sym, ap, subst, ◌∙◌, ◌&&◌, ◌||◌, ◌⊎◌, inl, inr, ⊎_elim}
use Rattle.std.specs.Prelude.{Option, Some, None, is_some, unwrap_or}
use Rattle.std.specs.List.{list_any}
use Rattle.std.specs.Ordering.{eq_by_cmp}
use Rattle.std.specs.FinMap.Entries.{find}
use Rattle.std.proofs.lemmas.Bool.{and_from, false≢true, or_left, or_right}
use Rattle.keyset_keys.specs.declared.keys.KeyType.{KeyType}
use Rattle.keyset_rolls.specs.declared.rolls.RollState.{RollState}
use Rattle.keyset_rolls.specs.declared.rolls.RollState.TheVariants.{Propagation1, CacheExpire1, Propagation2, CacheExpire2, Done}
use Rattle.keyset_rolls.specs.declared.rolls.RollType.{RollType}
use Rattle.keyset_rolls.specs.declared.rolls.RollType.TheVariants.{KskRoll, KskDoubleDsRoll, ZskRoll, ZskDoubleSignatureRoll, AlgorithmRoll}
use Rattle.keyset_rolls.specs.Rolls.{conflicts, is_of_ksks, is_of_zsks, started_roles, touches, wait1_roles, wait2_roles}
use Rattle.keyset.specs.KeyState.{Key, KeySetState, Reference, ds, entered, key_of, kind_cmp, phase_of, reference_cmp}
use Rattle.keyset.specs.KeyRuns.{Report1, Report2}
use Rattle.keyset.specs.KeyRunLaws.{Reports}
use Rattle.keyset.proofs.KeyFinds.{changed, is_equal, to_after}
use Rattle.keyset.proofs.KeyMaps.{kind_same}
use Rattle.keyset.proofs.KeyRunSteps.{Together, phase_put}
use Rattle.keyset.proofs.KeyTables.{and_left as left_of, and_right as right_of, join}
use Rattle.keyset.proofs.KeyWaits.{kind_itself}
use Rattle.keyset_laws.specs.KeyLife.{DnskeyAnswer, DsSet, Step, Thing, is_first_wait, is_start, reported_first, reported_second, same_thing}
use Rattle.keyset_laws.specs.Sides.{OfKeys, OfZone, Side, doubles, first_of, is_empty, is_lasting, is_on, is_ready, is_shown, partner, second_of, shows}
use Rattle.keyset_laws.specs.Anchors.{Anchored, Crossing, Early, Growing, Grows, HasKey, HasRun, Kept, Late, Life, Live, NoDs, Resting, Rests, Since, Switched, Switches, grown, is_second, rests}
use Rattle.keyset_laws.proofs.SideWords.{is_first}
use Rattle.keyset_laws.proofs.Contents.{shows_same}
use Rattle.keyset_laws.proofs.Retiring.{first_report_leaves, live_more, live_so, run_in_time, second_report_leaves, since_now, since_so, step_of}
use Rattle.keyset_laws.proofs.Sided.{anchored_more, lasting_first, lasting_second, no_ds_more, of_lasting, of_ready, ready_first, ready_grown, shows_now, wanted}
use Rattle.keyset_laws.proofs.SideTables.{first_stays, keeps_all, lasts, new_shown, old_shown, stays_shown}

-- ---- what reports speak of

in_first : (side : Side) (r : RollType) → is_on side r ≡ true → list_any (same_thing (first_of side r)) (reported_first r) ≡ true
in_first OfKeys KskRoll h = refl
in_first OfZone KskDoubleDsRoll h = cc
in_first _ _ h = refl

in_first_too : (side : Side) (r : RollType) → doubles side r ≡ true → list_any (same_thing (second_of side r)) (reported_first r) ≡ true
in_first_too OfZone ZskDoubleSignatureRoll h = refl
in_first_too OfZone AlgorithmRoll h = refl
in_first_too OfKeys KskRoll h = cc
in_first_too _ _ h = cc

in_second : (side : Side) (r : RollType) → is_on side r ≡ true → doubles side r ≡ false → list_any (same_thing (second_of side r)) (reported_second r) ≡ true
in_second OfKeys KskRoll h d = refl
in_second OfKeys ZskRoll h d = cc
in_second OfKeys ZskDoubleSignatureRoll h d = cc
in_second OfZone KskRoll h d = cc
in_second OfZone KskDoubleDsRoll h d = cc
in_second OfZone ZskDoubleSignatureRoll h d = cc
in_second OfZone AlgorithmRoll h d = cc
in_second _ _ h d = refl

-- ---- the two things of a side

module _ (life : Life) (steps : List Step) (test : Side → Thing → KeySetState → Bool) where
  pub first_live : (side : Side) (r : RollType) → Live life DnskeyAnswer steps (test side DnskeyAnswer) → Live life (partner side) steps (test side (partner side)) → Live life (first_of side r) steps (test side (first_of side r))
  first_live OfKeys KskDoubleDsRoll a b = b
  first_live OfZone KskRoll a b = a
  first_live _ _ a b = a

  pub second_live : (side : Side) (r : RollType) → Live life DnskeyAnswer steps (test side DnskeyAnswer) → Live life (partner side) steps (test side (partner side)) → Live life (second_of side r) steps (test side (second_of side r))
  second_live OfKeys KskDoubleDsRoll a b = a
  second_live OfZone KskRoll a b = b
  second_live _ _ a b = b

  pub keys_live : (side : Side) (r : RollType) → Live life (first_of side r) steps (test side (first_of side r)) → Live life (second_of side r) steps (test side (second_of side r)) → Live life DnskeyAnswer steps (test side DnskeyAnswer)
  keys_live OfKeys KskDoubleDsRoll a b = b
  keys_live OfZone KskRoll a b = a
  keys_live _ _ a b = a

  pub ends_live : (side : Side) (r : RollType) → Live life (first_of side r) steps (test side (first_of side r)) → Live life (second_of side r) steps (test side (second_of side r)) → Live life (partner side) steps (test side (partner side))
  ends_live OfKeys KskDoubleDsRoll a b = a
  ends_live OfZone KskRoll a b = b
  ends_live _ _ a b = b

pub first_key : (P : Thing → Type 0) (side : Side) (r : RollType) → P DnskeyAnswer → P (partner side) → P (first_of side r)
first_key P OfKeys KskDoubleDsRoll a b = b
first_key P OfZone KskRoll a b = a
first_key P _ _ a b = a

pub keys_key : (P : Thing → Type 0) (side : Side) (r : RollType) → P (first_of side r) → P (second_of side r) → P DnskeyAnswer
keys_key P OfKeys KskDoubleDsRoll a b = b
keys_key P OfZone KskRoll a b = a
keys_key P _ _ a b = a

pub ends_key : (P : Thing → Type 0) (side : Side) (r : RollType) → P (first_of side r) → P (second_of side r) → P (partner side)
ends_key P OfKeys KskDoubleDsRoll a b = a
ends_key P OfZone KskRoll a b = b
ends_key P _ _ a b = b

live_both : (life : Life) (thing : Thing) (steps : List Step) (p q : KeySetState → Bool) → Live life thing steps p → Live life thing steps q → Live life thing steps (λ s. p s && q s)
live_both life thing steps p q a b i s g live = and_from (p s) (q s) (a i s g live) (b i s g live)

-- no DS set asks for no key
no_ds_either : (life : Life) (steps : List Step) (n : Reference) (side : Side) (r : RollType) → r ≡ AlgorithmRoll → doubles side r ≡ false → NoDs life steps → Live life (second_of side r) steps (λ x. shows side (second_of side r) n x || shows side (second_of side r) n x)
no_ds_either life steps n side r e =
    subst (λ r. doubles side r ≡ false → NoDs life steps → Live life (second_of side r) steps (λ x. shows side (second_of side r) n x || shows side (second_of side r) n x)) (sym e) (at side)
  where
    at : (side : Side) → doubles side AlgorithmRoll ≡ false → NoDs life steps → Live life (second_of side AlgorithmRoll) steps (λ x. shows side (second_of side AlgorithmRoll) n x || shows side (second_of side AlgorithmRoll) n x)
    at OfKeys d none i s g live = or_left (shows OfKeys DsSet n s) (shows OfKeys DsSet n s) (or_left (is_empty (ds s)) (Rattle.keyset.specs.KeyState.listed (ds s) n) (none i s g))
    at OfZone d none i s g live = cc

-- ---- a step of a roll

-- the phase that it leaves and the one that it enters, and what becomes of each key
pub record Turn (a : RollType) (o n : Option RollState) (g : Reference → Key → Key) (s x : KeySetState) : Type 0 where
  pub was : phase_of s a ≡ o
  pub becomes : phase_of x a ≡ n
  pub others : (b : RollType) → eq_by_cmp kind_cmp b a ≡ false → phase_of x b ≡ phase_of s b
  pub keys : x.keys ≡ changed g s.keys

pub entered_turn : (a : RollType) (o : Option RollState) (n : RollState) (g : Reference → Key → Key) (s : KeySetState) → phase_of s a ≡ o → Turn a o (Some n) g s (entered a n (changed g s.keys) s)
entered_turn a o n g s e = record {
  was = e;
  becomes = phase_put s (changed g s.keys) a a n ∙ ap (λ b. cond b (Some n) (phase_of s a)) (kind_itself a);
  others = λ b d. phase_put s (changed g s.keys) a b n ∙ ap (λ c. cond c (Some n) (phase_of s b)) d;
  keys = refl;
}

pub key_after : (a : RollType) (o n : Option RollState) (g : Reference → Key → Key) (s x : KeySetState) → Turn a o n g s x → (q : Reference) (k : Key) → key_of s q ≡ Some k → key_of x q ≡ Some (g q k)
key_after a o n g s x w q k f = ap (find reference_cmp q) w.keys ∙ to_after g s.keys q k f

-- a key that passes a test passes another behind the step
pub taken : (a : RollType) (o n : Option RollState) (g : Reference → Key → Key) (s x : KeySetState) (test after : KeyType → Bool) → Turn a o n g s x → ((q : Reference) (k : Key) → key_of s q ≡ Some k → test k.roles ≡ true → after (g q k).roles ≡ true) → (q : Reference) → HasKey s q test → HasKey x q after
taken a o n g s x test after w f q h = (g q h.0, key_after a o n g s x w q h.0 h.1, f q h.0 h.1 h.2)

-- ---- the phases of the rolls of one side

first_rests : (o : Option RollState) → rests o ≡ true → is_first o ≡ true → ⊥
first_rests None a b = cc
first_rests (Some Propagation1) a b = cc
first_rests (Some (CacheExpire1 t)) a b = cc
first_rests (Some Propagation2) a b = cc
first_rests (Some (CacheExpire2 t)) a b = cc
first_rests (Some Done) a b = cc

second_rests : (o : Option RollState) → rests o ≡ true → is_second o ≡ true → ⊥
second_rests None a b = cc
second_rests (Some Propagation1) a b = cc
second_rests (Some (CacheExpire1 t)) a b = cc
second_rests (Some Propagation2) a b = cc
second_rests (Some (CacheExpire2 t)) a b = cc
second_rests (Some Done) a b = cc

first_second : (o : Option RollState) → is_first o ≡ true → is_second o ≡ true → ⊥
first_second None a b = cc
first_second (Some Propagation1) a b = cc
first_second (Some (CacheExpire1 t)) a b = cc
first_second (Some Propagation2) a b = cc
first_second (Some (CacheExpire2 t)) a b = cc
first_second (Some Done) a b = cc

pub first_runs : (o : Option RollState) → is_first o ≡ true → is_some o ≡ true
first_runs None h = cc
first_runs (Some x) h = refl

pub second_runs : (o : Option RollState) → is_second o ≡ true → is_some o ≡ true
second_runs None h = cc
second_runs (Some x) h = refl

pub early_first : (side : Side) (r : RollType) (life : Life) (steps : List Step) (p : Reports) (n : Reference) (o : Option RollState) → Early side r life steps p n o → is_first o ≡ true
early_first side r life steps p n None h = absurd h
early_first side r life steps p n (Some Propagation1) h = refl
early_first side r life steps p n (Some (CacheExpire1 t)) h = refl
early_first side r life steps p n (Some Propagation2) h = absurd h
early_first side r life steps p n (Some (CacheExpire2 t)) h = absurd h
early_first side r life steps p n (Some Done) h = absurd h

late_second : (side : Side) (r : RollType) (life : Life) (steps : List Step) (p : Reports) (n : Reference) (o : Option RollState) → Late side r life steps p n o → is_second o ≡ true
late_second side r life steps p n None h = absurd h
late_second side r life steps p n (Some Propagation1) h = absurd h
late_second side r life steps p n (Some (CacheExpire1 t)) h = absurd h
late_second side r life steps p n (Some Propagation2) h = refl
late_second side r life steps p n (Some (CacheExpire2 t)) h = refl
late_second side r life steps p n (Some Done) h = absurd h

by_doubles : (side : Side) (r : RollType) (P : Type 0) → (doubles side r ≡ false → P) → (doubles side r ≡ true → P) → P
by_doubles side r P f g = at (doubles side r) refl
  where
    at : (d : Bool) → doubles side r ≡ d → P
    at true e = g e
    at false e = f e

pub switched_second : (side : Side) (r : RollType) (life : Life) (steps : List Step) (s : KeySetState) (p : Reports) → Switched side r life steps s p → is_second (phase_of s r) ≡ true
switched_second side r life steps s p h =
    by_doubles side r (is_second (phase_of s r) ≡ true)
    (λ d. late_second side r life steps p h.new (phase_of s r) (h.handed_over d).late)
    (λ d. (h.doubled d).waits)

not_of_zsks : (r : RollType) → is_on OfKeys r ≡ true → is_of_zsks r ≡ false
not_of_zsks ZskRoll h = cc
not_of_zsks ZskDoubleSignatureRoll h = cc
not_of_zsks _ h = refl

not_of_ksks : (r : RollType) → is_on OfZone r ≡ true → is_of_ksks r ≡ false
not_of_ksks KskRoll h = cc
not_of_ksks KskDoubleDsRoll h = cc
not_of_ksks _ h = refl

apart : (a b c d : Bool) → ((b ≡ false) × (c ≡ false)) ⊎ ((a ≡ false) × (d ≡ false)) → not ((a && b) || (c && d)) ≡ true
apart a b c d (inl w) = (λ i. not ((a && w.0 i) || (w.1 i && d))) ∙ ap (λ x. not (x || false)) (at a)
  where
    at : (a : Bool) → (a && false) ≡ false
    at true = refl
    at false = refl
apart a b c d (inr w) = (λ i. not ((w.0 i && b) || (c && w.1 i))) ∙ ap not (at c)
  where
    at : (c : Bool) → (c && false) ≡ false
    at true = refl
    at false = refl

-- two rolls of one side are in each other's way
pub conflict_on : (side : Side) (a b : RollType) → is_on side a ≡ true → is_on side b ≡ true → conflicts a b ≡ true
conflict_on OfKeys a b h k = apart (is_of_ksks a) (is_of_zsks b) (is_of_zsks a) (is_of_ksks b) (inl (not_of_zsks b k, not_of_zsks a h))
conflict_on OfZone a b h k = apart (is_of_ksks a) (is_of_zsks b) (is_of_zsks a) (is_of_ksks b) (inr (not_of_ksks a h, not_of_ksks b k))

module _ (side : Side) (life : Life) (steps : List Step) (s : KeySetState) (p : RollType → Reports) (one : Together s) (h : Kept side life steps s p) (r : RollType) (on : is_on side r ≡ true) where
  same : (b : RollType) → is_on side b ≡ true → is_some (phase_of s b) ≡ true → is_some (phase_of s r) ≡ true → b ≡ r
  same b k x y = one b r x y (conflict_on side b r k on)

  pub growing_of : is_first (phase_of s r) ≡ true → Growing side r life steps s (p r)
  growing_of e = at h
    where
      at : Kept side life steps s p → Growing side r life steps s (p r)
      at (Rests w) = absurd (first_rests (phase_of s r) (w.none_runs r on) e)
      at (Grows b w) = subst (λ b. Growing side b life steps s (p b)) (same b w.on (first_runs (phase_of s b) (early_first side b life steps (p b) w.new (phase_of s b) w.early)) (first_runs (phase_of s r) e)) w
      at (Switches b w) =
          let i = switched_second side b life steps s (p b) w in
          absurd (first_second (phase_of s r) e (ap (λ b. is_second (phase_of s b)) (sym (same b w.on (second_runs (phase_of s b) i) (first_runs (phase_of s r) e))) ∙ i))

  pub switched_of : is_second (phase_of s r) ≡ true → Switched side r life steps s (p r)
  switched_of e = at h
    where
      at : Kept side life steps s p → Switched side r life steps s (p r)
      at (Rests w) = absurd (second_rests (phase_of s r) (w.none_runs r on) e)
      at (Grows b w) =
          let i = early_first side b life steps (p b) w.new (phase_of s b) w.early in
          absurd (first_second (phase_of s r) (ap (λ b. is_first (phase_of s b)) (sym (same b w.on (first_runs (phase_of s b) i) (second_runs (phase_of s r) e))) ∙ i) e)
      at (Switches b w) = subst (λ b. Switched side b life steps s (p b)) (same b w.on (second_runs (phase_of s b) (switched_second side b life steps s (p b) w)) (second_runs (phase_of s r) e)) w

  -- where no other roll of the side is under way
  pub resting_of : ((b : RollType) → is_on side b ≡ true → is_first (phase_of s b) ≡ true → ⊥) → ((b : RollType) → is_on side b ≡ true → is_second (phase_of s b) ≡ true → ⊥) → Resting side life steps s
  resting_of no_first no_second = at h
    where
      at : Kept side life steps s p → Resting side life steps s
      at (Rests w) = w
      at (Grows b w) = absurd (no_first b w.on (early_first side b life steps (p b) w.new (phase_of s b) w.early))
      at (Switches b w) = absurd (no_second b w.on (switched_second side b life steps s (p b) w))

  pub resting_at_done : phase_of s r ≡ Some Done → Resting side life steps s
  resting_at_done e =
      let runs : is_some (phase_of s r) ≡ true = ap is_some e in
      let done : rests (phase_of s r) ≡ true = ap rests e in
      resting_of
      (λ b k i. first_rests (phase_of s r) done (ap (λ b. is_first (phase_of s b)) (sym (same b k (first_runs (phase_of s b) i) runs)) ∙ i))
      (λ b k i. second_rests (phase_of s r) done (ap (λ b. is_second (phase_of s b)) (sym (same b k (second_runs (phase_of s b) i) runs)) ∙ i))

-- ---- starts

pub started_shown : (side : Side) (r : RollType) (thing : Thing) (is_old is_new : Bool) (t : KeyType) → is_shown side thing t ≡ true → is_shown side thing (started_roles r is_old is_new t) ≡ true
started_shown side r thing is_old true t h = new_shown side r thing t h
started_shown side r thing true false t h = old_shown side thing t h
started_shown side r thing false false t h = h

module _ (side : Side) (life : Life) (steps : List Step) (s : KeySetState) (t : Step) (p : Reports) (r : RollType) (on : is_on side r ≡ true) (g : Reference → Key → Key) where
  pub start_grows : (o : Option RollState) → Turn r o (Some Propagation1) g s t.left → is_start r t.call ≡ true → (n : Reference) → HasKey t.left n (is_ready side r)
      → (r ≡ AlgorithmRoll) × NoDs life (steps ++ t ∷ []) ⊎ (q : Reference) × Anchored side life (steps ++ t ∷ []) t.left q → Growing side r life (steps ++ t ∷ []) t.left p
  start_grows o w begun n ready anchored = record {
    on = on;
    new = n;
    ready = ready;
    anchored = anchored;
    early = subst (λ o. Early side r life (steps ++ t ∷ []) p n o) (sym w.becomes) (since_now (is_start r) steps (grown side r n) t begun (ready_grown side r t.left n ready));
  }

-- ---- reports

module _ (side : Side) (life : Life) (steps after : List Step) (s x : KeySetState) (now ttl : ℕ) (p q : Reports) (r : RollType) (on : is_on side r ≡ true) (g : Reference → Key → Key) (same_roles : (y : Reference) (k : Key) → (g y k).roles ≡ k.roles) (in_time : now ≤ life.moment) where
  unchanged : (o n : Option RollState) → Turn r o n g s x → (test : KeyType → Bool) (y : Reference) → HasKey s y test → HasKey x y test
  unchanged o n w test y h = taken r o n g s x test test w (λ y k f h. ap test (same_roles y k) ∙ h) y h

  since_is : (since : ℕ) (f : Option (ℕ × ℕ)) → f ≡ Some (now, ttl) → f ≡ Some (since, ttl) → since ≡ now
  since_is since f a b = ap (λ (o : Option (ℕ × ℕ)). (unwrap_or o (0, 0)).0) (sym b ∙ a)

  run_now : (since : ℕ) → since ≡ now → HasRun life since ttl → now + ttl * 1000000000 ≤ life.moment
  run_now since e run = run_in_time life now ttl in_time (subst (λ n. HasRun life n ttl) e run)

  pub report1_grows : life.steps ≡ steps ++ step_of now (Report1 r ttl) x ∷ after → Turn r (Some Propagation1) (Some (CacheExpire1 ttl)) g s x → q.first ≡ Some (now, ttl) → Growing side r life steps s p → (NoDs life steps → is_empty (ds x) ≡ true)
      → Growing side r life (steps ++ step_of now (Report1 r ttl) x ∷ []) x q
  report1_grows e w noted h none =
      let t = step_of now (Report1 r ttl) x in
      let n = h.new in
      let ready : HasKey x n (is_ready side r) = unchanged (Some Propagation1) (Some (CacheExpire1 ttl)) w (is_ready side r) n h.ready in
      let since : Since (is_start r) steps (grown side r n) = subst (λ o. Early side r life steps p n o) w.was h.early in
      let here : grown side r n x ≡ true = ready_grown side r x n ready in
      let left = λ (s : KeySetState) (g : grown side r n s ≡ true). left_of (shows side (first_of side r) n s) (not (doubles side r) || shows side (second_of side r) n s) g in
      let right = λ (s : KeySetState) (g : grown side r n s ≡ true). right_of (shows side (first_of side r) n s) (not (doubles side r) || shows side (second_of side r) n s) g in
      record {
        on = on;
        new = n;
        ready = ready;
        anchored = ⊎_elim
            (λ (a : (r ≡ AlgorithmRoll) × NoDs life steps). inl (a.0, no_ds_more side life steps t (none a.1) a.1))
            (λ (a : (y : Reference) × Anchored side life steps s y).
            inr (
              a.0,
              anchored_more side life steps t s a.0 a.1
                  (unchanged (Some Propagation1) (Some (CacheExpire1 ttl)) w (is_shown side DnskeyAnswer) a.0 a.1.in_keys)
                  (unchanged (Some Propagation1) (Some (CacheExpire1 ttl)) w (is_shown side (partner side)) a.0 a.1.in_ends),
            ))
            h.anchored;
        early = subst (λ o. Early side r life (steps ++ t ∷ []) q n o) (sym w.becomes)
            (λ m is run.
            (let ran = run_now m (since_is m q.first noted is) run in (
              live_more life steps t (first_of side r) (shows side (first_of side r) n)
                  (first_report_leaves life steps after now ttl r x (first_of side r) (shows side (first_of side r) n) e (in_first side r on) ran (since_so (is_start r) steps (grown side r n) (shows side (first_of side r) n) left since) (λ x y c. shows_same side (first_of side r) n x y c))
                  (left x here),
              λ d.
                  live_more life steps t (second_of side r) (shows side (second_of side r) n)
                  (first_report_leaves life steps after now ttl r x (second_of side r) (shows side (second_of side r) n) e (in_first_too side r d) ran (since_so (is_start r) steps (grown side r n) (shows side (second_of side r) n) (λ s g. wanted (doubles side r) (shows side (second_of side r) n s) d (right s g)) since) (λ x y c. shows_same side (second_of side r) n x y c))
                  (wanted (doubles side r) (shows side (second_of side r) n x) d (right x here)),
            )));
      }

  pub report2_switches : life.steps ≡ steps ++ step_of now (Report2 r ttl) x ∷ after → Turn r (Some Propagation2) (Some (CacheExpire2 ttl)) g s x → q.second ≡ Some (now, ttl) → Switched side r life steps s p
      → Switched side r life (steps ++ step_of now (Report2 r ttl) x ∷ []) x q
  report2_switches e w noted h =
      let t = step_of now (Report2 r ttl) x in
      let n = h.new in
      let lasting : HasKey x n (is_lasting side r) = unchanged (Some Propagation2) (Some (CacheExpire2 ttl)) w (is_lasting side r) n h.lasting in
      let first : shows side (first_of side r) n x ≡ true = shows_now side (first_of side r) x n (lasting_first side r x n lasting) in
      let second : shows side (second_of side r) n x ≡ true = shows_now side (second_of side r) x n (lasting_second side r x n lasting) in
      record {
        on = on;
        new = n;
        lasting = lasting;
        handed_over = λ d.
            (let c = h.handed_over d in
            let old : HasKey x c.old (is_shown side (first_of side r)) = unchanged (Some Propagation2) (Some (CacheExpire2 ttl)) w (is_shown side (first_of side r)) c.old c.still in
            let since : Since (is_first_wait r) steps (shows side (second_of side r) n) = subst (λ o. Late side r life steps p n o) w.was c.late in
            record {
              old = c.old;
              still = old;
              both = live_more life steps t (first_of side r) (λ y. shows side (first_of side r) c.old y && shows side (first_of side r) n y) c.both
                  (and_from (shows side (first_of side r) c.old x) (shows side (first_of side r) n x) (shows_now side (first_of side r) x c.old old) first);
              either = live_more life steps t (second_of side r) (λ y. shows side (second_of side r) c.old y || shows side (second_of side r) n y) c.either
                  (or_right (shows side (second_of side r) c.old x) (shows side (second_of side r) n x) second);
              late = subst (λ o. Late side r life (steps ++ t ∷ []) q n o) (sym w.becomes)
                  (λ m is run.
                  (let ran = run_now m (since_is m q.second noted is) run in
                  live_more life steps t (second_of side r) (shows side (second_of side r) n)
                  (second_report_leaves life steps after now ttl r x (second_of side r) (shows side (second_of side r) n) e (in_second side r on d) ran since (λ x y c. shows_same side (second_of side r) n x y c))
                  second));
            });
        doubled = λ d.
            (let a = h.doubled d in
            let in_keys : HasKey x n (is_shown side DnskeyAnswer) = unchanged (Some Propagation2) (Some (CacheExpire2 ttl)) w (is_shown side DnskeyAnswer) n a.in_keys in
            let in_ends : HasKey x n (is_shown side (partner side)) = unchanged (Some Propagation2) (Some (CacheExpire2 ttl)) w (is_shown side (partner side)) n a.in_ends in
            record {
              keys = live_more life steps t DnskeyAnswer (shows side DnskeyAnswer n) a.keys (shows_now side DnskeyAnswer x n in_keys);
              ends = live_more life steps t (partner side) (shows side (partner side) n) a.ends (shows_now side (partner side) x n in_ends);
              in_keys = in_keys;
              in_ends = in_ends;
              waits = ap is_second w.becomes;
            });
      }

-- ---- waits

abbrev pub AllKeep : KeySetState → Type 0
AllKeep s = (q : Reference) (k : Key) → key_of s q ≡ Some k → keeps_all k.roles ≡ true

module _ (side : Side) (life : Life) (steps : List Step) (s : KeySetState) (t : Step) (p : Reports) (r : RollType) (on : is_on side r ≡ true) (g : Reference → Key → Key)
    (still : (q : Reference) (k : Key) → key_of s q ≡ Some k → touches r k.roles ≡ false → g q k ≡ k) (keep : AllKeep s) where
  module _ (ttl since : ℕ) (w : Turn r (Some (CacheExpire1 ttl)) (Some Propagation2) g s t.left) (moved : (q : Reference) (k : Key) → key_of s q ≡ Some k → touches r k.roles ≡ true → (g q k).roles ≡ wait1_roles r k.roles) where
    first_still : doubles side r ≡ false → (q : Reference) → HasKey s q (is_shown side (first_of side r)) → HasKey t.left q (is_shown side (first_of side r))
    first_still d q h = taken r (Some (CacheExpire1 ttl)) (Some Propagation2) g s t.left (is_shown side (first_of side r)) (is_shown side (first_of side r)) w (λ q k f h. at q k f h (touches r k.roles) refl) q h
      where
        or_first : (a b : Bool) → b ≡ false → (a || b) ≡ true → a ≡ true
        or_first true b e h = refl
        or_first false b e h = sym e ∙ h

        at : (q : Reference) (k : Key) → key_of s q ≡ Some k → is_shown side (first_of side r) k.roles ≡ true → (b : Bool) → touches r k.roles ≡ b → is_shown side (first_of side r) (g q k).roles ≡ true
        at q k f h true e =
            ap (is_shown side (first_of side r)) (moved q k f e)
            ∙ or_first (is_shown side (first_of side r) (wait1_roles r k.roles)) (doubles side r) d (first_stays side r k.roles (join (touches r k.roles) (is_shown side (first_of side r) k.roles) e h))
        at q k f h false e = ap (λ (k : Key). is_shown side (first_of side r) k.roles) (still q k f e) ∙ h

    lasting_then : (n : Reference) → HasKey s n (is_ready side r) → HasKey t.left n (is_lasting side r)
    lasting_then n h = taken r (Some (CacheExpire1 ttl)) (Some Propagation2) g s t.left (is_ready side r) (is_lasting side r) w
        (λ q k f h. ap (is_lasting side r) (moved q k f (of_ready side r k.roles h).0) ∙ lasts side r k.roles (join (keeps_all k.roles) (is_ready side r k.roles) (keep q k f) h)) n h

    crossing_then : (h : Growing side r life steps s p) → doubles side r ≡ false → is_first_wait r t.call ≡ true → Live life (first_of side r) steps (shows side (first_of side r) h.new) → Crossing side r life (steps ++ t ∷ []) t.left p h.new
    crossing_then h d begun first = ⊎_elim
        (λ (a : (r ≡ AlgorithmRoll) × NoDs life steps). made h.new (ready_first side r s h.new h.ready) first (no_ds_either life steps h.new side r a.0 d a.1))
        (λ (a : (q : Reference) × Anchored side life steps s q).
        made a.0
        (first_key (λ thing. HasKey s a.0 (is_shown side thing)) side r a.1.in_keys a.1.in_ends)
        (first_live life steps (λ side thing. shows side thing a.0) side r a.1.keys a.1.ends)
        (live_so life (second_of side r) steps (shows side (second_of side r) a.0) (λ x. shows side (second_of side r) a.0 x || shows side (second_of side r) h.new x) (λ x e. or_left (shows side (second_of side r) a.0 x) (shows side (second_of side r) h.new x) e)
        (second_live life steps (λ side thing. shows side thing a.0) side r a.1.keys a.1.ends)))
        h.anchored
      where
        lasting : HasKey t.left h.new (is_lasting side r)
        lasting = lasting_then h.new h.ready

        second : shows side (second_of side r) h.new t.left ≡ true
        second = shows_now side (second_of side r) t.left h.new (lasting_second side r t.left h.new lasting)

        made : (q : Reference) → HasKey s q (is_shown side (first_of side r)) → Live life (first_of side r) steps (shows side (first_of side r) q)
            → Live life (second_of side r) steps (λ x. shows side (second_of side r) q x || shows side (second_of side r) h.new x) → Crossing side r life (steps ++ t ∷ []) t.left p h.new
        made q key live either = record {
          old = q;
          still = first_still d q key;
          both = live_more life steps t (first_of side r) (λ x. shows side (first_of side r) q x && shows side (first_of side r) h.new x)
              (live_both life (first_of side r) steps (shows side (first_of side r) q) (shows side (first_of side r) h.new) live first)
              (and_from (shows side (first_of side r) q t.left) (shows side (first_of side r) h.new t.left) (shows_now side (first_of side r) t.left q (first_still d q key)) (shows_now side (first_of side r) t.left h.new (lasting_first side r t.left h.new lasting)));
          either = live_more life steps t (second_of side r) (λ x. shows side (second_of side r) q x || shows side (second_of side r) h.new x) either (or_right (shows side (second_of side r) q t.left) (shows side (second_of side r) h.new t.left) second);
          late = subst (λ o. Late side r life (steps ++ t ∷ []) p h.new o) (sym w.becomes) (since_now (is_first_wait r) steps (shows side (second_of side r) h.new) t begun second);
        }

    pub wait1_switches : Growing side r life steps s p → is_first_wait r t.call ≡ true → p.first ≡ Some (since, ttl) → HasRun life since ttl → Switched side r life (steps ++ t ∷ []) t.left p
    wait1_switches h begun noted run =
        let lives = subst (λ o. Early side r life steps p h.new o) w.was h.early since noted run in
        let lasting = lasting_then h.new h.ready in
        let parts = of_lasting side r lasting.0.roles lasting.2 in
        let in_keys : HasKey t.left h.new (is_shown side DnskeyAnswer) = keys_key (λ thing. HasKey t.left h.new (is_shown side thing)) side r (lasting.0, lasting.1, parts.2) (lasting.0, lasting.1, parts.3) in
        let in_ends : HasKey t.left h.new (is_shown side (partner side)) = ends_key (λ thing. HasKey t.left h.new (is_shown side thing)) side r (lasting.0, lasting.1, parts.2) (lasting.0, lasting.1, parts.3) in
        record {
          on = on;
          new = h.new;
          lasting = lasting;
          handed_over = λ d. crossing_then h d begun lives.0;
          doubled = λ d. record {
            keys = live_more life steps t DnskeyAnswer (shows side DnskeyAnswer h.new) (keys_live life steps (λ side thing. shows side thing h.new) side r lives.0 (lives.1 d)) (shows_now side DnskeyAnswer t.left h.new in_keys);
            ends = live_more life steps t (partner side) (shows side (partner side) h.new) (ends_live life steps (λ side thing. shows side thing h.new) side r lives.0 (lives.1 d)) (shows_now side (partner side) t.left h.new in_ends);
            in_keys = in_keys;
            in_ends = in_ends;
            waits = ap is_second w.becomes;
          };
        }

  module _ (ttl since : ℕ) (w : Turn r (Some (CacheExpire2 ttl)) (Some Done) g s t.left) (moved : (q : Reference) (k : Key) → key_of s q ≡ Some k → touches r k.roles ≡ true → (g q k).roles ≡ wait2_roles r k.roles) where
    kept_then : (thing : Thing) (n : Reference) → ((u : KeyType) → (is_shown side DnskeyAnswer u && is_shown side (partner side) u) ≡ true → is_shown side thing u ≡ true) → HasKey s n (is_lasting side r) → HasKey t.left n (is_shown side thing)
    kept_then thing n of h = taken r (Some (CacheExpire2 ttl)) (Some Done) g s t.left (is_lasting side r) (is_shown side thing) w
        (λ q k f h. ap (is_shown side thing) (moved q k f (of_lasting side r k.roles h).0) ∙ of (wait2_roles r k.roles) (stays_shown side r k.roles (join (keeps_all k.roles) (is_lasting side r k.roles) (keep q k f) h))) n h

    in_keys_then : (n : Reference) → HasKey s n (is_lasting side r) → HasKey t.left n (is_shown side DnskeyAnswer)
    in_keys_then n h = kept_then DnskeyAnswer n (λ u e. left_of (is_shown side DnskeyAnswer u) (is_shown side (partner side) u) e) h

    in_ends_then : (n : Reference) → HasKey s n (is_lasting side r) → HasKey t.left n (is_shown side (partner side))
    in_ends_then n h = kept_then (partner side) n (λ u e. right_of (is_shown side DnskeyAnswer u) (is_shown side (partner side) u) e) h

    anchored_then : (n : Reference) → HasKey s n (is_lasting side r) → Live life DnskeyAnswer steps (shows side DnskeyAnswer n) → Live life (partner side) steps (shows side (partner side) n) → Anchored side life (steps ++ t ∷ []) t.left n
    anchored_then n h a b = record {
      keys = live_more life steps t DnskeyAnswer (shows side DnskeyAnswer n) a (shows_now side DnskeyAnswer t.left n (in_keys_then n h));
      ends = live_more life steps t (partner side) (shows side (partner side) n) b (shows_now side (partner side) t.left n (in_ends_then n h));
      in_keys = in_keys_then n h;
      in_ends = in_ends_then n h;
    }

    all_rest : Together s → (b : RollType) → is_on side b ≡ true → rests (phase_of t.left b) ≡ true
    all_rest one b k = at (eq_by_cmp kind_cmp b r) refl
      where
        none_else : (o : Option RollState) → phase_of s b ≡ o → (is_some o ≡ true → ⊥) → rests o ≡ true
        none_else None e no_other = refl
        none_else (Some x) e no_other = absurd (no_other refl)

        runs : is_some (phase_of s r) ≡ true
        runs = ap is_some w.was

        at : (c : Bool) → eq_by_cmp kind_cmp b r ≡ c → rests (phase_of t.left b) ≡ true
        at true e = ap (λ b. rests (phase_of t.left b)) (kind_same b r (is_equal (kind_cmp b r) e)) ∙ ap rests w.becomes
        at false e =
            ap rests (w.others b e)
            ∙ none_else (phase_of s b) refl (λ i. false≢true (sym e ∙ ap (λ c. eq_by_cmp kind_cmp c r) (one b r i runs (conflict_on side b r k on)) ∙ kind_itself r))

    pub wait2_rests : Together s → Switched side r life steps s p → (doubles side r ≡ false → (p.second ≡ Some (since, ttl)) × HasRun life since ttl) → Resting side life (steps ++ t ∷ []) t.left
    wait2_rests one h ran = record {
      anchor = h.new;
      anchored = by_doubles side r (Anchored side life (steps ++ t ∷ []) t.left h.new)
          (λ d.
          (let c = h.handed_over d in
          let v = ran d in
          let late = subst (λ o. Late side r life steps p h.new o) w.was c.late since v.0 v.1 in
          let first : Live life (first_of side r) steps (shows side (first_of side r) h.new) = live_so life (first_of side r) steps (λ x. shows side (first_of side r) c.old x && shows side (first_of side r) h.new x) (shows side (first_of side r) h.new) (λ x e. right_of (shows side (first_of side r) c.old x) (shows side (first_of side r) h.new x) e) c.both in
          anchored_then h.new h.lasting (keys_live life steps (λ side thing. shows side thing h.new) side r first late) (ends_live life steps (λ side thing. shows side thing h.new) side r first late)))
          (λ d. (let a = h.doubled d in anchored_then h.new h.lasting a.keys a.ends));
      none_runs = all_rest one;
    }
