-- A life from one accepted call to the next: its keys and both its sides.
use Rattle.std.proofs.Common.{◌≡◌, ℕ, ◌≤◌, Bool, true, false, not, List, [], ◌∷◌, ◌++◌, refl, ap, subst, ◌∙◌, T, ◌||◌, ◌⊎◌, inl, inr, zero, suc, slice_get, sym}
use Rattle.std.specs.Prelude.{Some, None, Ok}
use Rattle.std.specs.FinMap.Entries.{is_sorted}
use Rattle.std.proofs.lemmas.Bool.{false≢true, or_left, or_right}
use Rattle.keyset_keys.specs.declared.keys.KeyType.{KeyType}
use Rattle.keyset_rolls.specs.declared.rolls.Action.{Action}
use Rattle.keyset_rolls.specs.declared.rolls.RollState.TheVariants.{Propagation1, CacheExpire1, Propagation2, CacheExpire2, Done}
use Rattle.keyset_rolls.specs.declared.rolls.RollType.{RollType}
use Rattle.keyset_rolls.specs.declared.rolls.RollType.TheVariants.{KskRoll}
use Rattle.keyset_rolls.specs.Rolls.{reported1, reported2, started_roles, touches, waited1, waited2}
use Rattle.keyset.specs.KeyState.{Answer, Key, KeySetState, Reference, Refusal, ds, key_of, keysigners, listed, new_key, on_each, present, reference_cmp, set_old, when, zonesigners}
use Rattle.keyset.specs.KeyRuns.{Add, Call, Delete, Finish, Report1, Report2, SetAtParent, SetDecoupled, SetDsVisible, SetPresent, SetRrsigVisible, SetSigner, SetStale, SetVisible, Start, Wait1, Wait2, is_accepted, left, on_state, sets_by_hand, no_keys}
use Rattle.keyset.specs.KeyRunLaws.{keeps_roles, no_reports, noted_if}
use Rattle.keyset.proofs.KeyRunEnds.{call_next, none_hold}
use Rattle.keyset.proofs.KeyRunStarts.{start_of}
use Rattle.keyset.proofs.KeyRunSteps.{Holds}
use Rattle.keyset.proofs.KeyRunTags.{Apart, call_apart}
use Rattle.keyset.proofs.KeyTables.{and_right as right_of, join}
use Rattle.keyset_laws.specs.KeyLife.{DnskeyAnswer, DsSet, Step, Thing, ZoneAnswer, accepted, differ, is_start, meet, retired, states, tags_of}
use Rattle.keyset_laws.specs.Anchors.{Life}
use Rattle.keyset_laws.specs.Meeting.{algorithm_first}
use Rattle.keyset_laws.proofs.SideWords.{agrees, is_first, is_settled}
use Rattle.keyset_laws.proofs.Effects.{Calm, Finished, Reported1, Reported2, Started, Waited1, Waited2, add_calm, decouple_calm, delete_calm, done_so, report1_so, report2_so, same_key, start_so, touched_by, wait1_so, wait2_so, when_accepted}
use Rattle.keyset_laws.proofs.LifeSteps.{Base, Noted, Sides, calm_sides, finish_sides, report1_sides, report2_sides, start_sides, then, wait1_sides, wait2_sides, when_on, when_roles}
use Rattle.keyset_laws.proofs.Lives.{Roles, calm_roles, present_differ, turn_roles}
use Rattle.keyset_laws.proofs.Retiring.{each_more, get_last_place, step_of}
use Rattle.keyset_laws.proofs.SideTables.{keeps_all, new_agrees, new_settled, old_agrees, old_settled, signs_late, wait1_agrees, wait1_settled, wait2_agrees, wait2_settled}

-- ---- one call more

-- a life up to here
pub record Lived (life : Life) (steps : List Step) (s : KeySetState) (p : Noted) : Type 0 where
  pub base : Base life steps s p
  pub sides : Sides life steps s p

module _ (life : Life) (steps : List Step) (s x : KeySetState) (c : Call) (now : ℕ) (p : Noted) (acts : List Action) (b : Base life steps s p) (by_rolls : sets_by_hand c ≡ false) (gives : on_state c now s ≡ Ok (x, acts)) where
  holds_next : (r : RollType) → Holds r x (then p c now r)
  holds_next r = subst (λ a. Holds r (left s a) (noted_if (is_accepted a) r c now (p r))) gives (call_next r (p r) s (b.holds r) c now by_rolls)

  tags_next : Apart x.keys
  tags_next = subst (λ a. Apart (left s a).keys) gives (call_apart s b.tags c now)

  pub sorted_next : T (is_sorted reference_cmp x.keys)
  sorted_next = (holds_next KskRoll).sorted

  pub base_next : Roles x → Base life (steps ++ step_of now c x ∷ []) x (then p c now)
  base_next roles = record {
    holds = holds_next;
    tags = tags_next;
    roles = roles;
    differing = each_more life steps (step_of now c x) (λ x. differ (tags_of x (present x)) ≡ true) b.differing (present_differ x sorted_next tags_next);
    here = get_last_place life.start steps (step_of now c x);
  }

  pub keep_next : Roles x → (q : Reference) (k : Key) → key_of x q ≡ Some k → keeps_all k.roles ≡ true
  keep_next roles q k f = join (keeps_roles k.roles) (agrees k.roles) ((holds_next KskRoll).keeps q k f) (roles.agree q k f)

  keep_now : (q : Reference) (k : Key) → key_of s q ≡ Some k → keeps_all k.roles ≡ true
  keep_now q k f = join (keeps_roles k.roles) (agrees k.roles) ((b.holds KskRoll).keeps q k f) (b.roles.agree q k f)

  -- ---- roles behind each kind of call

  started_agrees : (a : RollType) (is_old is_new : Bool) (t : KeyType) → touches a t ≡ true → keeps_all t ≡ true → agrees (started_roles a is_old is_new t) ≡ true
  started_agrees a is_old true t e k = new_agrees a t (join (touches a t) (keeps_all t) e k)
  started_agrees a true false t e k = old_agrees a t (join (touches a t) (keeps_all t) e k)
  started_agrees a false false t e k = right_of (keeps_roles t) (agrees t) k

  started_settled : (a : RollType) (is_old is_new : Bool) (t : KeyType) → is_settled t ≡ true → (is_settled (started_roles a is_old is_new t) ≡ true) ⊎ ((signs_late a ≡ true) × (is_first (Some Propagation1) ≡ true))
  started_settled a is_old true t h = at (signs_late a) refl
    where
      at : (b : Bool) → signs_late a ≡ b → (is_settled (started_roles a is_old true t) ≡ true) ⊎ ((signs_late a ≡ true) × (is_first (Some Propagation1) ≡ true))
      at true e = inr (e, refl)
      at false e = inl (new_settled a t (join (not (signs_late a)) (is_settled t) (ap not e) h))
  started_settled a true false t h = inl (old_settled a t h)
  started_settled a false false t h = inl h

  pub start_roles : (a : RollType) (olds news : List Reference) → Started a now olds news s x → Roles x
  start_roles a olds news w =
      turn_roles a (Rattle.keyset.specs.KeyState.phase_of s a) (Some Propagation1) (start_of a now olds news) s x w.moved b.roles
      (λ q k f e. started_agrees a (listed olds q) (listed news q) k.roles e (keep_now q k f))
      (λ q k f e h. started_settled a (listed olds q) (listed news q) k.roles h)
      (λ q k f e l i. inr refl)

  pub report1_roles : (a : RollType) (ttl : ℕ) → Reported1 a now s ttl x → Roles x
  report1_roles a ttl w =
      turn_roles a (Some Propagation1) (Some (CacheExpire1 ttl)) (touched_by a (reported1 a now)) s x w b.roles
      (λ q k f e. ap agrees (when_roles (touches a k.roles) (reported1 a now) k refl) ∙ b.roles.agree q k f)
      (λ q k f e h. inl (ap is_settled (when_roles (touches a k.roles) (reported1 a now) k refl) ∙ h))
      (λ q k f e l i. inr refl)

  pub report2_roles : (a : RollType) (ttl : ℕ) → Reported2 a now s ttl x → Roles x
  report2_roles a ttl w =
      turn_roles a (Some Propagation2) (Some (CacheExpire2 ttl)) (touched_by a (reported2 a now)) s x w b.roles
      (λ q k f e. ap agrees (when_roles (touches a k.roles) (reported2 a now) k refl) ∙ b.roles.agree q k f)
      (λ q k f e h. inl (ap is_settled (when_roles (touches a k.roles) (reported2 a now) k refl) ∙ h))
      (λ q k f e l i. absurd (false≢true i))

  wait1_settles : (a : RollType) (k : Key) → touches a k.roles ≡ true → (signs_late a || is_settled k.roles) ≡ true → is_settled (touched_by a (waited1 a now) [] k).roles ≡ true
  wait1_settles a k e h = ap (λ (k : Key). is_settled k.roles) (when_on (touches a k.roles) (waited1 a now) k e) ∙ wait1_settled a k.roles (join (touches a k.roles) (signs_late a || is_settled k.roles) e h)

  pub waited1_roles : (a : RollType) → Waited1 a now s x → Roles x
  waited1_roles a w =
      turn_roles a (Some (CacheExpire1 w.ttl)) (Some Propagation2) (touched_by a (waited1 a now)) s x w.moved b.roles
      (λ q k f e. ap (λ (k : Key). agrees k.roles) (when_on (touches a k.roles) (waited1 a now) k e) ∙ wait1_agrees a k.roles (join (touches a k.roles) (keeps_all k.roles) e (keep_now q k f)))
      (λ q k f e h. inl (wait1_settles a k e (or_right (signs_late a) (is_settled k.roles) h)))
      (λ q k f e l i. inl (wait1_settles a k e (or_left (signs_late a) (is_settled k.roles) l)))

  pub waited2_roles : (a : RollType) → Waited2 a now s x → Roles x
  waited2_roles a w =
      turn_roles a (Some (CacheExpire2 w.ttl)) (Some Done) (touched_by a (waited2 a now)) s x w.moved b.roles
      (λ q k f e. ap (λ (k : Key). agrees k.roles) (when_on (touches a k.roles) (waited2 a now) k e) ∙ wait2_agrees a k.roles (join (touches a k.roles) (keeps_all k.roles) e (keep_now q k f)))
      (λ q k f e h. inl (ap (λ (k : Key). is_settled k.roles) (when_on (touches a k.roles) (waited2 a now) k e) ∙ wait2_settled a k.roles h))
      (λ q k f e l i. absurd (false≢true i))

  pub finished_roles : (a : RollType) → Finished a s x → Roles x
  finished_roles a w =
      turn_roles a (Some Done) None same_key s x w b.roles
      (λ q k f e. b.roles.agree q k f)
      (λ q k f e h. inl h)
      (λ q k f e l i. absurd (false≢true i))

  -- a call on keys
  calm_lived : Calm s x → ((r : RollType) → is_start r c ≡ false) → ((r : RollType) → Rattle.keyset_laws.specs.KeyLife.is_first_wait r c ≡ false) → ((r : RollType) → p r ≡ then p c now r) → Sides life steps s p → Lived life (steps ++ step_of now c x ∷ []) x (then p c now)
  calm_lived w no_start no_wait same sides = record {
    base = base_next (calm_roles s x w b.roles);
    sides = calm_sides life steps s (step_of now c x) p (then p c now) b sorted_next w no_start no_wait same sides;
  }

module _ (life : Life) (steps after : List Step) (s x : KeySetState) (now : ℕ) (p : Noted) (acts : List Action) (h : Lived life steps s p) (in_time : now ≤ life.moment) (first : algorithm_first life.steps ≡ true) where
  pub one_more : (c : Call) → sets_by_hand c ≡ false → on_state c now s ≡ Ok (x, acts) → life.steps ≡ steps ++ step_of now c x ∷ after → Lived life (steps ++ step_of now c x ∷ []) x (then p c now)
  one_more (Add q n) by_rolls e all =
      calm_lived life steps s x (Add q n) now p acts h.base by_rolls e (when_accepted (on_state (Add q n) now s) (Ok (x, acts)) (Calm s) (add_calm s q n) e) (λ r. refl) (λ r. refl) (λ r. refl) h.sides
  one_more (SetDecoupled q v) by_rolls e all =
      calm_lived life steps s x (SetDecoupled q v) now p acts h.base by_rolls e (when_accepted (on_state (SetDecoupled q v) now s) (Ok (x, acts)) (Calm s) (decouple_calm s q v) e) (λ r. refl) (λ r. refl) (λ r. refl) h.sides
  one_more (SetPresent q v) by_rolls e all = cc
  one_more (SetSigner q v) by_rolls e all = cc
  one_more (SetAtParent q v) by_rolls e all = cc
  one_more (SetVisible q v) by_rolls e all = cc
  one_more (SetDsVisible q v) by_rolls e all = cc
  one_more (SetRrsigVisible q v) by_rolls e all = cc
  one_more (SetStale q) by_rolls e all = cc
  one_more (Delete q) by_rolls e all =
      calm_lived life steps s x (Delete q) now p acts h.base by_rolls e (when_accepted (on_state (Delete q) now s) (Ok (x, acts)) (Calm s) (delete_calm s q) e) (λ r. refl) (λ r. refl) (λ r. refl) h.sides
  one_more (Start a olds news) by_rolls e all =
      let w : Started a now olds news s x = when_accepted (on_state (Start a olds news) now s) (Ok (x, acts)) (Started a now olds news s) (start_so a olds news now s) e in
      let roles = start_roles life steps s x (Start a olds news) now p acts h.base by_rolls e a olds news w in
      record {
        base = base_next life steps s x (Start a olds news) now p acts h.base by_rolls e roles;
        sides = start_sides life steps after s x now p h.base a olds news w (sorted_next life steps s x (Start a olds news) now p acts h.base by_rolls e) (keep_next life steps s x (Start a olds news) now p acts h.base by_rolls e roles) roles all first h.sides;
      }
  one_more (Report1 a ttl) by_rolls e all =
      let w : Reported1 a now s ttl x = when_accepted (on_state (Report1 a ttl) now s) (Ok (x, acts)) (Reported1 a now s ttl) (report1_so a now s ttl) e in
      record {
        base = base_next life steps s x (Report1 a ttl) now p acts h.base by_rolls e (report1_roles life steps s x (Report1 a ttl) now p acts h.base by_rolls e a ttl w);
        sides = report1_sides life steps after s x now ttl p h.base a (sorted_next life steps s x (Report1 a ttl) now p acts h.base by_rolls e) in_time w all h.sides;
      }
  one_more (Wait1 a) by_rolls e all =
      let w : Waited1 a now s x = when_accepted (on_state (Wait1 a) now s) (Ok (x, acts)) (Waited1 a now s) (wait1_so a now s) e in
      record {
        base = base_next life steps s x (Wait1 a) now p acts h.base by_rolls e (waited1_roles life steps s x (Wait1 a) now p acts h.base by_rolls e a w);
        sides = wait1_sides life steps after s x now p h.base a (sorted_next life steps s x (Wait1 a) now p acts h.base by_rolls e) in_time w (ap is_accepted e) h.sides;
      }
  one_more (Report2 a ttl) by_rolls e all =
      let w : Reported2 a now s ttl x = when_accepted (on_state (Report2 a ttl) now s) (Ok (x, acts)) (Reported2 a now s ttl) (report2_so a now s ttl) e in
      record {
        base = base_next life steps s x (Report2 a ttl) now p acts h.base by_rolls e (report2_roles life steps s x (Report2 a ttl) now p acts h.base by_rolls e a ttl w);
        sides = report2_sides life steps after s x now ttl p h.base a (sorted_next life steps s x (Report2 a ttl) now p acts h.base by_rolls e) in_time w all h.sides;
      }
  one_more (Wait2 a) by_rolls e all =
      let w : Waited2 a now s x = when_accepted (on_state (Wait2 a) now s) (Ok (x, acts)) (Waited2 a now s) (wait2_so a now s) e in
      record {
        base = base_next life steps s x (Wait2 a) now p acts h.base by_rolls e (waited2_roles life steps s x (Wait2 a) now p acts h.base by_rolls e a w);
        sides = wait2_sides life steps after s x now p h.base a (sorted_next life steps s x (Wait2 a) now p acts h.base by_rolls e) in_time w (ap is_accepted e) h.sides;
      }
  one_more (Finish a) by_rolls e all =
      let w : Finished a s x = when_accepted (on_state (Finish a) now s) (Ok (x, acts)) (Finished a s) (done_so a s) e in
      record {
        base = base_next life steps s x (Finish a) now p acts h.base by_rolls e (finished_roles life steps s x (Finish a) now p acts h.base by_rolls e a w);
        sides = finish_sides life steps after s x now p h.base a (sorted_next life steps s x (Finish a) now p acts h.base by_rolls e) in_time w h.sides;
      }

-- ---- no calls yet

pub first_state : (P : KeySetState → Type 0) (s : KeySetState) → P s → (i : ℕ) (x : KeySetState) → slice_get (s ∷ []) i ≡ Some x → P x
first_state P s h zero x e = let same : s ≡ x = cc in subst P same h
first_state P s h (suc i) x e = cc

pub base_of_none : (life : Life) (name : List (List ℕ)) → life.start ≡ no_keys name → Base life [] (no_keys name) (λ _. no_reports)
base_of_none life name e = record {
  holds = λ r. none_hold r name;
  tags = λ p q k l f g e. cc;
  roles = record { agree = λ q k f. cc; settled = λ q k f. cc };
  differing = λ i x f. first_state (λ x. differ (tags_of x (present x)) ≡ true) (no_keys name) refl i x (ap (λ s. slice_get (s ∷ []) i) (sym e) ∙ f);
  here = (0, ap (λ s. Some s) e);
}
