-- Each call that sets nothing by hand keeps what runs keep.
use Rattle.std.proofs.Common.{◌≡◌, ℕ, Bool, true, false, cond, List, refl, sym, ap, subst, ◌∙◌}
use Rattle.std.specs.Prelude.{Option, Some, None, is_some}
use Rattle.std.specs.Ordering.{eq_by_cmp}
use Rattle.keyset_rolls.specs.declared.rolls.RollState.{RollState}
use Rattle.keyset_rolls.specs.declared.rolls.RollState.TheVariants.{Propagation1, CacheExpire1, Propagation2, CacheExpire2, Done}
use Rattle.keyset_rolls.specs.declared.rolls.RollType.{RollType}
use Rattle.keyset_rolls.specs.declared.rolls.Turn.TheVariants.{First, Second}
use Rattle.keyset_rolls.specs.Rolls.{touches, reported1, reported2, waited1, waited2}
use Rattle.keyset.specs.KeyState.{Answer, Key, KeySetState, Reference, Refusal, enter, entered, kind_cmp, on_keys, phase_of, report1, report2, unless_fault, wait1, wait2, wait_fault, when}
use Rattle.keyset.specs.KeyRuns.{Call, Report1, Report2, Wait1, Wait2, is_accepted, left}
use Rattle.keyset.specs.KeyRunLaws.{Reports, keeps_roles, noted, noted_if, same_roll}
use Rattle.keyset.proofs.KeyFinds.{is_equal}
use Rattle.keyset.proofs.KeyKinds.{kind_of, kind_wait1, kind_wait2}
use Rattle.keyset.proofs.KeyMaps.{kind_same}
use Rattle.keyset.proofs.KeyRunSteps.{AllTouched, At, Holds, Kept, Moves, Stamped1, Stamped2, other_roll, own, roll_itself, running_holds, stamps1, stamps2}
use Rattle.keyset.proofs.KeyTables.{wait1_keeps, wait2_keeps}

-- ---- what each step does to one key

when_kind : (b : Bool) (h : Key → Key) (k : Key) → kind_of (h k).roles ≡ kind_of k.roles → kind_of (when b h k).roles ≡ kind_of k.roles
when_kind true h k e = e
when_kind false h k e = refl

-- a change of the keys that a roll touches
pub moves_when : (a : RollType) (h : Key → Key) (es : List (Reference × Key)) → ((k : Key) → kind_of (h k).roles ≡ kind_of k.roles) → ((k : Key) → touches a k.roles ≡ true → keeps_roles k.roles ≡ true → keeps_roles (h k).roles ≡ true)
    → Moves a (λ _ k. when (touches a k.roles) h k) es
moves_when a h es kind keeps = record {
  still = λ q k f t. ap (λ b. when b h k) t;
  kind = λ q k. when_kind (touches a k.roles) h k (kind k);
  keeps = λ q k f t w. ap (λ b. keeps_roles (when b h k).roles) t ∙ keeps k t w;
}

-- the keys of the roll itself behind such a change
own_when : (a : RollType) (h : Key → Key) (es : List (Reference × Key)) → Moves a (λ _ k. when (touches a k.roles) h k) es → (F : Key → Type 0) → ((q : Reference) (k : Key) → At es q k → touches a k.roles ≡ true → F (h k)) → AllTouched a F (on_keys a h es)
own_when a h es m F all = own a (λ _ k. when (touches a k.roles) h k) es m F (λ q k f t. subst F (sym (ap (λ b. when b h k) t)) (all q k f t))

-- ---- calls

-- what a call leaves
abbrev pub Next : RollType → Reports → Call → ℕ → KeySetState → Answer → Type 0
Next r p c now s a = Holds r (left s a) (noted_if (is_accepted a) r c now p)

pub unless_next : (r : RollType) (p : Reports) (c : Call) (now : ℕ) (s : KeySetState) (fault : Option Refusal) (x : RollState) (a : RollType) (ks : List (Reference × Key)) → Holds r s p → (fault ≡ None → Holds r (entered a x ks s) (noted r c now p)) → Next r p c now s (unless_fault fault (enter a x ks s))
unless_next r p c now s None x a ks h next = next refl
unless_next r p c now s (Some e) x a ks h next = h

same_kind : (a r : RollType) → eq_by_cmp kind_cmp r a ≡ true → a ≡ r
same_kind a r e = sym (kind_same r a (is_equal (kind_cmp r a) e))

-- what holds of a step of the roll itself holds at the other name of it
at_roll : (a r : RollType) (P : RollType → Type 0) → eq_by_cmp kind_cmp r a ≡ true → P a → P r
at_roll a r P e h = subst P (same_kind a r e) h

module _ (r : RollType) (p : Reports) (s : KeySetState) (h : Holds r s p) (a : RollType) (now : ℕ) where
  not_noted : (x y : Reports) → eq_by_cmp kind_cmp r a ≡ false → cond (same_roll a r) x y ≡ y
  not_noted x y e = ap (λ b. cond b x y) (other_roll a r e)

  runs : (x : RollState) → phase_of s a ≡ Some x → is_some (phase_of s a) ≡ true
  runs x e = ap is_some e

  -- ---- reports

  moves_report1 : Moves a (λ _ k. when (touches a k.roles) (reported1 a now) k) s.keys
  moves_report1 = moves_when a (reported1 a now) s.keys (λ _. refl) (λ _ _ w. w)

  moves_report2 : Moves a (λ _ k. when (touches a k.roles) (reported2 a now) k) s.keys
  moves_report2 = moves_when a (reported2 a now) s.keys (λ _. refl) (λ _ _ w. w)

  kept1 : (ttl : ℕ) → Kept a (cond (same_roll a a) (record p { first = Some (now, ttl) }) p) (on_keys a (reported1 a now) s.keys) (Some (CacheExpire1 ttl))
  kept1 ttl = (
    now,
    ap (λ b. (cond b (record p { first = Some (now, ttl) }) p).first) (roll_itself a),
    own_when a (reported1 a now) s.keys moves_report1 (Stamped1 a now) (λ q k f t. stamps1 a now k),
  )

  at_report1 : (ttl : ℕ) (o : Option RollState) → phase_of s a ≡ o → Next r p (Report1 a ttl) now s (report1 a ttl now s)
  at_report1 ttl None e = rw (e, report1) h
  at_report1 ttl (Some Propagation1) e = rw (e, report1)
      (running_holds r s p h a (λ _ k. when (touches a k.roles) (reported1 a now) k) (CacheExpire1 ttl) moves_report1 (noted r (Report1 a ttl) now p) (runs Propagation1 e)
      (λ same. at_roll a r (λ b. Kept b (noted b (Report1 a ttl) now p) (on_keys a (reported1 a now) s.keys) (Some (CacheExpire1 ttl))) same (kept1 ttl))
      (λ other. not_noted (record p { first = Some (now, ttl) }) p other))
  at_report1 ttl (Some (CacheExpire1 t)) e = rw (e, report1) h
  at_report1 ttl (Some Propagation2) e = rw (e, report1) h
  at_report1 ttl (Some (CacheExpire2 t)) e = rw (e, report1) h
  at_report1 ttl (Some Done) e = rw (e, report1) h

  kept2 : (ttl : ℕ) → Kept a (cond (same_roll a a) (record p { second = Some (now, ttl) }) p) (on_keys a (reported2 a now) s.keys) (Some (CacheExpire2 ttl))
  kept2 ttl = (
    now,
    ap (λ b. (cond b (record p { second = Some (now, ttl) }) p).second) (roll_itself a),
    own_when a (reported2 a now) s.keys moves_report2 (Stamped2 a now) (λ q k f t. stamps2 a now k (h.keeps q k f)),
  )

  at_report2 : (ttl : ℕ) (o : Option RollState) → phase_of s a ≡ o → Next r p (Report2 a ttl) now s (report2 a ttl now s)
  at_report2 ttl None e = rw (e, report2) h
  at_report2 ttl (Some Propagation1) e = rw (e, report2) h
  at_report2 ttl (Some (CacheExpire1 t)) e = rw (e, report2) h
  at_report2 ttl (Some Propagation2) e = rw (e, report2)
      (running_holds r s p h a (λ _ k. when (touches a k.roles) (reported2 a now) k) (CacheExpire2 ttl) moves_report2 (noted r (Report2 a ttl) now p) (runs Propagation2 e)
      (λ same. at_roll a r (λ b. Kept b (noted b (Report2 a ttl) now p) (on_keys a (reported2 a now) s.keys) (Some (CacheExpire2 ttl))) same (kept2 ttl))
      (λ other. not_noted (record p { second = Some (now, ttl) }) p other))
  at_report2 ttl (Some (CacheExpire2 t)) e = rw (e, report2) h
  at_report2 ttl (Some Done) e = rw (e, report2) h

  -- ---- waits

  moves_wait1 : Moves a (λ _ k. when (touches a k.roles) (waited1 a now) k) s.keys
  moves_wait1 = moves_when a (waited1 a now) s.keys (λ k. kind_wait1 a k.roles) (λ k t w. wait1_keeps a k.roles t w)

  moves_wait2 : Moves a (λ _ k. when (touches a k.roles) (waited2 a now) k) s.keys
  moves_wait2 = moves_when a (waited2 a now) s.keys (λ k. kind_wait2 a k.roles) (λ k t w. wait2_keeps a k.roles t w)

  at_wait1 : (o : Option RollState) → phase_of s a ≡ o → Next r p (Wait1 a) now s (wait1 a now s)
  at_wait1 None e = rw (e, wait1) h
  at_wait1 (Some Propagation1) e = rw (e, wait1) h
  at_wait1 (Some (CacheExpire1 ttl)) e = rw (e, wait1)
      (unless_next r p (Wait1 a) now s (wait_fault a First ttl now s.keys) Propagation2 a (on_keys a (waited1 a now) s.keys) h (λ _.
      running_holds r s p h a (λ _ k. when (touches a k.roles) (waited1 a now) k) Propagation2 moves_wait1 p (runs (CacheExpire1 ttl) e) (λ _. tt) (λ _. refl)))
  at_wait1 (Some Propagation2) e = rw (e, wait1) h
  at_wait1 (Some (CacheExpire2 t)) e = rw (e, wait1) h
  at_wait1 (Some Done) e = rw (e, wait1) h

  at_wait2 : (o : Option RollState) → phase_of s a ≡ o → Next r p (Wait2 a) now s (wait2 a now s)
  at_wait2 None e = rw (e, wait2) h
  at_wait2 (Some Propagation1) e = rw (e, wait2) h
  at_wait2 (Some (CacheExpire1 t)) e = rw (e, wait2) h
  at_wait2 (Some Propagation2) e = rw (e, wait2) h
  at_wait2 (Some (CacheExpire2 ttl)) e = rw (e, wait2)
      (unless_next r p (Wait2 a) now s (wait_fault a Second ttl now s.keys) Done a (on_keys a (waited2 a now) s.keys) h (λ _.
      running_holds r s p h a (λ _ k. when (touches a k.roles) (waited2 a now) k) Done moves_wait2 p (runs (CacheExpire2 ttl) e) (λ _. tt) (λ _. refl)))
  at_wait2 (Some Done) e = rw (e, wait2) h

pub report1_next : (r : RollType) (p : Reports) (s : KeySetState) → Holds r s p → (a : RollType) (ttl now : ℕ) → Next r p (Report1 a ttl) now s (report1 a ttl now s)
report1_next r p s h a ttl now = at_report1 r p s h a now ttl (phase_of s a) refl

pub report2_next : (r : RollType) (p : Reports) (s : KeySetState) → Holds r s p → (a : RollType) (ttl now : ℕ) → Next r p (Report2 a ttl) now s (report2 a ttl now s)
report2_next r p s h a ttl now = at_report2 r p s h a now ttl (phase_of s a) refl

pub wait1_next : (r : RollType) (p : Reports) (s : KeySetState) → Holds r s p → (a : RollType) (now : ℕ) → Next r p (Wait1 a) now s (wait1 a now s)
wait1_next r p s h a now = at_wait1 r p s h a now (phase_of s a) refl

pub wait2_next : (r : RollType) (p : Reports) (s : KeySetState) → Holds r s p → (a : RollType) (now : ℕ) → Next r p (Wait2 a) now s (wait2 a now s)
wait2_next r p s h a now = at_wait2 r p s h a now (phase_of s a) refl
