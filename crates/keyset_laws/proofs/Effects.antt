-- What accepted calls leave: keys beside the others, or a step of one roll.
use Rattle.std.proofs.Common.{◌≡◌, ℕ, Bool, true, false, cond, not, List, [], ◌∷◌, map, refl, sym, ap, subst, ◌∙◌, T, ◌&&◌, ◌||◌, ◌⊎◌, inl, inr, ⊎_elim}
use Rattle.std.specs.Prelude.{Option, Some, None, Ok, Err, is_some, if◌then◌else◌}
use Rattle.std.specs.List.{list_any}
use Rattle.std.specs.Str.{bytes_eq}
use Rattle.std.specs.Ordering.{eq_by_cmp, is_eq}
use Rattle.std.specs.Cmp.Lexicographic.{bytes_decides, nat_list_cmp_total}
use Rattle.std.specs.FinMap.Entries.{find, find-put, find-where_key}
use Rattle.std.proofs.lemmas.Bool.{false≢true, true≢false}
use Rattle.keyset_rolls.specs.declared.rolls.RollState.{RollState}
use Rattle.keyset_rolls.specs.declared.rolls.RollState.TheVariants.{Propagation1, CacheExpire1, Propagation2, CacheExpire2, Done}
use Rattle.keyset_rolls.specs.declared.rolls.RollType.{RollType}
use Rattle.keyset_rolls.specs.declared.rolls.Turn.TheVariants.{First, Second}
use Rattle.keyset_rolls.specs.Rolls.{reported1, reported2, touches, waited1, waited2}
use Rattle.keyset.specs.KeyState.{Answer, DuplicateKeyTag, Key, KeyExists, KeyNotFound, KeyNotOld, KeySetState, Reference, Refusal, add, added, decoupled_to, delete, deleted, done, each_is, ended, enter, has_tag, index_of, is_stale, key_of, kind_cmp, new_key, on_keys, phase_of, reference_cmp, report1, report2, start, start_fault, started, unless_fault, wait1, wait2, wait_fault, when, write}
use Rattle.keyset.specs.KeyRuns.{Kind, NewKey, roles_of}
use Rattle.keyset.proofs.KeyFinds.{changed, is_same}
use Rattle.keyset.proofs.KeyKinds.{kind_wait1, kind_wait2}
use Rattle.keyset.proofs.KeyMaps.{kind_same}
use Rattle.keyset.proofs.KeyRunCalls.{moves_when}
use Rattle.keyset.proofs.KeyRunStarts.{Starts, start_of, starts_so, moves_start}
use Rattle.keyset.proofs.KeyRunSteps.{Moves}
use Rattle.keyset.proofs.KeyTables.{wait1_keeps, wait2_keeps}
use Rattle.keyset.proofs.KeyWaits.{kind_itself}
use Rattle.keyset_laws.proofs.Turns.{Turn, entered_turn}

-- ---- calls on keys

-- a key that was added and not used
abbrev pub IsFresh : Key → Type 0
IsFresh k = (kind : Kind) × (a : Bool) × (k.roles ≡ roles_of kind a)

-- each key is fresh or was there with its roles, and each key in use is still there; rolls stay
pub record Calm (s x : KeySetState) : Type 0 where
  pub from : (q : Reference) (l : Key) → key_of x q ≡ Some l → IsFresh l ⊎ (k : Key) × (key_of s q ≡ Some k) × (l.roles ≡ k.roles)
  pub to : (q : Reference) (k : Key) → key_of s q ≡ Some k → each_is is_stale k.roles ≡ false → (l : Key) × (key_of x q ≡ Some l) × (l.roles ≡ k.roles)
  pub rolls : (r : RollType) → phase_of x r ≡ phase_of s r

-- what holds of the state that an accepted call leaves
abbrev pub IfAccepted : Answer → (KeySetState → Type 0) → Type 0
IfAccepted (Ok a) P = P a.0
IfAccepted (Err e) P = Unit {0}

pub when_accepted : (a b : Answer) (P : KeySetState → Type 0) → IfAccepted a P → a ≡ b → IfAccepted b P
when_accepted a b P h e = subst (λ a. IfAccepted a P) e h

found_put : (q x : Reference) (n : Key) (es : List (Reference × Key)) → find reference_cmp x (Rattle.std.specs.FinMap.Entries.put reference_cmp q n es) ≡ cond (eq_by_cmp reference_cmp x q) (Some n) (find reference_cmp x es)
found_put q x n es = find-put reference_cmp nat_list_cmp_total x q n es

module _ (s : KeySetState) (q : Reference) where
  added_calm : (n : Key) → IsFresh n → is_some (key_of s q) ≡ false → Calm s (added q n s)
  added_calm n fresh free = record {
    from = λ x l f. from x l (eq_by_cmp reference_cmp x q) (sym (found_put q x n s.keys) ∙ f);
    to = λ x k f _. (k, found_put q x n s.keys ∙ to x k (eq_by_cmp reference_cmp x q) refl f, refl);
    rolls = λ r. refl;
  }
    where
      from : (x : Reference) (l : Key) (b : Bool) → cond b (Some n) (find reference_cmp x s.keys) ≡ Some l → IsFresh l ⊎ (k : Key) × (key_of s x ≡ Some k) × (l.roles ≡ k.roles)
      from x l true f = let same : n ≡ l = cc in inl (subst IsFresh same fresh)
      from x l false f = inr (l, f, refl)

      to : (x : Reference) (k : Key) (b : Bool) → eq_by_cmp reference_cmp x q ≡ b → key_of s x ≡ Some k → cond b (Some n) (find reference_cmp x s.keys) ≡ Some k
      to x k true e f = absurd (true≢false (sym (ap is_some (ap (key_of s) (sym (is_same x q e)) ∙ f)) ∙ free))
      to x k false e f = f

  -- one key written over with its roles
  over_calm : (k n : Key) → key_of s q ≡ Some k → n.roles ≡ k.roles → Calm s (added q n s)
  over_calm k n here same = record {
    from = λ x l f. from x l (eq_by_cmp reference_cmp x q) refl (sym (found_put q x n s.keys) ∙ f);
    to = λ x l f _. to x l (eq_by_cmp reference_cmp x q) refl f;
    rolls = λ r. refl;
  }
    where
      from : (x : Reference) (l : Key) (b : Bool) → eq_by_cmp reference_cmp x q ≡ b → cond b (Some n) (find reference_cmp x s.keys) ≡ Some l → IsFresh l ⊎ (k : Key) × (key_of s x ≡ Some k) × (l.roles ≡ k.roles)
      from x l true e f = let i : n ≡ l = cc in inr (k, ap (key_of s) (is_same x q e) ∙ here, ap (λ (k : Key). k.roles) (sym i) ∙ same)
      from x l false e f = inr (l, f, refl)

      to : (x : Reference) (l : Key) (b : Bool) → eq_by_cmp reference_cmp x q ≡ b → key_of s x ≡ Some l → (m : Key) × (key_of (added q n s) x ≡ Some m) × (m.roles ≡ l.roles)
      to x l true e f =
          let found : ◌≡◌ {A = Option Key} (Some k) (Some l) = sym here ∙ ap (key_of s) (sym (is_same x q e)) ∙ f in
          let i : k ≡ l = cc in
          (n, found_put q x n s.keys ∙ ap (λ b. cond b (Some n) (find reference_cmp x s.keys)) e, same ∙ ap (λ (k : Key). k.roles) i)
      to x l false e f = (l, found_put q x n s.keys ∙ ap (λ b. cond b (Some n) (find reference_cmp x s.keys)) e ∙ f, refl)

  found_rest : (x : Reference) → key_of (deleted q s) x ≡ cond (not (bytes_eq x q)) (key_of s x) None
  found_rest x = find-where_key reference_cmp (λ y. not (bytes_eq y q)) x (λ y e. ap (λ y. not (bytes_eq y q)) (sym (is_same x y (ap is_eq e)))) s.keys

  deleted_calm : (k : Key) → key_of s q ≡ Some k → each_is is_stale k.roles ≡ true → Calm s (deleted q s)
  deleted_calm k here stale = record {
    from = λ x l f. from x l (bytes_eq x q) (sym (found_rest x) ∙ f);
    to = λ x l f used. (l, found_rest x ∙ to x l (bytes_eq x q) refl f used, refl);
    rolls = λ r. refl;
  }
    where
      from : (x : Reference) (l : Key) (b : Bool) → cond (not b) (key_of s x) None ≡ Some l → IsFresh l ⊎ (k : Key) × (key_of s x ≡ Some k) × (l.roles ≡ k.roles)
      from x l true f = cc
      from x l false f = inr (l, f, refl)

      to : (x : Reference) (l : Key) (b : Bool) → bytes_eq x q ≡ b → key_of s x ≡ Some l → each_is is_stale l.roles ≡ false → cond (not b) (key_of s x) None ≡ Some l
      to x l true e f used =
          let found : ◌≡◌ {A = Option Key} (Some k) (Some l) = sym here ∙ ap (key_of s) (sym ((bytes_decides x q).0 e)) ∙ f in
          let i : k ≡ l = cc in
          absurd (true≢false (sym stale ∙ ap (λ (k : Key). each_is is_stale k.roles) i ∙ used))
      to x l false e f used = f

pub add_calm : (s : KeySetState) (q : Reference) (n : NewKey) → IfAccepted (add q (new_key n.private (roles_of n.kind n.available) n.algorithm n.tag n.created) s) (Calm s)
add_calm s q n = at (has_tag n.tag s.keys) (is_some (key_of s q)) refl
  where
    at : (t b : Bool) → is_some (key_of s q) ≡ b
        → IfAccepted (cond t (Err DuplicateKeyTag) (cond b (Err KeyExists) (Ok (added q (new_key n.private (roles_of n.kind n.available) n.algorithm n.tag n.created) s, [])))) (Calm s)
    at true b e = tt
    at false true e = tt
    at false false e = added_calm s q (new_key n.private (roles_of n.kind n.available) n.algorithm n.tag n.created) (n.kind, n.available, refl) e

pub decouple_calm : (s : KeySetState) (q : Reference) (b : Bool) → IfAccepted (write (decoupled_to b) q s) (Calm s)
decouple_calm s q b = at (key_of s q) refl
  where
    at : (o : Option Key) → key_of s q ≡ o → IfAccepted (elim o [ None ↦ Err KeyNotFound | Some k ↦ elim (decoupled_to b k) [ Err e ↦ Err e | Ok l ↦ Ok (added q l s, []) ] ]) (Calm s)
    at None e = tt
    at (Some k) e = over_calm s q k (record k { decoupled = b }) e refl

pub delete_calm : (s : KeySetState) (q : Reference) → IfAccepted (delete q s) (Calm s)
delete_calm s q = at (key_of s q) refl
  where
    gone : (k : Key) → key_of s q ≡ Some k → (t : Bool) → each_is is_stale k.roles ≡ t → IfAccepted (if t then Ok (deleted q s, []) else Err KeyNotOld) (Calm s)
    gone k e true i = deleted_calm s q k e i
    gone k e false i = tt

    at : (o : Option Key) → key_of s q ≡ o → IfAccepted (elim o [ None ↦ Err KeyNotFound | Some k ↦ if each_is is_stale k.roles then Ok (deleted q s, []) else Err KeyNotOld ]) (Calm s)
    at None e = tt
    at (Some k) e = gone k e (each_is is_stale k.roles) refl

-- ---- calls of rolls

-- a step that moves keys of one roll
pub record Moved (a : RollType) (o n : Option RollState) (g : Reference → Key → Key) (s x : KeySetState) : Type 0 where
  pub turn : Turn a o n g s x
  pub moves : Moves a g s.keys

abbrev pub touched_by : RollType → (Key → Key) → Reference → Key → Key
touched_by a h q k = when (touches a k.roles) h k

pub record Started (a : RollType) (now : ℕ) (olds news : List Reference) (s x : KeySetState) : Type 0 where
  pub starts : Starts a olds news s
  pub moved : Moved a (phase_of s a) (Some Propagation1) (start_of a now olds news) s x

pub start_so : (a : RollType) (olds news : List Reference) (now : ℕ) (s : KeySetState) → IfAccepted (start a olds news now s) (Started a now olds news s)
start_so a olds news now s = at (start_fault a olds news s) refl
  where
    at : (o : Option Refusal) → start_fault a olds news s ≡ o → IfAccepted (unless_fault o (enter a Propagation1 (started a now olds news s.keys) s)) (Started a now olds news s)
    at None e =
        let w = starts_so a olds news s e in
        record { starts = w; moved = record { turn = entered_turn a (phase_of s a) Propagation1 (start_of a now olds news) s refl; moves = moves_start a now olds news s w } }
    at (Some f) e = tt

moves_reported1 : (a : RollType) (now : ℕ) (s : KeySetState) → Moves a (touched_by a (reported1 a now)) s.keys
moves_reported1 a now s = moves_when a (reported1 a now) s.keys (λ _. refl) (λ _ _ w. w)

moves_reported2 : (a : RollType) (now : ℕ) (s : KeySetState) → Moves a (touched_by a (reported2 a now)) s.keys
moves_reported2 a now s = moves_when a (reported2 a now) s.keys (λ _. refl) (λ _ _ w. w)

moves_waited1 : (a : RollType) (now : ℕ) (s : KeySetState) → Moves a (touched_by a (waited1 a now)) s.keys
moves_waited1 a now s = moves_when a (waited1 a now) s.keys (λ k. kind_wait1 a k.roles) (λ k t w. wait1_keeps a k.roles t w)

moves_waited2 : (a : RollType) (now : ℕ) (s : KeySetState) → Moves a (touched_by a (waited2 a now)) s.keys
moves_waited2 a now s = moves_when a (waited2 a now) s.keys (λ k. kind_wait2 a k.roles) (λ k t w. wait2_keeps a k.roles t w)

module _ (a : RollType) (now : ℕ) (s : KeySetState) where
  abbrev pub Reported1 : ℕ → KeySetState → Type 0
  Reported1 ttl x = Moved a (Some Propagation1) (Some (CacheExpire1 ttl)) (touched_by a (reported1 a now)) s x

  report1_at : (ttl : ℕ) (o : Option RollState) → phase_of s a ≡ o → IfAccepted (report1 a ttl now s) (Reported1 ttl)
  report1_at ttl None e = rw (e, report1) tt
  report1_at ttl (Some Propagation1) e = subst (λ r. IfAccepted r (Reported1 ttl)) (sym (in_phase e)) (record { turn = entered_turn a (Some Propagation1) (CacheExpire1 ttl) (touched_by a (reported1 a now)) s e; moves = moves_reported1 a now s })
    where
      in_phase : phase_of s a ≡ Some Propagation1 → report1 a ttl now s ≡ enter a (CacheExpire1 ttl) (on_keys a (reported1 a now) s.keys) s
      in_phase e = rw (e, report1) refl
  report1_at ttl (Some (CacheExpire1 t)) e = rw (e, report1) tt
  report1_at ttl (Some Propagation2) e = rw (e, report1) tt
  report1_at ttl (Some (CacheExpire2 t)) e = rw (e, report1) tt
  report1_at ttl (Some Done) e = rw (e, report1) tt

  abbrev pub Reported2 : ℕ → KeySetState → Type 0
  Reported2 ttl x = Moved a (Some Propagation2) (Some (CacheExpire2 ttl)) (touched_by a (reported2 a now)) s x

  report2_at : (ttl : ℕ) (o : Option RollState) → phase_of s a ≡ o → IfAccepted (report2 a ttl now s) (Reported2 ttl)
  report2_at ttl None e = rw (e, report2) tt
  report2_at ttl (Some Propagation1) e = rw (e, report2) tt
  report2_at ttl (Some (CacheExpire1 t)) e = rw (e, report2) tt
  report2_at ttl (Some Propagation2) e = subst (λ r. IfAccepted r (Reported2 ttl)) (sym (in_phase e)) (record { turn = entered_turn a (Some Propagation2) (CacheExpire2 ttl) (touched_by a (reported2 a now)) s e; moves = moves_reported2 a now s })
    where
      in_phase : phase_of s a ≡ Some Propagation2 → report2 a ttl now s ≡ enter a (CacheExpire2 ttl) (on_keys a (reported2 a now) s.keys) s
      in_phase e = rw (e, report2) refl
  report2_at ttl (Some (CacheExpire2 t)) e = rw (e, report2) tt
  report2_at ttl (Some Done) e = rw (e, report2) tt

  -- a wait that is accepted, in its phase
  pub record Waited1 (x : KeySetState) : Type 0 where
    pub ttl : ℕ
    pub phase : phase_of s a ≡ Some (CacheExpire1 ttl)
    pub moved : Moved a (Some (CacheExpire1 ttl)) (Some Propagation2) (touched_by a (waited1 a now)) s x

  wait1_at : (o : Option RollState) → phase_of s a ≡ o → IfAccepted (wait1 a now s) Waited1
  wait1_at None e = rw (e, wait1) tt
  wait1_at (Some Propagation1) e = rw (e, wait1) tt
  wait1_at (Some (CacheExpire1 ttl)) e = subst (λ r. IfAccepted r Waited1) (sym (in_phase e)) (at (wait_fault a First ttl now s.keys))
    where
      in_phase : phase_of s a ≡ Some (CacheExpire1 ttl) → wait1 a now s ≡ unless_fault (wait_fault a First ttl now s.keys) (enter a Propagation2 (on_keys a (waited1 a now) s.keys) s)
      in_phase e = rw (e, wait1) refl

      at : (f : Option Refusal) → IfAccepted (unless_fault f (enter a Propagation2 (on_keys a (waited1 a now) s.keys) s)) Waited1
      at None = record { ttl = ttl; phase = e; moved = record { turn = entered_turn a (Some (CacheExpire1 ttl)) Propagation2 (touched_by a (waited1 a now)) s e; moves = moves_waited1 a now s } }
      at (Some f) = tt
  wait1_at (Some Propagation2) e = rw (e, wait1) tt
  wait1_at (Some (CacheExpire2 t)) e = rw (e, wait1) tt
  wait1_at (Some Done) e = rw (e, wait1) tt

  pub record Waited2 (x : KeySetState) : Type 0 where
    pub ttl : ℕ
    pub phase : phase_of s a ≡ Some (CacheExpire2 ttl)
    pub moved : Moved a (Some (CacheExpire2 ttl)) (Some Done) (touched_by a (waited2 a now)) s x

  wait2_at : (o : Option RollState) → phase_of s a ≡ o → IfAccepted (wait2 a now s) Waited2
  wait2_at None e = rw (e, wait2) tt
  wait2_at (Some Propagation1) e = rw (e, wait2) tt
  wait2_at (Some (CacheExpire1 t)) e = rw (e, wait2) tt
  wait2_at (Some Propagation2) e = rw (e, wait2) tt
  wait2_at (Some (CacheExpire2 ttl)) e = subst (λ r. IfAccepted r Waited2) (sym (in_phase e)) (at (wait_fault a Second ttl now s.keys))
    where
      in_phase : phase_of s a ≡ Some (CacheExpire2 ttl) → wait2 a now s ≡ unless_fault (wait_fault a Second ttl now s.keys) (enter a Done (on_keys a (waited2 a now) s.keys) s)
      in_phase e = rw (e, wait2) refl

      at : (f : Option Refusal) → IfAccepted (unless_fault f (enter a Done (on_keys a (waited2 a now) s.keys) s)) Waited2
      at None = record { ttl = ttl; phase = e; moved = record { turn = entered_turn a (Some (CacheExpire2 ttl)) Done (touched_by a (waited2 a now)) s e; moves = moves_waited2 a now s } }
      at (Some f) = tt
  wait2_at (Some Done) e = rw (e, wait2) tt

  pub report1_so : (ttl : ℕ) → IfAccepted (report1 a ttl now s) (Reported1 ttl)
  report1_so ttl = report1_at ttl (phase_of s a) refl

  pub report2_so : (ttl : ℕ) → IfAccepted (report2 a ttl now s) (Reported2 ttl)
  report2_so ttl = report2_at ttl (phase_of s a) refl

  pub wait1_so : IfAccepted (wait1 a now s) Waited1
  wait1_so = wait1_at (phase_of s a) refl

  pub wait2_so : IfAccepted (wait2 a now s) Waited2
  wait2_so = wait2_at (phase_of s a) refl

-- ---- the end of a roll

abbrev pub same_key : Reference → Key → Key
same_key q k = k

same_keys : (es : List (Reference × Key)) → es ≡ changed same_key es
same_keys [] = refl
same_keys (e ∷ es) = ap (λ l. e ∷ l) (same_keys es)

abbrev pub Finished : RollType → KeySetState → KeySetState → Type 0
Finished a s x = Moved a (Some Done) None same_key s x

ended_phase : (a b : RollType) (s : KeySetState) → phase_of (ended a s) b ≡ cond (not (Rattle.std.proofs.Common.eqb (index_of b) (index_of a))) (phase_of s b) None
ended_phase a b s = find-where_key kind_cmp (λ q. not (Rattle.std.proofs.Common.eqb (index_of q) (index_of a))) b (λ x e. ap (λ q. not (Rattle.std.proofs.Common.eqb (index_of q) (index_of a))) (sym (kind_same b x e))) s.rolls

finished : (a : RollType) (s : KeySetState) → phase_of s a ≡ Some Done → Finished a s (ended a s)
finished a s e = record {
  turn = record {
    was = e;
    becomes = ended_phase a a s ∙ ap (λ b. cond (not b) (phase_of s a) None) (Rattle.std.proofs.lemmas.Bool.eq-eqb (index_of a) (index_of a) refl);
    others = λ b d. ended_phase a b s ∙ at b d (Rattle.std.proofs.Common.eqb (index_of b) (index_of a)) refl;
    keys = same_keys s.keys;
  };
  moves = record { still = λ q k f t. refl; kind = λ q k. refl; keeps = λ q k f t h. h };
}
  where
    at : (b : RollType) → eq_by_cmp kind_cmp b a ≡ false → (c : Bool) → Rattle.std.proofs.Common.eqb (index_of b) (index_of a) ≡ c → cond (not c) (phase_of s b) None ≡ phase_of s b
    at b d true i = absurd (false≢true (sym d ∙ ap (λ x. eq_by_cmp kind_cmp x a) (Rattle.keyset.proofs.KeyMaps.index_same b a (Rattle.std.proofs.lemmas.Bool.eqb-true (index_of b) (index_of a) i)) ∙ kind_itself a))
    at b d false i = refl

pub done_so : (a : RollType) (s : KeySetState) → IfAccepted (done a s) (Finished a s)
done_so a s = at (phase_of s a) refl
  where
    at : (o : Option RollState) → phase_of s a ≡ o → IfAccepted (done a s) (Finished a s)
    at None e = rw (e, done) tt
    at (Some Propagation1) e = rw (e, done) tt
    at (Some (CacheExpire1 t)) e = rw (e, done) tt
    at (Some Propagation2) e = rw (e, done) tt
    at (Some (CacheExpire2 t)) e = rw (e, done) tt
    at (Some Done) e = subst (λ r. IfAccepted r (Finished a s)) (sym (in_phase e)) (finished a s e)
      where
        in_phase : phase_of s a ≡ Some Done → done a s ≡ Ok (ended a s, [])
        in_phase e = rw (e, done) refl
