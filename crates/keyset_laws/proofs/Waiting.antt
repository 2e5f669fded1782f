-- Each roll that is under way has a new key, at which its next wait looks.
use Rattle.std.proofs.Common.{◌≡◌, ℕ, Bool, true, false, not, List, [], ◌∷◌, ◌++◌, refl, sym, ap, subst, ◌∙◌, ◌||◌}
use Rattle.std.specs.Prelude.{Option, Some, None, Ok, Err, is_some, ◌↔◌}
use Rattle.std.specs.List.{list_any}
use Rattle.std.specs.Ordering.{eq_by_cmp}
use Rattle.std.proofs.lemmas.Bool.{false≢true, not-true}
use Rattle.keyset_rolls.specs.declared.rolls.Action.{Action}
use Rattle.keyset_rolls.specs.declared.rolls.RollState.{RollState}
use Rattle.keyset_rolls.specs.declared.rolls.RollState.TheVariants.{Propagation1, CacheExpire1, Propagation2, CacheExpire2, Done}
use Rattle.keyset_rolls.specs.declared.rolls.RollType.{RollType}
use Rattle.keyset_rolls.specs.declared.rolls.Turn.TheVariants.{First, Second}
use Rattle.keyset_rolls.specs.Rolls.{conflicts, reported1, reported2, touches, waited1, waited2}
use Rattle.keyset.specs.KeyState.{Answer, Key, KeySetState, Reference, Refusal, each_is, is_stale, key_of, kind_cmp, phase_of}
use Rattle.keyset.specs.KeyRuns.{Add, Call, Delete, Finish, Report1, Report2, SetAtParent, SetDecoupled, SetDsVisible, SetPresent, SetRrsigVisible, SetSigner, SetStale, SetVisible, Start, Wait1, Wait2, behind, left, no_keys, on_state, sets_by_hand}
use Rattle.keyset.specs.KeyRunLaws.{by_rolls_alone, no_reports, some_awaited}
use Rattle.keyset.proofs.KeyFinds.{is_equal}
use Rattle.keyset.proofs.KeyKinds.{apart, conflicts_both}
use Rattle.keyset.proofs.KeyMaps.{kind_same}
use Rattle.keyset.proofs.KeyRunEnds.{waits_count}
use Rattle.keyset.proofs.KeyRunStarts.{runs_alone, start_of}
use Rattle.keyset.proofs.KeyTables.{join}
use Rattle.keyset_laws.specs.Anchors.{HasKey, Life, is_second}
use Rattle.keyset_laws.specs.KeyLife.{Step}
use Rattle.keyset_laws.specs.Sides.{first_of, is_lasting, is_ready, is_shown}
use Rattle.keyset_laws.specs.Waiting.{WaitsAreTimed}
use Rattle.keyset_laws.proofs.SideWords.{is_first}
use Rattle.keyset_laws.proofs.Effects.{Calm, Finished, Moved, Reported1, Reported2, Started, Waited1, Waited2, add_calm, decouple_calm, delete_calm, done_so, report1_so, report2_so, same_key, start_so, touched_by, wait1_so, wait2_so, when_accepted}
use Rattle.keyset_laws.proofs.LifeSteps.{Base, Noted, keep_all, new_ready, then, together, when_on, when_roles, witness_on}
use Rattle.keyset_laws.proofs.Lived.{base_next, base_of_none, finished_roles, keep_next, report1_roles, report2_roles, sorted_next, start_roles, waited1_roles, waited2_roles}
use Rattle.keyset_laws.proofs.Lives.{calm_roles, lasting_awaited, ready_awaited}
use Rattle.keyset_laws.proofs.Retiring.{step_of}
use Rattle.keyset_laws.proofs.Sided.{of_lasting, of_ready}
use Rattle.keyset_laws.proofs.SideTables.{keeps_all, lasts, shown_used, witness}
use Rattle.keyset_laws.proofs.Turns.{first_runs, key_after, second_runs, taken}

-- a roll under way has a new key: ready for its first wait, lasting behind it
pub record HasNew (s : KeySetState) (r : RollType) : Type 0 where
  pub ready : is_first (phase_of s r) ≡ true → (n : Reference) × HasKey s n (is_ready (witness r) r)
  pub lasting : is_second (phase_of s r) ≡ true → (n : Reference) × HasKey s n (is_lasting (witness r) r)

used : (r : RollType) (k : Key) → is_shown (witness r) (first_of (witness r) r) k.roles ≡ true → each_is is_stale k.roles ≡ false
used r k h = not-true (each_is is_stale k.roles) (shown_used (witness r) (first_of (witness r) r) k.roles h)

calm_new : (s x : KeySetState) → Calm s x → (r : RollType) → HasNew s r → HasNew x r
calm_new s x c r h = record {
  ready = λ e.
      (let w = h.ready (ap is_first (sym (c.rolls r)) ∙ e) in
      let l = c.to w.0 w.1.0 w.1.1 (used r w.1.0 (of_ready (witness r) r w.1.0.roles w.1.2).2) in
      (w.0, (l.0, l.1, ap (is_ready (witness r) r) l.2 ∙ w.1.2)));
  lasting = λ e.
      (let w = h.lasting (ap is_second (sym (c.rolls r)) ∙ e) in
      let l = c.to w.0 w.1.0 w.1.1 (used r w.1.0 (of_lasting (witness r) r w.1.0.roles w.1.2).2) in
      (w.0, (l.0, l.1, ap (is_lasting (witness r) r) l.2 ∙ w.1.2)));
}

module _ (a : RollType) (o n : Option RollState) (g : Reference → Key → Key) (s x : KeySetState) (w : Moved a o n g s x) (alone : (r : RollType) → (r ≡ a → ⊥) → is_some (phase_of s r) ≡ true → conflicts r a ≡ false)
    (own_ready : is_first n ≡ true → (q : Reference) × HasKey x q (is_ready (witness a) a)) (own_lasting : is_second n ≡ true → (q : Reference) × HasKey x q (is_lasting (witness a) a)) where
  other : (r : RollType) → eq_by_cmp kind_cmp r a ≡ false → is_some (phase_of s r) ≡ true → (q : Reference) (k : Key) → key_of s q ≡ Some k → touches r k.roles ≡ true → key_of x q ≡ Some k
  other r d runs q k f t =
      let differs : r ≡ a → ⊥ = λ e. false≢true (sym d ∙ ap (λ r. eq_by_cmp kind_cmp r a) e ∙ Rattle.keyset.proofs.KeyWaits.kind_itself a) in
      key_after a o n g s x w.turn q k f ∙ ap (λ k. Some k) (w.moves.still q k f (apart r a k.roles (alone r differs runs) t))

  turn_new : (r : RollType) → HasNew s r → HasNew x r
  turn_new r h = record { ready = ready (eq_by_cmp kind_cmp r a) refl; lasting = lasting (eq_by_cmp kind_cmp r a) refl }
    where
      same : eq_by_cmp kind_cmp r a ≡ true → r ≡ a
      same e = kind_same r a (is_equal (kind_cmp r a) e)

      ready : (b : Bool) → eq_by_cmp kind_cmp r a ≡ b → is_first (phase_of x r) ≡ true → (q : Reference) × HasKey x q (is_ready (witness r) r)
      ready true d e = subst (λ r. (q : Reference) × HasKey x q (is_ready (witness r) r)) (sym (same d)) (own_ready (ap is_first (sym w.turn.becomes) ∙ ap (λ r. is_first (phase_of x r)) (sym (same d)) ∙ e))
      ready false d e =
          let i : is_first (phase_of s r) ≡ true = ap is_first (sym (w.turn.others r d)) ∙ e in
          let v = h.ready i in
          (v.0, (v.1.0, other r d (first_runs (phase_of s r) i) v.0 v.1.0 v.1.1 (of_ready (witness r) r v.1.0.roles v.1.2).0, v.1.2))

      lasting : (b : Bool) → eq_by_cmp kind_cmp r a ≡ b → is_second (phase_of x r) ≡ true → (q : Reference) × HasKey x q (is_lasting (witness r) r)
      lasting true d e = subst (λ r. (q : Reference) × HasKey x q (is_lasting (witness r) r)) (sym (same d)) (own_lasting (ap is_second (sym w.turn.becomes) ∙ ap (λ r. is_second (phase_of x r)) (sym (same d)) ∙ e))
      lasting false d e =
          let i : is_second (phase_of s r) ≡ true = ap is_second (sym (w.turn.others r d)) ∙ e in
          let v = h.lasting i in
          (v.0, (v.1.0, other r d (second_runs (phase_of s r) i) v.0 v.1.0 v.1.1 (of_lasting (witness r) r v.1.0.roles v.1.2).0, v.1.2))

abbrev AllNew : KeySetState → Type 0
AllNew s = (r : RollType) → HasNew s r

-- the keys of a list of calls so far
record Waits (life : Life) (steps : List Step) (s : KeySetState) (p : Noted) : Type 0 where
  base : Base life steps s p
  new : AllNew s

module _ (life : Life) (steps : List Step) (s x : KeySetState) (now : ℕ) (p : Noted) (acts : List Action) (h : Waits life steps s p) where
  running_alone : (a : RollType) → is_some (phase_of s a) ≡ true → (r : RollType) → (r ≡ a → ⊥) → is_some (phase_of s r) ≡ true → conflicts r a ≡ false
  running_alone a runs r d other = at (conflicts r a) refl
    where
      at : (b : Bool) → conflicts r a ≡ b → b ≡ false
      at true e = absurd (d (together life steps s p h.base r a other runs e))
      at false e = refl

  calm_waits : (c : Call) → sets_by_hand c ≡ false → on_state c now s ≡ Ok (x, acts) → Calm s x → Waits life (steps ++ step_of now c x ∷ []) x (then p c now)
  calm_waits c by_rolls e w = record { base = base_next life steps s x c now p acts h.base by_rolls e (calm_roles s x w h.base.roles); new = λ r. calm_new s x w r (h.new r) }

  wait_more : (c : Call) → sets_by_hand c ≡ false → on_state c now s ≡ Ok (x, acts) → Waits life (steps ++ step_of now c x ∷ []) x (then p c now)
  wait_more (Add q n) by_rolls e = calm_waits (Add q n) by_rolls e (when_accepted (on_state (Add q n) now s) (Ok (x, acts)) (Calm s) (add_calm s q n) e)
  wait_more (SetDecoupled q v) by_rolls e = calm_waits (SetDecoupled q v) by_rolls e (when_accepted (on_state (SetDecoupled q v) now s) (Ok (x, acts)) (Calm s) (decouple_calm s q v) e)
  wait_more (SetPresent q v) by_rolls e = cc
  wait_more (SetSigner q v) by_rolls e = cc
  wait_more (SetAtParent q v) by_rolls e = cc
  wait_more (SetVisible q v) by_rolls e = cc
  wait_more (SetDsVisible q v) by_rolls e = cc
  wait_more (SetRrsigVisible q v) by_rolls e = cc
  wait_more (SetStale q) by_rolls e = cc
  wait_more (Delete q) by_rolls e = calm_waits (Delete q) by_rolls e (when_accepted (on_state (Delete q) now s) (Ok (x, acts)) (Calm s) (delete_calm s q) e)
  wait_more (Start a olds news) by_rolls e =
      let w : Started a now olds news s x = when_accepted (on_state (Start a olds news) now s) (Ok (x, acts)) (Started a now olds news s) (start_so a olds news now s) e in
      let roles = start_roles life steps s x (Start a olds news) now p acts h.base by_rolls e a olds news w in
      record {
        base = base_next life steps s x (Start a olds news) now p acts h.base by_rolls e roles;
        new = λ r.
            turn_new a (phase_of s a) (Some Propagation1) (start_of a now olds news) s x w.moved
            (λ r d runs. conflicts_both r a ∙ runs_alone a r s.rolls w.starts.alone runs)
            (λ i. new_ready life steps [] s x now p h.base a olds news w (sorted_next life steps s x (Start a olds news) now p acts h.base by_rolls e) (keep_next life steps s x (Start a olds news) now p acts h.base by_rolls e roles) roles (witness a) (witness_on a))
            (λ i. absurd (false≢true i))
            r (h.new r);
      }
  wait_more (Report1 a ttl) by_rolls e =
      let w : Reported1 a now s ttl x = when_accepted (on_state (Report1 a ttl) now s) (Ok (x, acts)) (Reported1 a now s ttl) (report1_so a now s ttl) e in
      record {
        base = base_next life steps s x (Report1 a ttl) now p acts h.base by_rolls e (report1_roles life steps s x (Report1 a ttl) now p acts h.base by_rolls e a ttl w);
        new = λ r.
            turn_new a (Some Propagation1) (Some (CacheExpire1 ttl)) (touched_by a (reported1 a now)) s x w (running_alone a (ap is_some w.turn.was))
            (λ i.
            (let v = (h.new a).ready (ap is_first w.turn.was) in
            (v.0, taken a (Some Propagation1) (Some (CacheExpire1 ttl)) (touched_by a (reported1 a now)) s x (is_ready (witness a) a) (is_ready (witness a) a) w.turn (λ q k f y. ap (is_ready (witness a) a) (when_roles (touches a k.roles) (reported1 a now) k refl) ∙ y) v.0 v.1)))
            (λ i. absurd (false≢true i))
            r (h.new r);
      }
  wait_more (Wait1 a) by_rolls e =
      let w : Waited1 a now s x = when_accepted (on_state (Wait1 a) now s) (Ok (x, acts)) (Waited1 a now s) (wait1_so a now s) e in
      record {
        base = base_next life steps s x (Wait1 a) now p acts h.base by_rolls e (waited1_roles life steps s x (Wait1 a) now p acts h.base by_rolls e a w);
        new = λ r.
            turn_new a (Some (CacheExpire1 w.ttl)) (Some Propagation2) (touched_by a (waited1 a now)) s x w.moved (running_alone a (ap is_some w.phase))
            (λ i. absurd (false≢true i))
            (λ i.
            (let v = (h.new a).ready (ap is_first w.phase) in (
              v.0,
              taken a (Some (CacheExpire1 w.ttl)) (Some Propagation2) (touched_by a (waited1 a now)) s x (is_ready (witness a) a) (is_lasting (witness a) a) w.moved.turn
                  (λ q k f y. ap (λ (k : Key). is_lasting (witness a) a k.roles) (when_on (touches a k.roles) (waited1 a now) k (of_ready (witness a) a k.roles y).0) ∙ lasts (witness a) a k.roles (join (keeps_all k.roles) (is_ready (witness a) a k.roles) (keep_all life steps s p h.base q k f) y))
                  v.0 v.1,
            )))
            r (h.new r);
      }
  wait_more (Report2 a ttl) by_rolls e =
      let w : Reported2 a now s ttl x = when_accepted (on_state (Report2 a ttl) now s) (Ok (x, acts)) (Reported2 a now s ttl) (report2_so a now s ttl) e in
      record {
        base = base_next life steps s x (Report2 a ttl) now p acts h.base by_rolls e (report2_roles life steps s x (Report2 a ttl) now p acts h.base by_rolls e a ttl w);
        new = λ r.
            turn_new a (Some Propagation2) (Some (CacheExpire2 ttl)) (touched_by a (reported2 a now)) s x w (running_alone a (ap is_some w.turn.was))
            (λ i. absurd (false≢true i))
            (λ i.
            (let v = (h.new a).lasting (ap is_second w.turn.was) in
            (v.0, taken a (Some Propagation2) (Some (CacheExpire2 ttl)) (touched_by a (reported2 a now)) s x (is_lasting (witness a) a) (is_lasting (witness a) a) w.turn (λ q k f y. ap (is_lasting (witness a) a) (when_roles (touches a k.roles) (reported2 a now) k refl) ∙ y) v.0 v.1)))
            r (h.new r);
      }
  wait_more (Wait2 a) by_rolls e =
      let w : Waited2 a now s x = when_accepted (on_state (Wait2 a) now s) (Ok (x, acts)) (Waited2 a now s) (wait2_so a now s) e in
      record {
        base = base_next life steps s x (Wait2 a) now p acts h.base by_rolls e (waited2_roles life steps s x (Wait2 a) now p acts h.base by_rolls e a w);
        new = λ r. turn_new a (Some (CacheExpire2 w.ttl)) (Some Done) (touched_by a (waited2 a now)) s x w.moved (running_alone a (ap is_some w.phase)) (λ i. absurd (false≢true i)) (λ i. absurd (false≢true i)) r (h.new r);
      }
  wait_more (Finish a) by_rolls e =
      let w : Finished a s x = when_accepted (on_state (Finish a) now s) (Ok (x, acts)) (Finished a s) (done_so a s) e in
      record {
        base = base_next life steps s x (Finish a) now p acts h.base by_rolls e (finished_roles life steps s x (Finish a) now p acts h.base by_rolls e a w);
        new = λ r. turn_new a (Some Done) None same_key s x w (running_alone a (ap is_some w.turn.was)) (λ i. absurd (false≢true i)) (λ i. absurd (false≢true i)) r (h.new r);
      }

-- ---- all calls

-- that the waits of a state look at some key
record Looks (s : KeySetState) : Type 0 where
  first : (r : RollType) (ttl : ℕ) → phase_of s r ≡ Some (CacheExpire1 ttl) → some_awaited First r s ≡ true
  second : (r : RollType) (ttl : ℕ) → phase_of s r ≡ Some (CacheExpire2 ttl) → some_awaited Second r s ≡ true

looks_now : (life : Life) (steps : List Step) (s : KeySetState) (p : Noted) → Waits life steps s p → Looks s
looks_now life steps s p h = record {
  first = λ r ttl e. (let v = (h.new r).ready (ap is_first e) in ready_awaited (witness r) r s v.0 (λ k f. keep_all life steps s p h.base v.0 k f) v.1);
  second = λ r ttl e. (let v = (h.new r).lasting (ap is_second e) in lasting_awaited r s v.0 (λ k f. keep_all life steps s p h.base v.0 k f) v.1);
}

none_by_hand : (a b : Bool) → not (a || b) ≡ true → (a ≡ false) × (not b ≡ true)
none_by_hand true b h = cc
none_by_hand false b h = (refl, h)

looks : (life : Life) (cs : List (ℕ × Call)) (steps : List Step) (s : KeySetState) (p : Noted) → Waits life steps s p → by_rolls_alone cs ≡ true → Looks (behind s cs)
looks life [] steps s p h by_rolls = looks_now life steps s p h
looks life (c ∷ cs) steps s p h by_rolls =
    let w = none_by_hand (sets_by_hand c.1) (list_any (λ (c : ℕ × Call). sets_by_hand c.1) cs) by_rolls in
    at (on_state c.1 c.0 s) refl
    (λ a i. looks life cs (steps ++ step_of c.0 c.1 a.0 ∷ []) a.0 (then p c.1 c.0) (wait_more life steps s a.0 c.0 p a.1 h c.1 w.0 i) w.1)
    (λ f i. looks life cs steps s p h w.1)
  where
    at : (a : Answer) → on_state c.1 c.0 s ≡ a → ((a : KeySetState × List Action) → on_state c.1 c.0 s ≡ Ok a → Looks (behind a.0 cs)) → ((f : Refusal) → on_state c.1 c.0 s ≡ Err f → Looks (behind s cs)) → Looks (behind (left s (on_state c.1 c.0 s)) cs)
    at (Ok a) i more less = subst (λ a. Looks (behind (left s a) cs)) (sym i) (more a i)
    at (Err f) i more less = subst (λ a. Looks (behind (left s a) cs)) (sym i) (less f i)

no_new : (name : List (List ℕ)) (r : RollType) → HasNew (no_keys name) r
no_new name r = record { ready = λ e. absurd (false≢true e); lasting = λ e. absurd (false≢true e) }

-- where a premise holds, it can be left out
without : {A B C : Type 0} → C → A ↔ (C → B) → A ↔ B
without c w = (λ a. w.0 a c, λ b. w.1 (λ _. b))

pub waits_are_timed : WaitsAreTimed
waits_are_timed name cs r ttl now by_rolls =
    let life : Life = record { start = no_keys name; steps = []; moment = 0 } in
    let l = looks life cs [] (no_keys name) (λ _. no_reports) (record { base = base_of_none life name refl; new = no_new name }) by_rolls in
    let w = waits_count name cs r ttl now by_rolls in (
      λ e. (let v = w.0 e in (v.0, v.1, without (l.first r ttl e) v.2)),
      λ e. (let v = w.1 e in (v.0, v.1, without (l.second r ttl e) v.2)),
    )
