-- Waits count from their reports, whatever calls stand between.
use Rattle.std.proofs.Common.{◌≡◌, ℕ, ◌-◌, ◌*◌, ◌≤◌, Bool, true, false, cond, List, [], ◌∷◌, refl, sym, ap, subst, T, ◌&&◌, ◌||◌, not}
use Rattle.std.specs.Prelude.{Option, Some, None, ◌↔◌}
use Rattle.std.specs.List.{AllByRecursion, list_any}
use Rattle.keyset_rolls.specs.declared.rolls.RollState.{RollState}
use Rattle.keyset_rolls.specs.declared.rolls.RollState.TheVariants.{CacheExpire1, Propagation2, CacheExpire2, Done}
use Rattle.keyset_rolls.specs.declared.rolls.RollType.{RollType}
use Rattle.keyset_rolls.specs.declared.rolls.Turn.{Turn}
use Rattle.keyset_rolls.specs.declared.rolls.Turn.TheVariants.{First, Second}
use Rattle.keyset_rolls.specs.Rolls.{awaited, stamp_read, touches, waited1, waited2, watched}
use Rattle.keyset.specs.KeyState.{Key, KeySetState, Reference, Refusal, enter, key_of, on_keys, phase_of, unless_fault, wait1, wait2, wait_fault}
use Rattle.keyset.specs.KeyLaws.{HasPassed}
use Rattle.keyset.specs.KeyRuns.{Add, Call, Delete, Finish, Report1, Report2, SetAtParent, SetDecoupled, SetDsVisible, SetPresent, SetRrsigVisible, SetSigner, SetStale, SetVisible, Start, Wait1, Wait2, behind, is_accepted, left, no_keys, on_state, sets_by_hand}
use Rattle.keyset.specs.KeyRunLaws.{Reports, RolesKeep, RollsRunTogether, WaitsCountFromReports, by_rolls_alone, is_awaited, no_reports, noted_if, reports_behind, some_awaited}
use Rattle.keyset.proofs.KeyFinds.{entries_all}
use Rattle.keyset.proofs.KeyRunCalls.{Next, report1_next, report2_next, wait1_next, wait2_next}
use Rattle.keyset.proofs.KeyRunStarts.{add_next, decouple_next, delete_next, done_next, start_next}
use Rattle.keyset.proofs.KeyRunSteps.{Holds, Kept}
use Rattle.keyset.proofs.KeyWaits.{waits_exact}

pub call_next : (r : RollType) (p : Reports) (s : KeySetState) → Holds r s p → (c : Call) (now : ℕ) → sets_by_hand c ≡ false → Next r p c now s (on_state c now s)
call_next r p s h (Add q n) now e = add_next r p s h q n now
call_next r p s h (SetDecoupled q b) now e = decouple_next r p s h q b now
call_next r p s h (SetPresent q b) now e = cc
call_next r p s h (SetSigner q b) now e = cc
call_next r p s h (SetAtParent q b) now e = cc
call_next r p s h (SetVisible q time) now e = cc
call_next r p s h (SetDsVisible q time) now e = cc
call_next r p s h (SetRrsigVisible q time) now e = cc
call_next r p s h (SetStale q) now e = cc
call_next r p s h (Delete q) now e = delete_next r p s h q now
call_next r p s h (Start a olds news) now e = start_next r p s h a olds news now
call_next r p s h (Report1 a ttl) now e = report1_next r p s h a ttl now
call_next r p s h (Wait1 a) now e = wait1_next r p s h a now
call_next r p s h (Report2 a ttl) now e = report2_next r p s h a ttl now
call_next r p s h (Wait2 a) now e = wait2_next r p s h a now
call_next r p s h (Finish a) now e = done_next r p s h a now

none_of : (a b : Bool) → not (a || b) ≡ true → (a ≡ false) × (not b ≡ true)
none_of true b h = cc
none_of false b h = (refl, h)

pub runs_hold : (r : RollType) (p : Reports) (s : KeySetState) → Holds r s p → (cs : List (ℕ × Call)) → by_rolls_alone cs ≡ true → Holds r (behind s cs) (reports_behind r s cs p)
runs_hold r p s h [] e = h
runs_hold r p s h (c ∷ cs) e =
    let w = none_of (sets_by_hand c.1) (list_any (λ (c : ℕ × Call). sets_by_hand c.1) cs) e in
    runs_hold r (noted_if (is_accepted (on_state c.1 c.0 s)) r c.1 c.0 p) (left s (on_state c.1 c.0 s)) (call_next r p s h c.1 c.0 w.0) cs w.1

pub none_hold : (r : RollType) (name : List (List ℕ)) → Holds r (no_keys name) no_reports
none_hold r name = record { sorted = tt; keeps = λ q k f. cc; together = λ a b h k c. cc; kept = tt }

pub run_holds : (r : RollType) (name : List (List ℕ)) (cs : List (ℕ × Call)) → by_rolls_alone cs ≡ true → Holds r (behind (no_keys name) cs) (reports_behind r (no_keys name) cs no_reports)
run_holds r name cs e = runs_hold r no_reports (no_keys name) (none_hold r name) cs e

-- ---- a wait of stamped keys

-- where each key that a wait looks at has one stamp
abbrev One : Turn → RollType → ℕ → Key → Type 0
One t r since k = awaited t r k ≡ cond (is_awaited t r k) (Some (Some since)) None

one_stamp : (t : Turn) (r : RollType) (since : ℕ) (k : Key) → (touches r k.roles ≡ true → watched t r k.roles ≡ true → stamp_read t r k.stamps ≡ Some since) → One t r since k
one_stamp t r since k h = at (touches r k.roles) (watched t r k.roles) h
  where
    at : (a b : Bool) → (a ≡ true → b ≡ true → stamp_read t r k.stamps ≡ Some since) → cond (a && b) (Some (stamp_read t r k.stamps)) None ≡ cond (a && b) (Some (Some since)) None
    at true true h = ap (λ o. Some o) (h refl refl)
    at true false h = refl
    at false b h = refl

passed : (ttl now since : ℕ) (t : Turn) (r : RollType) (es : List (Reference × Key)) → AllByRecursion {X = Reference × Key} (λ e. One t r since e.1) es → AllByRecursion {X = Reference × Key} (λ e. HasPassed ttl now (awaited t r e.1)) es → list_any {X = Reference × Key} (λ e. is_awaited t r e.1) es ≡ true → ttl * 1000000000 ≤ now - since
passed ttl now since t r [] o a w = cc
passed ttl now since t r (e ∷ es) o a w = at (is_awaited t r e.1) (subst (HasPassed ttl now) o.0 a.0) w (λ v. passed ttl now since t r es o.1 a.1 v)
  where
    at : (b : Bool) → HasPassed ttl now (cond b (Some (Some since)) None) → (b || list_any {X = Reference × Key} (λ e. is_awaited t r e.1) es) ≡ true → (list_any {X = Reference × Key} (λ e. is_awaited t r e.1) es ≡ true → ttl * 1000000000 ≤ now - since) → ttl * 1000000000 ≤ now - since
    at true h w more = h
    at false h w more = more w

pass : (ttl now since : ℕ) (t : Turn) (r : RollType) (es : List (Reference × Key)) → AllByRecursion {X = Reference × Key} (λ e. One t r since e.1) es → (list_any {X = Reference × Key} (λ e. is_awaited t r e.1) es ≡ true → ttl * 1000000000 ≤ now - since) → AllByRecursion {X = Reference × Key} (λ e. HasPassed ttl now (awaited t r e.1)) es
pass ttl now since t r [] o h = tt
pass ttl now since t r (e ∷ es) o h = (
  subst (HasPassed ttl now) (sym o.0) (at (is_awaited t r e.1) h),
  pass ttl now since t r es o.1 (λ w. h (later (is_awaited t r e.1) (list_any {X = Reference × Key} (λ e. is_awaited t r e.1) es) w)),
)
  where
    at : (b : Bool) → ((b || list_any {X = Reference × Key} (λ e. is_awaited t r e.1) es) ≡ true → ttl * 1000000000 ≤ now - since) → HasPassed ttl now (cond b (Some (Some since)) None)
    at true h = h refl
    at false h = tt

    later : (a b : Bool) → b ≡ true → (a || b) ≡ true
    later true b w = refl
    later false b w = w

accepted_none : (fault : Option Refusal) (r : RollType) (x : RollState) (ks : List (Reference × Key)) (s : KeySetState) → (is_accepted (unless_fault fault (enter r x ks s)) ≡ true) ↔ (fault ≡ None)
accepted_none None r x ks s = (λ _. refl, λ _. refl)
accepted_none (Some e) r x ks s = (λ h. cc, λ h. cc)

-- a wait is accepted exactly where the TTL has passed since that stamp
pub exact : (t : Turn) (r : RollType) (x : RollState) (ttl now since : ℕ) (ks : List (Reference × Key)) (s : KeySetState) → T (Rattle.std.specs.FinMap.Entries.is_sorted Rattle.keyset.specs.KeyState.reference_cmp s.keys)
    → ((q : Reference) (k : Key) → key_of s q ≡ Some k → touches r k.roles ≡ true → watched t r k.roles ≡ true → stamp_read t r k.stamps ≡ Some since)
    → (is_accepted (unless_fault (wait_fault r t ttl now s.keys) (enter r x ks s)) ≡ true) ↔ (some_awaited t r s ≡ true → ttl * 1000000000 ≤ now - since)
exact t r x ttl now since ks s sorted h =
    let one : AllByRecursion {X = Reference × Key} (λ e. One t r since e.1) s.keys = entries_all (One t r since) s.keys sorted (λ q k f. one_stamp t r since k (h q k f)) in
    let e = waits_exact r t ttl now s.keys in
    let a = accepted_none (wait_fault r t ttl now s.keys) r x ks s in (
      λ yes w. passed ttl now since t r s.keys one (e.0 (a.0 yes)) w,
      λ w. a.1 (e.1 (pass ttl now since t r s.keys one w)),
    )

pub wait1_in : (r : RollType) (ttl now : ℕ) (s : KeySetState) → phase_of s r ≡ Some (CacheExpire1 ttl) → wait1 r now s ≡ unless_fault (wait_fault r First ttl now s.keys) (enter r Propagation2 (on_keys r (waited1 r now) s.keys) s)
wait1_in r ttl now s e = rw (e, wait1) refl

pub wait2_in : (r : RollType) (ttl now : ℕ) (s : KeySetState) → phase_of s r ≡ Some (CacheExpire2 ttl) → wait2 r now s ≡ unless_fault (wait_fault r Second ttl now s.keys) (enter r Done (on_keys r (waited2 r now) s.keys) s)
wait2_in r ttl now s e = rw (e, wait2) refl

pub waits_count : WaitsCountFromReports
waits_count name cs r ttl now e =
    let s = behind (no_keys name) cs in
    let p = reports_behind r (no_keys name) cs no_reports in
    let h = run_holds r name cs e in (
      λ at. first s p h at,
      λ at. second s p h at,
    )
  where
    first : (s : KeySetState) (p : Reports) → Holds r s p → phase_of s r ≡ Some (CacheExpire1 ttl) → (since : ℕ) × (p.first ≡ Some (since, ttl)) × ((is_accepted (wait1 r now s) ≡ true) ↔ (some_awaited First r s ≡ true → ttl * 1000000000 ≤ now - since))
    first s p h at =
        let k : Kept r p s.keys (Some (CacheExpire1 ttl)) = subst (Kept r p s.keys) at h.kept in (
          k.0,
          k.1,
          subst (λ a. (is_accepted a ≡ true) ↔ (some_awaited First r s ≡ true → ttl * 1000000000 ≤ now - k.0)) (sym (wait1_in r ttl now s at)) (exact First r Propagation2 ttl now k.0 (on_keys r (waited1 r now) s.keys) s h.sorted (λ q l f t w. k.2 q l f t w)),
        )

    second : (s : KeySetState) (p : Reports) → Holds r s p → phase_of s r ≡ Some (CacheExpire2 ttl) → (since : ℕ) × (p.second ≡ Some (since, ttl)) × ((is_accepted (wait2 r now s) ≡ true) ↔ (some_awaited Second r s ≡ true → ttl * 1000000000 ≤ now - since))
    second s p h at =
        let k : Kept r p s.keys (Some (CacheExpire2 ttl)) = subst (Kept r p s.keys) at h.kept in (
          k.0,
          k.1,
          subst (λ a. (is_accepted a ≡ true) ↔ (some_awaited Second r s ≡ true → ttl * 1000000000 ≤ now - k.0)) (sym (wait2_in r ttl now s at)) (exact Second r Done ttl now k.0 (on_keys r (waited2 r now) s.keys) s h.sorted (λ q l f t w. k.2 q l f t w)),
        )

pub roles_keep : RolesKeep
roles_keep name cs e q k f = (run_holds Rattle.keyset_rolls.specs.declared.rolls.RollType.TheVariants.KskRoll name cs e).keeps q k f

pub rolls_run_together : RollsRunTogether
rolls_run_together name cs e a b h k c = (run_holds a name cs e).together a b h k c
