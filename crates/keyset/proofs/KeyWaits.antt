-- Waits are exact, and phases follow one another.
use Rattle.std.proofs.Common.{◌≡◌, ℕ, Bool, true, false, cond, List, [], ◌∷◌, refl, sym, ap, ◌∙◌, ◌||◌, arith, eqb}
use Rattle.std.specs.Prelude.{Option, Some, None, Ok, Err, if◌then◌else◌, ◌↔◌}
use Rattle.std.specs.List.{AllByRecursion}
use Rattle.std.specs.Ordering.{eq_by_cmp, is_eq}
use Rattle.std.specs.FinMap.Entries.{put, find, find-put}
use Rattle.std.proofs.lemmas.Bool.{eqb-true}
use Rattle.std.proofs.lemmas.Cmp.{tied_itself}
use Rattle.keyset_rolls.specs.declared.rolls.Action.{Action}
use Rattle.keyset_rolls.specs.declared.rolls.RollState.{RollState}
use Rattle.keyset_rolls.specs.declared.rolls.RollState.TheVariants.{Propagation1, CacheExpire1, Propagation2, CacheExpire2, Done}
use Rattle.keyset_rolls.specs.declared.rolls.RollType.{RollType}
use Rattle.keyset_rolls.specs.declared.rolls.Turn.{Turn}
use Rattle.keyset_rolls.specs.declared.rolls.Turn.TheVariants.{First, Second}
use Rattle.keyset_rolls.specs.Rolls.{awaited, is_missing, reported1, reported2, rest_of, waited1, waited2}
use Rattle.keyset.specs.KeyState.{Reference, Key, KeySetState, Answer, Refusal, MissingTimestamp, Wait, WrongStateForRollOperation, kind_cmp, phase_of, misses, greatest_rest, wait_fault, on_keys, enter, unless_fault, start_fault, started, report1, report2, wait1, wait2}
use Rattle.keyset.specs.KeyLaws.{HasPassed, WaitsAreExact, Enters, PhasesFollow, StartsEnter}
use Rattle.keyset.proofs.KeyMaps.{kind_total}

pub kind_itself : (r : RollType) → eq_by_cmp kind_cmp r r ≡ true
kind_itself r = ap is_eq (tied_itself kind_total r)

fault_of : Bool → ℕ → Option Refusal
fault_of b n = if b then Some MissingTimestamp else if eqb n 0 then None else Some (Wait n)

no_fault : (b : Bool) (n : ℕ) → fault_of b n ≡ None → (b ≡ false) × (n ≡ 0)
unfolding fault_of
no_fault true n h = cc
no_fault false n h =
    elim (eqb n 0) as (λ b. eqb n 0 ≡ b → (if b then None else Some (Wait n)) ≡ None → (false ≡ false) × (n ≡ 0)) [
      | true ↦ λ e _. (refl, eqb-true n 0 e)
      | false ↦ λ _ h. cc
    ] refl h

neither : (a b : Bool) → (a || b) ≡ false → (a ≡ false) × (b ≡ false)
neither true b h = cc
neither false b h = (refl, h)

passed_one : (ttl now : ℕ) (l : Option (Option ℕ)) → is_missing l ≡ false → rest_of ttl now l ≡ 0 → HasPassed ttl now l
passed_one ttl now None m h = tt
passed_one ttl now (Some None) m h = cc
passed_one ttl now (Some (Some since)) m h = omega (arith, h)

one_missing : (ttl now : ℕ) (l : Option (Option ℕ)) → HasPassed ttl now l → is_missing l ≡ false
one_missing ttl now None h = refl
one_missing ttl now (Some None) h = absurd h
one_missing ttl now (Some (Some since)) h = refl

one_rest : (ttl now : ℕ) (l : Option (Option ℕ)) → HasPassed ttl now l → rest_of ttl now l ≡ 0
one_rest ttl now None h = refl
one_rest ttl now (Some None) h = absurd h
one_rest ttl now (Some (Some since)) h = omega (arith, h)

module _ (r : RollType) (t : Turn) (ttl now : ℕ) where
  all_passed : (es : List (Reference × Key)) → misses r t es ≡ false → greatest_rest r t ttl now es ≡ 0 → AllByRecursion (λ e. HasPassed ttl now (awaited t r e.1)) es
  all_passed [] m h = tt
  all_passed (e ∷ es) m h =
      let n = neither (is_missing (awaited t r e.1)) (misses r t es) m in
      let a : rest_of ttl now (awaited t r e.1) ≡ 0 = omega (arith, h) in
      let b : greatest_rest r t ttl now es ≡ 0 = omega (arith, h) in
      (passed_one ttl now (awaited t r e.1) n.0 a, all_passed es n.1 b)

  none_missing : (es : List (Reference × Key)) → AllByRecursion (λ e. HasPassed ttl now (awaited t r e.1)) es → misses r t es ≡ false
  none_missing [] h = refl
  none_missing (e ∷ es) h = ap (λ b. b || misses r t es) (one_missing ttl now (awaited t r e.1) h.0) ∙ none_missing es h.1

  no_rest : (es : List (Reference × Key)) → AllByRecursion (λ e. HasPassed ttl now (awaited t r e.1)) es → greatest_rest r t ttl now es ≡ 0
  no_rest [] h = refl
  no_rest (e ∷ es) h =
      let a = one_rest ttl now (awaited t r e.1) h.0 in
      let b = no_rest es h.1 in
      omega (arith, a, b)

  pub waits_exact : (es : List (Reference × Key)) → (wait_fault r t ttl now es ≡ None) ↔ AllByRecursion (λ e. HasPassed ttl now (awaited t r e.1)) es
  unfolding fault_of
  waits_exact es = (
    λ h. (let n = no_fault (misses r t es) (greatest_rest r t ttl now es) h in all_passed es n.0 n.1),
    λ h. (λ i. fault_of (none_missing es h i) (no_rest es h i)),
  )

pub WaitsAreExact-holds : WaitsAreExact
WaitsAreExact-holds r t ttl now es = waits_exact r t ttl now es

-- ---- phases

found_put : (r : RollType) (p : RollState) (rs : List (RollType × RollState)) → find kind_cmp r (put kind_cmp r p rs) ≡ Some p
found_put r p rs = find-put kind_cmp kind_total r r p rs ∙ ap (λ b. cond b (Some p) (find kind_cmp r rs)) (kind_itself r)

phase_after : RollType → Answer → Option RollState
phase_after r (Ok x) = phase_of x.0 r
phase_after r (Err e) = None

actions_after : Answer → List Action
actions_after (Ok x) = x.1
actions_after (Err e) = []

enters : (r : RollType) (p : RollState) (ks : List (Reference × Key)) (s : KeySetState) → Enters r p (enter r p ks s)
unfolding phase_after actions_after
enters r p ks s after actions h = (sym (ap (phase_after r) h) ∙ found_put r p s.rolls, sym (ap actions_after h))

refused : (r : RollType) (p : RollState) (e : Refusal) → Enters r p (Err e)
refused r p e after actions h = cc

unless_refused : (r : RollType) (p : RollState) (ks : List (Reference × Key)) (s : KeySetState) (fault : Option Refusal) → Enters r p (unless_fault fault (enter r p ks s))
unless_refused r p ks s None = enters r p ks s
unless_refused r p ks s (Some e) = refused r p e

pub starts_enter : StartsEnter
starts_enter r olds news now s = unless_refused r Propagation1 (started r now olds news s.keys) s (start_fault r olds news s)

module _ (r : RollType) (ttl now : ℕ) (s : KeySetState) where
  follows1 : (o : Option RollState) → phase_of s r ≡ o → Enters r (CacheExpire1 ttl) (report1 r ttl now s)
  follows1 None h = rw (h, report1) (refused r (CacheExpire1 ttl) WrongStateForRollOperation)
  follows1 (Some Propagation1) h = rw (h, report1) (enters r (CacheExpire1 ttl) (on_keys r (reported1 r now) s.keys) s)
  follows1 (Some (CacheExpire1 t)) h = rw (h, report1) (refused r (CacheExpire1 ttl) WrongStateForRollOperation)
  follows1 (Some Propagation2) h = rw (h, report1) (refused r (CacheExpire1 ttl) WrongStateForRollOperation)
  follows1 (Some (CacheExpire2 t)) h = rw (h, report1) (refused r (CacheExpire1 ttl) WrongStateForRollOperation)
  follows1 (Some Done) h = rw (h, report1) (refused r (CacheExpire1 ttl) WrongStateForRollOperation)

  follows2 : (o : Option RollState) → phase_of s r ≡ o → Enters r Propagation2 (wait1 r now s)
  follows2 None h = rw (h, wait1) (refused r Propagation2 WrongStateForRollOperation)
  follows2 (Some Propagation1) h = rw (h, wait1) (refused r Propagation2 WrongStateForRollOperation)
  follows2 (Some (CacheExpire1 t)) h = rw (h, wait1) (unless_refused r Propagation2 (on_keys r (waited1 r now) s.keys) s (wait_fault r First t now s.keys))
  follows2 (Some Propagation2) h = rw (h, wait1) (refused r Propagation2 WrongStateForRollOperation)
  follows2 (Some (CacheExpire2 t)) h = rw (h, wait1) (refused r Propagation2 WrongStateForRollOperation)
  follows2 (Some Done) h = rw (h, wait1) (refused r Propagation2 WrongStateForRollOperation)

  follows3 : (o : Option RollState) → phase_of s r ≡ o → Enters r (CacheExpire2 ttl) (report2 r ttl now s)
  follows3 None h = rw (h, report2) (refused r (CacheExpire2 ttl) WrongStateForRollOperation)
  follows3 (Some Propagation1) h = rw (h, report2) (refused r (CacheExpire2 ttl) WrongStateForRollOperation)
  follows3 (Some (CacheExpire1 t)) h = rw (h, report2) (refused r (CacheExpire2 ttl) WrongStateForRollOperation)
  follows3 (Some Propagation2) h = rw (h, report2) (enters r (CacheExpire2 ttl) (on_keys r (reported2 r now) s.keys) s)
  follows3 (Some (CacheExpire2 t)) h = rw (h, report2) (refused r (CacheExpire2 ttl) WrongStateForRollOperation)
  follows3 (Some Done) h = rw (h, report2) (refused r (CacheExpire2 ttl) WrongStateForRollOperation)

  follows4 : (o : Option RollState) → phase_of s r ≡ o → Enters r Done (wait2 r now s)
  follows4 None h = rw (h, wait2) (refused r Done WrongStateForRollOperation)
  follows4 (Some Propagation1) h = rw (h, wait2) (refused r Done WrongStateForRollOperation)
  follows4 (Some (CacheExpire1 t)) h = rw (h, wait2) (refused r Done WrongStateForRollOperation)
  follows4 (Some Propagation2) h = rw (h, wait2) (refused r Done WrongStateForRollOperation)
  follows4 (Some (CacheExpire2 t)) h = rw (h, wait2) (unless_refused r Done (on_keys r (waited2 r now) s.keys) s (wait_fault r Second t now s.keys))
  follows4 (Some Done) h = rw (h, wait2) (refused r Done WrongStateForRollOperation)

pub phases_follow : PhasesFollow
phases_follow r ttl now s =
    let o = phase_of s r in
    (follows1 r ttl now s o refl, follows2 r ttl now s o refl, follows3 r ttl now s o refl, follows4 r ttl now s o refl)
