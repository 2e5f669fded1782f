-- From when on a wait is accepted.
use Rattle.std.proofs.Common.{◌≡◌, ℕ, ◌+◌, ◌*◌, ◌<◌, ◌≤◌, ◌^◌, ◌||◌, Bool, true, false, cond, List, [], ◌∷◌, refl, ap, subst, arith, eqb}
use Rattle.std.specs.Prelude.{Option, Some, None, Ok, ◌↔◌}
use Rattle.std.specs.List.{AllByRecursion}
use Rattle.std.proofs.lemmas.Bool.Decides.{nat_tests}
use Rattle.keyset_rolls.specs.declared.rolls.Action.{Action}
use Rattle.keyset_rolls.specs.declared.rolls.RollState.{RollState}
use Rattle.keyset_rolls.specs.declared.rolls.RollState.TheVariants.{CacheExpire1, Propagation2, CacheExpire2, Done}
use Rattle.keyset_rolls.specs.declared.rolls.RollType.{RollType}
use Rattle.keyset_rolls.specs.declared.rolls.Turn.{Turn}
use Rattle.keyset_rolls.specs.declared.rolls.Turn.TheVariants.{First, Second}
use Rattle.keyset_rolls.specs.Rolls.{awaited, is_missing, rest_of, waited1, waited2}
use Rattle.keyset_rolls.specs.Actions.{actions_in}
use Rattle.keyset.specs.KeyRuns.{is_accepted}
use Rattle.keyset.specs.KeyState.{Key, KeySetState, Reference, Refusal, MissingTimestamp, Wait, entered, greatest_rest, misses, on_keys, phase_of, unless_fault, wait1, wait2, wait_fault}
use Rattle.keyset.specs.KeyLaws.{HasPassed}
use Rattle.keyset.proofs.KeyWaits.{WaitsAreExact-holds}
use Rattle.keyset_due.specs.Dues.{IsAcceptedFrom, IsPassedFrom, IsReached, end_of, greatest_end}

-- ---- one key

-- a stamp that a wait reads, where it looks at the key
abbrev pub looked : Bool → Option ℕ → Option (Option ℕ)
looked b stamp = cond b (Some stamp) None

pub ends_at : (b : Bool) (since ttl whole : ℕ) → whole ≡ rest_of ttl 0 (looked b (Some since)) → (whole ≡ 0 → ⊥) → since + whole ≡ end_of ttl (looked b (Some since))
ends_at false since ttl whole e n = absurd (n e)
ends_at true since ttl whole e n = grind (arith, nat_tests)

pub ends_at_once : (b : Bool) (stamp : Option ℕ) (ttl : ℕ) → rest_of ttl 0 (looked b stamp) ≡ 0 → 0 ≡ end_of ttl (looked b stamp)
ends_at_once false stamp ttl e = refl
ends_at_once true None ttl e = refl
ends_at_once true (Some since) ttl e = grind (arith, nat_tests)

pub ends_never : (b : Bool) (ttl : ℕ) → 0 ≡ end_of ttl (looked b None)
ends_never false ttl = refl
ends_never true ttl = refl

passed_at : (ttl now : ℕ) (l : Option (Option ℕ)) → is_missing l ≡ false → HasPassed ttl now l → end_of ttl l ≤ now
passed_at ttl now None m h = omega arith
passed_at ttl now (Some None) m h = absurd h
passed_at ttl now (Some (Some since)) m h = grind (arith, nat_tests)

at_passed : (ttl now : ℕ) (l : Option (Option ℕ)) → is_missing l ≡ false → end_of ttl l ≤ now → HasPassed ttl now l
at_passed ttl now None m h = tt
at_passed ttl now (Some None) m h = absurd (cc)
at_passed ttl now (Some (Some since)) m h = grind (arith, nat_tests)

-- ---- all keys

neither : (a b : Bool) → (a || b) ≡ false → (a ≡ false) × (b ≡ false)
neither true b h = cc
neither false b h = (refl, h)

module _ (r : RollType) (t : Turn) (ttl now : ℕ) where
  all_passed_at : (es : List (Reference × Key)) → misses r t es ≡ false → AllByRecursion (λ e. HasPassed ttl now (awaited t r e.1)) es → greatest_end r t ttl es ≤ now
  all_passed_at [] m h = omega arith
  all_passed_at (e ∷ es) m h =
      let n = neither (is_missing (awaited t r e.1)) (misses r t es) m in
      let a : end_of ttl (awaited t r e.1) ≤ now = passed_at ttl now (awaited t r e.1) n.0 h.0 in
      let b : greatest_end r t ttl es ≤ now = all_passed_at es n.1 h.1 in
      omega (arith, a, b)

  at_all_passed : (es : List (Reference × Key)) → misses r t es ≡ false → greatest_end r t ttl es ≤ now → AllByRecursion (λ e. HasPassed ttl now (awaited t r e.1)) es
  at_all_passed [] m h = tt
  at_all_passed (e ∷ es) m h =
      let n = neither (is_missing (awaited t r e.1)) (misses r t es) m in
      let a : end_of ttl (awaited t r e.1) ≤ now = omega (arith, h) in
      let b : greatest_end r t ttl es ≤ now = omega (arith, h) in
      (at_passed ttl now (awaited t r e.1) n.0 a, at_all_passed es n.1 b)

  -- a wait that misses no stamp is accepted from its greatest end on
  pub fault_at_end : (es : List (Reference × Key)) → misses r t es ≡ false → (wait_fault r t ttl now es ≡ None) ↔ (greatest_end r t ttl es ≤ now)
  fault_at_end es m =
      let exact = WaitsAreExact-holds r t ttl now es in
      (λ f. all_passed_at es m (exact.0 f), λ h. exact.1 (at_all_passed es m h))

  pub always_missing : (es : List (Reference × Key)) → misses r t es ≡ true → (wait_fault r t ttl now es ≡ None) ↔ ⊥
  always_missing es m =
      let rest = greatest_rest r t ttl now es in
      let fault : wait_fault r t ttl now es ≡ Some MissingTimestamp = ap (λ b. cond b (Some MissingTimestamp) (cond (eqb rest 0) None (Some (Wait rest)))) m in
      (λ f. absurd (none_some fault f), λ h. absurd h) where
        none_some : {o : Option Refusal} → o ≡ Some MissingTimestamp → o ≡ None → ⊥
        none_some e f = cc

-- ---- the calls

unless : (f : Option Refusal) (a : KeySetState × List Action) → (is_accepted (unless_fault f (Ok a)) ≡ true) ↔ (f ≡ None)
unless None a = (λ _. refl, λ _. refl)
unless (Some e) a = (λ h. absurd (cc), λ h. absurd (cc))

entered_by : RollType → RollState → List (Reference × Key) → KeySetState → KeySetState × List Action
entered_by r p ks s = (entered r p ks s, actions_in r (Some p))

pub accepted1 : (r : RollType) (ttl now : ℕ) (s : KeySetState) → phase_of s r ≡ Some (CacheExpire1 ttl) → (is_accepted (wait1 r now s) ≡ true) ↔ (wait_fault r First ttl now s.keys ≡ None)
unfolding entered_by
accepted1 r ttl now s h = rw (h, wait1) (unless (wait_fault r First ttl now s.keys) (entered_by r Propagation2 (on_keys r (waited1 r now) s.keys) s))

pub accepted2 : (r : RollType) (ttl now : ℕ) (s : KeySetState) → phase_of s r ≡ Some (CacheExpire2 ttl) → (is_accepted (wait2 r now s) ≡ true) ↔ (wait_fault r Second ttl now s.keys ≡ None)
unfolding entered_by
accepted2 r ttl now s h = rw (h, wait2) (unless (wait_fault r Second ttl now s.keys) (entered_by r Done (on_keys r (waited2 r now) s.keys) s))

both : {A B C : Type 0} → (A ↔ B) → (B ↔ C) → A ↔ C
both f g = (λ a. g.0 (f.0 a), λ c. f.1 (g.1 c))

pub accepted_from1 : (r : RollType) (ttl : ℕ) (s : KeySetState) (from : Option ℕ) → phase_of s r ≡ Some (CacheExpire1 ttl) → IsPassedFrom from (λ now. wait_fault r First ttl now s.keys) → IsAcceptedFrom from (λ now. wait1 r now s)
accepted_from1 r ttl s from h p second small = both (accepted1 r ttl (second * 1000000000) s h) (p second small)

pub accepted_from2 : (r : RollType) (ttl : ℕ) (s : KeySetState) (from : Option ℕ) → phase_of s r ≡ Some (CacheExpire2 ttl) → IsPassedFrom from (λ now. wait_fault r Second ttl now s.keys) → IsAcceptedFrom from (λ now. wait2 r now s)
accepted_from2 r ttl s from h p second small = both (accepted2 r ttl (second * 1000000000) s h) (p second small)

-- a wait whose greatest end has this first second
pub passed_from : (r : RollType) (t : Turn) (ttl end : ℕ) (es : List (Reference × Key)) (from : Option ℕ) → misses r t es ≡ false → end ≡ greatest_end r t ttl es
    → ((second : ℕ) → second < 2 ^ 64 → (end ≤ second * 1000000000) ↔ IsReached from second) → IsPassedFrom from (λ now. wait_fault r t ttl now es)
passed_from r t ttl end es from m e p second small =
    let q : (greatest_end r t ttl es ≤ second * 1000000000) ↔ IsReached from second = subst (λ n. (n ≤ second * 1000000000) ↔ IsReached from second) e (p second small) in
    both (fault_at_end r t ttl (second * 1000000000) es m) q
