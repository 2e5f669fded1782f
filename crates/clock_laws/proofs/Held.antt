-- What a cache may hold is retired by no report that counts for it.
use Rattle.std.proofs.Common.{◌≡◌, ◌∙◌, ℕ, suc, ◌+◌, ◌-◌, ◌*◌, ◌<◌, ◌≤◌, Bool, true, false, ◌&&◌, ◌||◌, ◌⊎◌, inl, inr, List, [], ◌∷◌, length, take, drop, refl, sym, ap, arith, slice_get, nat_eq, nat_le, ⊎_elim}
use Rattle.std.specs.Prelude.{Some, if◌then◌else◌}
use Rattle.std.specs.List.{list_any}
use Rattle.std.proofs.lemmas.Bool.{cases_lt, le-ltb, lt-leb}
use Rattle.std.proofs.lemmas.List.{length-take}
use Rattle.keyset.specs.KeyState.{KeySetState}
use Rattle.keyset.specs.KeyRuns as run
use Rattle.keyset_laws.specs.KeyLife.{Step, Thing, changes_along, is_first_wait, is_start, last_place, replaced, reported_first, reported_second, retired_from, retires, same_thing, states}
use Rattle.clock_laws.specs.Clocks.{HeldThingsAreUnretired, IsTrueOf, NextSecondsCount, ReportsAreTrue, WaitsOutlastCaches}

pub counts : NextSecondsCount
counts reported given h = omega (arith, h)

pub waits : WaitsOutlastCaches
waits reported given ttl now h over held = let a = held.1 in omega (arith, h, over, a)

-- ---- the last call of a kind stands within the calls

last_within : (p : run.Call → Bool) (ss : List Step) → last_place p ss ≤ length ss
last_within p [] = omega arith
last_within p (s ∷ ss) = by_later (last_place p ss) (last_within p ss) (nat_eq (last_place p ss) 0) (p s.call)
  where
    by_later : (later : ℕ) → later ≤ length ss → (none begins : Bool) → (if none then (if begins then 1 else 0) else later + 1) ≤ length (s ∷ ss)
    by_later later h true true = omega arith
    by_later later h true false = omega arith
    by_later later h false begins = omega (arith, h)

last_at : (p : run.Call → Bool) (ss : List Step) (place : ℕ) → last_place p (take place ss) ≤ place
last_at p ss place = let h = last_within p (take place ss) in let e = length-take place ss in omega (arith, h, e)

-- ---- a report

no_replacement : (thing : Thing) (all : List KeySetState) (i c : ℕ) → c ≤ i → replaced thing all i c ≡ false
no_replacement thing all i c h = ap (λ b. b && changes_along thing (take (c + 1 - i) (drop i all))) (le-ltb i c h)

all_false : (a b c : Bool) → (a ≡ true → (b ≡ false) ⊎ (c ≡ false)) → (a && b && c) ≡ false
all_false false b c h = refl
all_false true b c h = ⊎_elim (λ (e : b ≡ false). ap (λ x. x && c) e) (λ (e : c ≡ false). both b e) (h refl)
  where
    both : (b : Bool) → c ≡ false → (b && c) ≡ false
    both true e = e
    both false e = refl

module _ (thing : Thing) (s : KeySetState) (all : List Step) (i given ttl now : ℕ) (held : now < given + ttl * 1000000000) where
  too_early : (at said : ℕ) → given ≤ at → ttl ≤ said → nat_le (at + said * 1000000000) now ≡ false
  too_early at said a b = let h : now < at + said * 1000000000 = omega (arith, held, a, b) in lt-leb (at + said * 1000000000) now h

  by_place : (at said place c : ℕ) → c ≤ place → (i ≤ place → (given ≤ at) × (ttl ≤ said)) → (nat_le (at + said * 1000000000) now ≡ false) ⊎ (replaced thing (states s all) i c ≡ false)
  by_place at said place c within t = ⊎_elim
      (λ (low : place < i). (let h : c ≤ i = omega (arith, within, low) in inr (no_replacement thing (states s all) i c h)))
      (λ (high : i ≤ place). (let w = t high in inl (too_early at said w.0 w.1)))
      (cases_lt place i)

  abbrev step_of : ℕ → run.Call → KeySetState → Step
  step_of at c left = record { at = at; call = c; left = left }

  of_call : (at : ℕ) (c : run.Call) (left : KeySetState) (place : ℕ) → (i ≤ place → IsTrueOf thing given ttl (step_of at c left)) → retires thing s all i now place (step_of at c left) ≡ false
  of_call at (run.Report1 r said) left place t =
      let c = last_place (is_start r) (take place all) in
      all_false (list_any (same_thing thing) (reported_first r)) (nat_le (at + said * 1000000000) now) (replaced thing (states s all) i c)
      (λ of. by_place at said place c (last_at (is_start r) all place) (λ high. t high of))
  of_call at (run.Report2 r said) left place t =
      let c = last_place (is_first_wait r) (take place all) in
      all_false (list_any (same_thing thing) (reported_second r)) (nat_le (at + said * 1000000000) now) (replaced thing (states s all) i c)
      (λ of. by_place at said place c (last_at (is_first_wait r) all place) (λ high. t high of))
  of_call at _ left place t = refl

  none_from : ReportsAreTrue thing all i given ttl → (place : ℕ) (ts : List Step) → ((k : ℕ) (t : Step) → slice_get ts k ≡ Some t → slice_get all (place + k) ≡ Some t) → retired_from thing s all i now place ts ≡ false
  none_from are_true place [] at = refl
  none_from are_true place (t ∷ ts) at =
      let e : place + 0 ≡ place = omega arith in
      let here : slice_get all place ≡ Some t = ap (slice_get all) (sym e) ∙ at 0 t refl in
      ap (λ b. b || retired_from thing s all i now (place + 1) ts) (of_call t.at t.call t.left place (λ high. are_true place t high here))
      ∙ none_from are_true (place + 1) ts (λ k u g. (let e : place + 1 + k ≡ place + suc k = omega arith in ap (slice_get all) e ∙ at (suc k) u g))

pub unretired : HeldThingsAreUnretired
unretired thing start steps i given ttl now are_true held =
    none_from thing start steps i given ttl now held.1 are_true 0 steps (λ k t g. (let e : 0 + k ≡ k = omega arith in ap (slice_get steps) e ∙ g))
