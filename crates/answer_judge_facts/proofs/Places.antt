-- Items in strict order of their places: one is found by a search, and none is like another.
use Rattle.std.proofs.Common.{◌≡◌, ℕ, zero, suc, ◌<◌, ◌≤◌, ◌+◌, Bool, true, false, ◌||◌, List, [], ◌∷◌, ◌++◌, map, length, get_or, ⊎_elim, refl, sym, ap, ◌∙◌, arith, Ordering}
use Rattle.std.specs.declared.cmp.Ordering.TheVariants.{Less, Equal, Greater}
use Rattle.std.specs.List.{AllByRecursion, list_any}
use Rattle.std.specs.List.Sorted.{IsBinarySearchResult, IsNonDecreasingBy, IsSortedBy, IsStrictlySortedBy}
use Rattle.std.specs.Cmp.{IsTotalOrder}
use Rattle.std.specs.Ordering.{is_lt, ordering_index, ordering_reverse}
use Rattle.std.specs.Prelude.{Err}
use Rattle.std.proofs.lemmas.Bool.{cases_lt, false_from_ne_true}
use Rattle.std.proofs.lemmas.List.{length-map}
use Rattle.std.proofs.lemmas.List.Sorted.{searchable_from_sorted}
use Rattle.std.proofs.lemmas.Map.Keys.{Less-from_sorted}

get_map : {X Y : Type 0} (f : X → Y) (xs : List X) (i : ℕ) (d : X) → get_or (map f xs) i (f d) ≡ f (get_or xs i d)
get_map f [] i d = refl
get_map f (x ∷ xs) zero d = refl
get_map f (x ∷ xs) (suc i) d = get_map f xs i d

module _ {G K : Type 0} (place : G → K) (R : K → K → Ordering) (o : IsTotalOrder R) where
  abbrev pub Ranked : List G → Type 0
  Ranked gs = IsStrictlySortedBy R (map place gs)

  parts : (g : G) (gs : List G) → Ranked (g ∷ gs) → AllByRecursion (λ k. R (place g) k ≡ Less) (map place gs) × Ranked gs
  unfolding IsStrictlySortedBy
  parts g gs s = s

  joined : (g : G) (gs : List G) → AllByRecursion (λ k. R (place g) k ≡ Less) (map place gs) → Ranked gs → Ranked (g ∷ gs)
  unfolding IsStrictlySortedBy
  joined g gs a s = (a, s)

  pub none_ranked : Ranked []
  unfolding IsStrictlySortedBy
  none_ranked = tt

  back : (a b : K) → R a b ≡ Less → R b a ≡ Greater
  back a b e = o.antisymm b a ∙ ap ordering_reverse e

  sorted : (gs : List G) → Ranked gs → IsSortedBy (λ a b. is_lt (R (place a) (place b))) gs
  sorted gs s k d low h =
      let at : R (get_or (map place gs) k (place d)) (get_or (map place gs) (k + 1) (place d)) ≡ Less = Less-from_sorted R (map place gs) k (k + 1) (place d) s (omega arith) (omega (arith, h, length-map gs place)) in
      let less : R (place (get_or gs k d)) (place (get_or gs (k + 1) d)) ≡ Less = (λ i. R (sym (get_map place gs k d) i) (sym (get_map place gs (k + 1) d) i)) ∙ at in
      ap is_lt (back (place (get_or gs k d)) (place (get_or gs (k + 1) d)) less)

  searchable : (gs : List G) (q : K) → Ranked gs → IsNonDecreasingBy (λ y. ordering_index (R (place y) q)) gs
  searchable gs q s = searchable_from_sorted o place gs q (sorted gs s)

  all_other : (is : G → Bool) (gs : List G) → ((k : ℕ) (d : G) → k < length gs → is (get_or gs k d) ≡ false) → list_any is gs ≡ false
  all_other is [] h = refl
  all_other is (g ∷ gs) h = (λ i. h 0 g (omega arith) i || all_other is gs (λ k d l. h (suc k) d (omega arith)) i)

  unlike : (x : Ordering) → (x ≡ Less) → (x ≡ Equal) → ⊥
  unlike x l e = let c : Less ≡ Equal = sym l ∙ e in cc

  above : (x : Ordering) → (x ≡ Greater) → (x ≡ Equal) → ⊥
  above x l e = let c : Greater ≡ Equal = sym l ∙ e in cc

  -- a search that finds nothing
  pub none_found : (is : G → Bool) (gs : List G) (q : K) (i : ℕ) → Ranked gs → ((g : G) → is g ≡ true → R (place g) q ≡ Equal) → IsBinarySearchResult (λ g. R (place g) q) gs (Err i) → list_any is gs ≡ false
  none_found is gs q i s means found =
      let p = found (searchable gs q s) in
      all_other is gs (λ k d l. false_from_ne_true (is (get_or gs k d)) (λ t. ⊎_elim
      (λ (b : k < i). unlike (R (place (get_or gs k d)) q) (p.0 k d (omega arith) b) (means (get_or gs k d) t))
      (λ (b : i ≤ k). above (R (place (get_or gs k d)) q) (p.1 k d b l) (means (get_or gs k d) t))
      (cases_lt k i)))

  all_after : (k : K) (gs : List G) (g : G) → AllByRecursion (λ x. R k x ≡ Less) (map place gs) → R k (place g) ≡ Less → AllByRecursion (λ x. R k x ≡ Less) (map place (gs ++ g ∷ []))
  all_after k [] g a h = (h, tt)
  all_after k (x ∷ gs) g a h = (a.0, all_after k gs g a.1 h)

  -- one more behind all others
  pub ranked_push : (gs : List G) (g : G) → Ranked gs → AllByRecursion (λ x. R (place x) (place g) ≡ Less) gs → Ranked (gs ++ g ∷ [])
  ranked_push [] g s a = joined g [] tt none_ranked
  ranked_push (x ∷ gs) g s a =
      let p = parts x gs s in
      joined x (gs ++ g ∷ []) (all_after (place x) gs g p.0 a.0) (ranked_push gs g p.1 a.1)

  all_front : (k : K) (gs others : List G) → AllByRecursion (λ x. R k x ≡ Less) (map place (gs ++ others)) → AllByRecursion (λ x. R k x ≡ Less) (map place gs)
  all_front k [] others a = tt
  all_front k (x ∷ gs) others a = (a.0, all_front k gs others a.1)

  -- those in front of others
  pub ranked_front : (gs others : List G) → Ranked (gs ++ others) → Ranked gs
  ranked_front [] others s = none_ranked
  ranked_front (g ∷ gs) others s =
      let p = parts g (gs ++ others) s in
      joined g gs (all_front (place g) gs others p.0) (ranked_front gs others p.1)

  no_like : (like : G → G → Bool) → ((a b : G) → like a b ≡ true → R (place a) (place b) ≡ Equal) → (g : G) (gs : List G) → AllByRecursion (λ k. R (place g) k ≡ Less) (map place gs) → list_any (like g) gs ≡ false
  no_like like means g [] a = refl
  no_like like means g (x ∷ gs) a =
      let first = false_from_ne_true (like g x) (λ t. unlike (R (place g) (place x)) a.0 (means g x t)) in
      (λ i. first i || no_like like means g gs a.1 i)

  -- the first is like no other, and so are the others
  pub apart_parts : (like : G → G → Bool) → ((a b : G) → like a b ≡ true → R (place a) (place b) ≡ Equal) → (g : G) (gs : List G) → Ranked (g ∷ gs) → (list_any (like g) gs ≡ false) × Ranked gs
  apart_parts like means g gs s = let p = parts g gs s in (no_like like means g gs p.0, p.1)
