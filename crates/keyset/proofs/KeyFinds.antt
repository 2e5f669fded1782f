-- Keys by reference: what is found, and what stands in the list.
use Rattle.std.proofs.Common.{◌≡◌, Bool, true, false, cond, List, [], ◌∷◌, map, refl, sym, ap, subst, ◌∙◌, T, ◌&&◌, ◌||◌}
use Rattle.std.specs.Prelude.{Some}
use Rattle.std.specs.List.{AllByRecursion, list_any}
use Rattle.std.specs.declared.cmp.Ordering.{Ordering}
use Rattle.std.specs.declared.cmp.Ordering.TheVariants.{Less, Equal, Greater}
use Rattle.std.specs.Ordering.{eq_by_cmp, is_eq, is_lt, ordering_reverse}
use Rattle.std.specs.Cmp.Lexicographic.{nat_list_cmp_total}
use Rattle.std.specs.FinMap.{nat_cmp-IsAntisymmetric, slice_cmp-IsAntisymmetric}
use Rattle.std.specs.FinMap.Entries.{find, below_all, is_sorted}
use Rattle.std.proofs.lemmas.Cmp.{tied_itself}
use Rattle.keyset.specs.KeyState.{Key, Reference, reference_cmp}

pub both_first : (a b : Bool) → T (a && b) → T a
both_first true b p = tt
both_first false b p = p

pub both_second : (a b : Bool) → T (a && b) → T b
both_second true b p = p
both_second false b p = absurd p

pub both : (a b : Bool) → T a → T b → T (a && b)
both true b p q = q
both false b p q = p

pub is_equal : (o : Ordering) → is_eq o ≡ true → o ≡ Equal
is_equal Less e = cc
is_equal Equal e = refl
is_equal Greater e = cc

-- references that are equal by their order are one
pub is_same : (p q : Reference) → eq_by_cmp reference_cmp p q ≡ true → p ≡ q
is_same p q e = slice_cmp-IsAntisymmetric nat_cmp-IsAntisymmetric p q (is_equal (reference_cmp p q) e)

pub is_itself : (q : Reference) → eq_by_cmp reference_cmp q q ≡ true
is_itself q = ap is_eq (tied_itself nat_list_cmp_total q)

not_lower : (o : Ordering) → T (is_lt o) → is_eq o ≡ false
not_lower Less h = refl
not_lower Equal h = absurd h
not_lower Greater h = absurd h

reversed : (o : Ordering) → T (is_lt o) → is_eq (ordering_reverse o) ≡ false
reversed Less h = refl
reversed Equal h = absurd h
reversed Greater h = absurd h

-- what is found behind a lower reference isn't found at it
pub passed : (x q : Reference) (k : Key) (es : List (Reference × Key)) → T (below_all reference_cmp x es) → find reference_cmp q es ≡ Some k → eq_by_cmp reference_cmp q x ≡ false
passed x q k [] b f = cc
passed x q k (e ∷ es) b f = at (eq_by_cmp reference_cmp q e.0) refl f (λ g. passed x q k es (both_second (is_lt (reference_cmp x e.0)) (below_all reference_cmp x es) b) g)
  where
    at : (t : Bool) → eq_by_cmp reference_cmp q e.0 ≡ t → cond t (Some e.1) (find reference_cmp q es) ≡ Some k → (find reference_cmp q es ≡ Some k → eq_by_cmp reference_cmp q x ≡ false) → eq_by_cmp reference_cmp q x ≡ false
    at true same g more =
        let lower : T (is_lt (reference_cmp x e.0)) = both_first (is_lt (reference_cmp x e.0)) (below_all reference_cmp x es) b in
        ap (λ p. eq_by_cmp reference_cmp p x) (is_same q e.0 same)
        ∙ ap is_eq (nat_list_cmp_total.antisymm e.0 x)
        ∙ reversed (reference_cmp x e.0) lower
    at false other g more = more g

module _ (es : List (Reference × Key)) (e : Reference × Key) (s : T (is_sorted reference_cmp (e ∷ es))) where
  -- what is found further on
  pub later : (q : Reference) (k : Key) → find reference_cmp q es ≡ Some k → find reference_cmp q (e ∷ es) ≡ Some k
  later q k f = ap (λ b. cond b (Some e.1) (find reference_cmp q es)) (passed e.0 q k es (both_first (below_all reference_cmp e.0 es) (is_sorted reference_cmp es) s) f) ∙ f

  pub sorted_rest : T (is_sorted reference_cmp es)
  sorted_rest = both_second (below_all reference_cmp e.0 es) (is_sorted reference_cmp es) s

  pub first_found : find reference_cmp e.0 (e ∷ es) ≡ Some e.1
  first_found = ap (λ b. cond b (Some e.1) (find reference_cmp e.0 es)) (is_itself e.0)

-- what holds of each key that is found holds of each entry
pub entries_all : (P : Key → Type 0) (es : List (Reference × Key)) → T (is_sorted reference_cmp es) → ((q : Reference) (k : Key) → find reference_cmp q es ≡ Some k → P k) → AllByRecursion {X = Reference × Key} (λ e. P e.1) es
entries_all P [] s h = tt
entries_all P (e ∷ es) s h = (h e.0 e.1 (first_found es e s), entries_all P es (sorted_rest es e s) (λ q k f. h q k (later es e s q k f)))

-- and the other way round
pub found_all : (P : Key → Type 0) (es : List (Reference × Key)) (q : Reference) (k : Key) → AllByRecursion {X = Reference × Key} (λ e. P e.1) es → find reference_cmp q es ≡ Some k → P k
found_all P [] q k a f = cc
found_all P (e ∷ es) q k a f = at (eq_by_cmp reference_cmp q e.0) f (λ g. found_all P es q k a.1 g)
  where
    at : (t : Bool) → cond t (Some e.1) (find reference_cmp q es) ≡ Some k → (find reference_cmp q es ≡ Some k → P k) → P k
    at true g more = let same : e.1 ≡ k = cc in subst P same a.0
    at false g more = more g

-- an entry that passes a test is found
pub any_found : (p : Reference → Key → Bool) (es : List (Reference × Key)) → T (is_sorted reference_cmp es) → list_any {X = Reference × Key} (λ e. p e.0 e.1) es ≡ true
    → (q : Reference) × (k : Key) × (find reference_cmp q es ≡ Some k) × (p q k ≡ true)
any_found p [] s h = cc
any_found p (e ∷ es) s h = at (p e.0 e.1) refl h (λ g. any_found p es (sorted_rest es e s) g)
  where
    at : (t : Bool) → p e.0 e.1 ≡ t → (t || list_any {X = Reference × Key} (λ e. p e.0 e.1) es) ≡ true
        → (list_any {X = Reference × Key} (λ e. p e.0 e.1) es ≡ true → (q : Reference) × (k : Key) × (find reference_cmp q es ≡ Some k) × (p q k ≡ true))
        → (q : Reference) × (k : Key) × (find reference_cmp q (e ∷ es) ≡ Some k) × (p q k ≡ true)
    at true i g more = (e.0, e.1, first_found es e s, i)
    at false i g more = let a = more g in (a.0, a.1, later es e s a.0 a.1 a.2, a.3)

-- keys that a function of reference and key changed
module _ (g : Reference → Key → Key) where
  abbrev pub changed : List (Reference × Key) → List (Reference × Key)
  changed es = map (λ e. (e.0, g e.0 e.1)) es

  pub from_before : (es : List (Reference × Key)) (q : Reference) (l : Key) → find reference_cmp q (changed es) ≡ Some l → (k : Key) × (find reference_cmp q es ≡ Some k) × (l ≡ g q k)
  from_before [] q l f = cc
  from_before (e ∷ es) q l f = at (eq_by_cmp reference_cmp q e.0) refl f (λ h. from_before es q l h)
    where
      at : (t : Bool) → eq_by_cmp reference_cmp q e.0 ≡ t → cond t (Some (g e.0 e.1)) (find reference_cmp q (changed es)) ≡ Some l
          → (find reference_cmp q (changed es) ≡ Some l → (k : Key) × (find reference_cmp q es ≡ Some k) × (l ≡ g q k))
          → (k : Key) × (cond t (Some e.1) (find reference_cmp q es) ≡ Some k) × (l ≡ g q k)
      at true same h more =
          let a : l ≡ g e.0 e.1 = cc in
          (e.1, refl, a ∙ ap (λ p. g p e.1) (sym (is_same q e.0 same)))
      at false other h more = more h

  pub to_after : (es : List (Reference × Key)) (q : Reference) (k : Key) → find reference_cmp q es ≡ Some k → find reference_cmp q (changed es) ≡ Some (g q k)
  to_after [] q k f = cc
  to_after (e ∷ es) q k f = at (eq_by_cmp reference_cmp q e.0) refl f (λ h. to_after es q k h)
    where
      at : (t : Bool) → eq_by_cmp reference_cmp q e.0 ≡ t → cond t (Some e.1) (find reference_cmp q es) ≡ Some k
          → (find reference_cmp q es ≡ Some k → find reference_cmp q (changed es) ≡ Some (g q k))
          → cond t (Some (g e.0 e.1)) (find reference_cmp q (changed es)) ≡ Some (g q k)
      at true same h more =
          let a : e.1 ≡ k = cc in
          ap (λ v. Some (g e.0 v)) a ∙ ap (λ p. Some (g p k)) (sym (is_same q e.0 same))
      at false other h more = more h

  below_changed : (x : Reference) (es : List (Reference × Key)) → T (below_all reference_cmp x es) → T (below_all reference_cmp x (changed es))
  below_changed x [] b = tt
  below_changed x (e ∷ es) b =
      both (is_lt (reference_cmp x e.0)) (below_all reference_cmp x (changed es))
      (both_first (is_lt (reference_cmp x e.0)) (below_all reference_cmp x es) b)
      (below_changed x es (both_second (is_lt (reference_cmp x e.0)) (below_all reference_cmp x es) b))

  pub sorted_changed : (es : List (Reference × Key)) → T (is_sorted reference_cmp es) → T (is_sorted reference_cmp (changed es))
  sorted_changed [] s = tt
  sorted_changed (e ∷ es) s =
      both (below_all reference_cmp e.0 (changed es)) (is_sorted reference_cmp (changed es))
      (below_changed e.0 es (both_first (below_all reference_cmp e.0 es) (is_sorted reference_cmp es) s))
      (sorted_changed es (both_second (below_all reference_cmp e.0 es) (is_sorted reference_cmp es) s))
