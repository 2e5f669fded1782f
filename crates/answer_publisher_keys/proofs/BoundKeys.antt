-- Bound keys by reference.
use Rattle.std.proofs.Common.{◌≡◌, ℕ, Bool, true, false, cond, List, [], ◌∷◌, refl, sym, ap, ◌∙◌, subst}
use Rattle.std.proofs.lemmas.Cmp.{tied_itself, nat_list_cmp_total}
use Rattle.std.specs.Prelude.{Option, Some, None, String, string_bytes}
use Rattle.std.specs.Map.{lookup, remove_entry}
use Rattle.std.specs.BTreeMap.{insert_entry}
use Rattle.std.specs.String.{string_cmp}
use Rattle.std.specs.declared.cmp.Ordering.{Ordering}
use Rattle.std.specs.declared.cmp.Ordering.TheVariants.{Less, Equal, Greater}
use Rattle.std.specs.Ordering.{nat_cmp, is_eq, match_ordering}
use Rattle.std.specs.Cmp.Lexicographic.{slice_cmp}
use Rattle.std.specs.FinMap.Entries.{put, find, by_order}
use Rattle.keyset.specs.KeyState.{reference_cmp}
use Rattle.answer_publisher_keys.specs.BoundView.{by_text}

pub find-by_text : {A X : Type 0} (es : List (String A × X)) (q : List ℕ) → find reference_cmp q (by_text es) ≡ lookup (λ k. is_eq (slice_cmp nat_cmp q (string_bytes k))) es
find-by_text [] q = refl
find-by_text (e ∷ es) q = ap (cond (is_eq (slice_cmp nat_cmp q (string_bytes e.0))) (Some e.1)) (find-by_text es q)

pub put-by_text : {A X : Type 0} (es : List (String A × X)) (k : String A) (v : X) → by_text (insert_entry string_cmp es k v) ≡ put reference_cmp (string_bytes k) v (by_text es)
put-by_text [] k v = refl
put-by_text (e ∷ es) k v =
    elim (slice_cmp nat_cmp (string_bytes k) (string_bytes e.0)) as (λ o. by_text (match_ordering o ((k, v) ∷ e ∷ es) ((e.0, v) ∷ es) (e ∷ insert_entry string_cmp es k v)) ≡ by_order o ((string_bytes k, v) ∷ (string_bytes e.0, e.1) ∷ by_text es) ((string_bytes e.0, v) ∷ by_text es) ((string_bytes e.0, e.1) ∷ put reference_cmp (string_bytes k) v (by_text es))) [
      | Less ↦ refl
      | Equal ↦ refl
      | Greater ↦ ap (λ xs. (string_bytes e.0, e.1) ∷ xs) (put-by_text es k v)
    ]

is_eq-itself : (q p : List ℕ) → q ≡ p → is_eq (slice_cmp nat_cmp q p) ≡ true
is_eq-itself q p e = let P : List ℕ → Type 0 = λ x. is_eq (slice_cmp nat_cmp q x) ≡ true in subst P e (ap is_eq (tied_itself nat_list_cmp_total q))

removed_at : {A X : Type 0} (q : List ℕ) (k : String A) (v : X) (e : String A × X) (es : List (String A × X)) (o : Ordering) → is_eq (slice_cmp nat_cmp q (string_bytes k)) ≡ true → is_eq o ≡ false → is_eq (slice_cmp nat_cmp q (string_bytes e.0)) ≡ is_eq o
    → remove_entry (λ k. is_eq (slice_cmp nat_cmp q (string_bytes k))) (insert_entry string_cmp es k v) ≡ es
    → remove_entry (λ k. is_eq (slice_cmp nat_cmp q (string_bytes k))) (match_ordering o ((k, v) ∷ e ∷ es) ((e.0, v) ∷ es) (e ∷ insert_entry string_cmp es k v)) ≡ e ∷ es
removed_at q k v e es Less itself other at rest = ap (λ b. cond b (e ∷ es) ((k, v) ∷ remove_entry (λ k. is_eq (slice_cmp nat_cmp q (string_bytes k))) (e ∷ es))) itself
removed_at q k v e es Equal itself other at rest = cc
removed_at q k v e es Greater itself other at rest = ap (λ b. cond b (insert_entry string_cmp es k v) (e ∷ remove_entry (λ k. is_eq (slice_cmp nat_cmp q (string_bytes k))) (insert_entry string_cmp es k v))) at ∙ ap (λ xs. e ∷ xs) rest

not_here : {X : Type 0} (b : Bool) (x : X) (rest : Option X) → cond b (Some x) rest ≡ None → (b ≡ false) × (rest ≡ None)
not_here true x rest h = cc
not_here false x rest h = (refl, h)

-- what was put in where nothing was, and taken out again
pub removed-put : {A X : Type 0} (es : List (String A × X)) (q : List ℕ) (k : String A) (v : X) → q ≡ string_bytes k → find reference_cmp q (by_text es) ≡ None → remove_entry (λ k. is_eq (slice_cmp nat_cmp q (string_bytes k))) (insert_entry string_cmp es k v) ≡ es
removed-put [] q k v same h = ap (λ b. cond b [] ((k, v) ∷ [])) (is_eq-itself q (string_bytes k) same)
removed-put (e ∷ es) q k v same h =
    let absent = not_here (is_eq (slice_cmp nat_cmp q (string_bytes e.0))) e.1 (find reference_cmp q (by_text es)) h in
    removed_at q k v e es (slice_cmp nat_cmp (string_bytes k) (string_bytes e.0)) (is_eq-itself q (string_bytes k) same) (ap (λ p. is_eq (slice_cmp nat_cmp p (string_bytes e.0))) (sym same) ∙ absent.0) (ap (λ p. is_eq (slice_cmp nat_cmp p (string_bytes e.0))) same)
    (removed-put es q k v same absent.1)
