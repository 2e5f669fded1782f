-- Lists with one item more.
use Rattle.std.proofs.Common.{◌≡◌, Bool, true, false, ◌||◌, List, [], ◌∷◌, ◌++◌, refl, sym, ap}
use Rattle.std.specs.List.{list_any, AllByRecursion}
use Rattle.std.proofs.lemmas.Bool.{false≢true}
use Rattle.definitions.specs.Name.{Name, low, same}
use Rattle.messages.proofs.ZoneNames.{same_labels, labels_eq-same}
use Rattle.answer_judge_facts.proofs.JudgeMarks.{or_true}

pub any_push : {X : Type 0} (p : X → Bool) (xs : List X) (x : X) → p x ≡ true → list_any p (xs ++ x ∷ []) ≡ true
any_push p [] x h = ap (λ b. b || false) h
any_push p (y ∷ xs) x h = or_true (p y) (list_any p (xs ++ x ∷ [])) (any_push p xs x h)

pub any_kept : {X : Type 0} (p : X → Bool) (xs : List X) (x : X) → list_any p xs ≡ true → list_any p (xs ++ x ∷ []) ≡ true
any_kept p [] x h = absurd (false≢true h)
any_kept p (y ∷ xs) x h =
    let go : (b : Bool) → p y ≡ b → (b || list_any p xs) ≡ true → (p y || list_any p (xs ++ x ∷ [])) ≡ true = λ b e. elim b as (λ b. p y ≡ b → (b || list_any p xs) ≡ true → (p y || list_any p (xs ++ x ∷ [])) ≡ true) [
      | true ↦ (λ e t. ap (λ b. b || list_any p (xs ++ x ∷ [])) e)
      | false ↦ (λ e t. or_true (p y) (list_any p (xs ++ x ∷ [])) (any_kept p xs x t))
    ] e in
    go (p y) refl h

pub all_push : {X : Type 0} (P : X → Type 0) (xs : List X) (x : X) → AllByRecursion P xs → P x → AllByRecursion P (xs ++ x ∷ [])
all_push P [] x h k = (k, tt)
all_push P (y ∷ xs) x h k = (h.0, all_push P xs x h.1 k)

pub same_swap : (a b : Name) → same a b ≡ true → same b a ≡ true
same_swap a b h = labels_eq-same (low b) (low a) (sym (same_labels (low a) (low b) h))
