-- A message that is there is found, and so is an entry of a table.
use Rattle.std.proofs.Common.{◌≡◌, Bool, true, false, List, [], ◌∷◌, ◌++◌, Some, refl, sym, ap, ◌∙◌, ◌⊎◌, inl, inr}
use Rattle.std.specs.Prelude.{is_none, Contains, if◌then◌else◌}
use Rattle.std.specs.List.{find}
use Rattle.std.specs.Option.{option_map}
use Rattle.std.proofs.lemmas.Bool.{false≢true}
use Rattle.definitions.proofs.Members.{In, in_contained}

pub in_list : {X : Type 0} (xs : List X) (x : X) → Contains xs x → In x xs
in_list xs x c = in_contained xs x c.0 c.1 c.2

-- ---- items of two lists

pub in_both : {X : Type 0} (xs ys : List X) (x : X) → In x (xs ++ ys) → (In x xs) ⊎ (In x ys)
in_both [] ys x there = inr there
in_both (y ∷ xs) ys x (inl is) = inl (inl is)
in_both (y ∷ xs) ys x (inr later) = elim (in_both xs ys x later) [ inl l ↦ inl (inr l) | inr r ↦ inr r ]

pub in_front : {X : Type 0} (xs ys : List X) (x : X) → In x xs → In x (xs ++ ys)
in_front [] ys x there = absurd there
in_front (y ∷ xs) ys x (inl is) = inl is
in_front (y ∷ xs) ys x (inr later) = inr (in_front xs ys x later)

pub in_back : {X : Type 0} (xs ys : List X) (x : X) → In x ys → In x (xs ++ ys)
in_back [] ys x there = there
in_back (y ∷ xs) ys x there = inr (in_back xs ys x there)

-- ---- what is found

-- where one that passes is in a list, one is found there
pub found_in : {X Y : Type 0} (f : X → Y) (p : X → Bool) (xs : List X) (x : X) → In x xs → p x ≡ true → is_none (option_map f (find p xs)) ≡ false
found_in f p [] x there k = absurd there
found_in f p (y ∷ xs) x there k = go (p y) refl there (found_in f p xs x)
  where
    go : (b : Bool) → p y ≡ b → (x ≡ y) ⊎ In x xs → (In x xs → p x ≡ true → is_none (option_map f (find p xs)) ≡ false)
        → is_none (option_map f (if b then Some y else find p xs)) ≡ false
    go true e t rest = refl
    go false e (inl is) rest = absurd (false≢true (sym e ∙ ap p (sym is) ∙ k))
    go false e (inr later) rest = rest later k

-- so where none is found, none that passes is there
pub none_passes : {X Y : Type 0} (f : X → Y) (p : X → Bool) (xs : List X) (x : X) → In x xs → is_none (option_map f (find p xs)) ≡ true → p x ≡ false
none_passes f p xs x there none = go (p x) refl
  where
    go : (b : Bool) → p x ≡ b → p x ≡ false
    go true e = absurd (false≢true (sym (found_in f p xs x there e) ∙ none))
    go false e = e
