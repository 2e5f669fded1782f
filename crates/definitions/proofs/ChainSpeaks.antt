-- Where one link of a chain speaks, one item of the chain does, by what stands behind it.
use Rattle.std.proofs.Common.{◌≡◌, Bool, true, false, cond, List, [], ◌∷◌, map, refl, sym, ap, inl, inr, ◌∙◌}
use Rattle.std.specs.Prelude.{filter, if◌then◌else◌}
use Rattle.std.specs.List.{AllByRecursion}
use Rattle.definitions.specs.ZoneChain.{links, behind}
use Rattle.definitions.proofs.Members.{In}

pub all_from : {X : Type 0} (P : X → Type 0) (xs : List X) → ((x : X) → In x xs → P x) → AllByRecursion P xs
all_from P [] f = tt
all_from P (x ∷ xs) f = (f x (inl refl), all_from P xs (λ y i. f y (inr i)))

-- items that are kept of a mapped list
pub filter_map : {X Y : Type 0} (p : Y → Bool) (f : X → Y) (xs : List X) → filter p (map f xs) ≡ map f (filter (λ x. p (f x)) xs)
filter_map p f [] = refl
filter_map {X} {Y} p f (x ∷ xs) =
    ap (λ ys. cond (p (f x)) (f x ∷ ys) ys) (filter_map p f xs)
    ∙ elim (p (f x)) as (λ b. let ys : List X = filter (λ x. p (f x)) xs in cond b (f x ∷ map f ys) (map f ys) ≡ map f (cond b (x ∷ ys) ys)) [
      | true ↦ refl
      | false ↦ refl
    ]

pub one_of_map : {X Y : Type 0} (f : X → Y) (xs : List X) (y : Y) → map f xs ≡ y ∷ [] → (x : X) × (xs ≡ x ∷ [])
one_of_map f [] y e = absurd cc
one_of_map f (x ∷ []) y e = (x, refl)
one_of_map f (x ∷ z ∷ xs) y e = absurd cc

module _ {A : Type 0} (eq : A → A → Bool) where
  firsts : (first : A) (xs : List A) → map (λ (l : A × A). l.0) (links first xs) ≡ xs
  firsts first [] = refl
  firsts first (a ∷ []) = refl
  firsts first (a ∷ b ∷ bs) = ap (λ ys. a ∷ ys) (firsts first (b ∷ bs))

  -- each item is unlike the later ones
  abbrev pub Apart : List A → Type 0
  Apart [] = Unit {0}
  Apart (a ∷ xs) = AllByRecursion (λ x. eq x a ≡ false) xs × Apart xs

  abbrev KeysApart : List (A × A) → Type 0
  KeysApart [] = Unit {0}
  KeysApart (l ∷ ls) = AllByRecursion (λ (m : A × A). eq m.0 l.0 ≡ false) ls × KeysApart ls

  links_all : (P : A → Type 0) (first : A) (xs : List A) → AllByRecursion P xs → AllByRecursion (λ (m : A × A). P m.0) (links first xs)
  links_all P first [] h = tt
  links_all P first (a ∷ []) h = (h.0, tt)
  links_all P first (a ∷ b ∷ bs) h = (h.0, links_all P first (b ∷ bs) h.1)

  keys_apart : (first : A) (xs : List A) → Apart xs → KeysApart (links first xs)
  keys_apart first [] h = tt
  keys_apart first (a ∷ []) h = (tt, tt)
  keys_apart first (a ∷ b ∷ bs) h = (links_all (λ x. eq x a ≡ false) first (b ∷ bs) h.0, keys_apart first (b ∷ bs) h.1)

  -- behind the keys later in the list stands what stood there without the first link
  behind_later : (d : A) (l : A × A) (ls ms : List (A × A)) → AllByRecursion (λ (m : A × A). eq m.0 l.0 ≡ false) ms → AllByRecursion (λ (m : A × A). behind eq d m.0 ls ≡ m.1) ms
      → AllByRecursion (λ (m : A × A). behind eq d m.0 (l ∷ ls) ≡ m.1) ms
  behind_later d l ls [] g h = tt
  behind_later d l ls (m ∷ ms) g h = (ap (λ b. if b then l.1 else behind eq d m.0 ls) g.0 ∙ h.0, behind_later d l ls ms g.1 h.1)

  behind_each : (d : A) (ls : List (A × A)) → ((a : A) → eq a a ≡ true) → KeysApart ls → AllByRecursion (λ (m : A × A). behind eq d m.0 ls ≡ m.1) ls
  behind_each d [] itself h = tt
  behind_each d (l ∷ ls) itself h =
      (ap (λ b. if b then l.1 else behind eq d l.0 ls) (itself l.0), behind_later d l ls ls h.0 (behind_each d ls itself h.1))

  along : (F : A → A → Bool) (next : A → A) (ls : List (A × A)) → AllByRecursion (λ (m : A × A). next m.0 ≡ m.1) ls
      → filter (λ o. F o (next o)) (map (λ (m : A × A). m.0) ls) ≡ map (λ (m : A × A). m.0) (filter (λ (m : A × A). F m.0 m.1) ls)
  along F next [] h = refl
  along F next (l ∷ ls) h =
      let right : List (A × A) = filter (λ (m : A × A). F m.0 m.1) ls in
      (λ i. cond (F l.0 (h.0 i)) (l.0 ∷ along F next ls h.1 i) (along F next ls h.1 i))
      ∙ elim (F l.0 l.1) as (λ b. cond b (l.0 ∷ map (λ (m : A × A). m.0) right) (map (λ (m : A × A). m.0) right) ≡ map (λ (m : A × A). m.0) (cond b (l ∷ right) right)) [
        | true ↦ refl
        | false ↦ refl
      ]

  -- one link speaks, so the item that it stands at does
  pub speaks_alone : (F : A → A → Bool) (d first : A) (xs : List A) → ((a : A) → eq a a ≡ true) → Apart xs → (l : A × A)
      → filter (λ (m : A × A). F m.0 m.1) (links first xs) ≡ l ∷ [] → filter (λ o. F o (behind eq d o (links first xs))) xs ≡ l.0 ∷ []
  speaks_alone F d first xs itself h l e =
      let next : A → A = λ o. behind eq d o (links first xs) in
      ap (filter (λ o. F o (next o))) (sym (firsts first xs))
      ∙ along F next (links first xs) (behind_each d (links first xs) itself (keys_apart first xs h))
      ∙ ap (map (λ (m : A × A). m.0)) e
