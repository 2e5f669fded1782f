-- Lists, their items, and tests of them.
use Rattle.std.proofs.lemmas.List.{map-id, take_more}
use Rattle.std.proofs.Common.{◌++◌, take, ◌≡◌, ℕ, ◌+◌, ◌<◌, length, drop, get_or, arith, add-one, drop-cons, Bool, true, false, ◌||◌, not, eqb, Some, List, [], ◌∷◌, map, ◌⊎◌, inl, inr, refl, sym, ap, subst, ◌∙◌, ⊎_elim, cond, Ordering}
use Rattle.std.specs.declared.cmp.Ordering.TheVariants.{Less, Equal, Greater}
use Rattle.std.specs.List.{list_any, AllByRecursion, AllZip, filter}
use Rattle.std.proofs.lemmas.Slice.Zip.{AllZip-map}
use Rattle.std.proofs.lemmas.Bool.{or_cases, or_parts, or_left, or_right, false≢true, not-false}
use Rattle.definitions.specs.Sorting.{put_by, put_all_by, sort_by}

-- what stands from a place on
pub items_from : {A : Type 0} (rs : List A) (i : ℕ) (r : A) → i < length rs → r ≡ get_or rs i r → drop i rs ≡ r ∷ drop (i + 1) rs
items_from rs i r h e = drop-cons rs i r h ∙ (λ j. sym e j ∷ drop (sym (add-one i) j) rs)

-- a list has an item
abbrev pub Has : {A : Type 0} → List A → A → Type 0
Has [] a = ⊥
Has (x ∷ xs) a = (a ≡ x) ⊎ Has xs a

pub found : {A : Type 0} (p : A → Bool) (xs : List A) → list_any p xs ≡ true → (a : A) × Has xs a × (p a ≡ true)
found p [] e = absurd (false≢true e)
found p (x ∷ xs) e = ⊎_elim (λ h. (x, inl refl, h)) (λ h. let f = found p xs h in (f.0, inr f.1, f.2)) (or_cases (p x) (list_any p xs) e)

pub any_from : {A : Type 0} (p : A → Bool) (xs : List A) (a : A) → Has xs a → p a ≡ true → list_any p xs ≡ true
any_from p [] a h e = absurd h
any_from p (x ∷ xs) a h e = ⊎_elim (λ q. or_left (p x) _ (ap p (sym q) ∙ e)) (λ k. or_right (p x) _ (any_from p xs a k e)) h

pub all_at : {A : Type 0} (P : A → Type 0) (xs : List A) (a : A) → AllByRecursion P xs → Has xs a → P a
all_at P [] a p h = absurd h
all_at P (x ∷ xs) a p h = ⊎_elim (λ e. subst P (sym e) p.0) (λ k. all_at P xs a p.1 k) h

pub list_any-map : {A B : Type 0} (p : B → Bool) (f : A → B) (xs : List A) → list_any p (map f xs) ≡ list_any (λ x. p (f x)) xs
list_any-map p f [] = refl
list_any-map p f (x ∷ xs) = ap (λ b. p (f x) || b) (list_any-map p f xs)

pub all_fail : {A : Type 0} (p : A → Bool) (xs : List A) → list_any p xs ≡ false → AllByRecursion (λ x. p x ≡ false) xs
all_fail p [] e = tt
all_fail p (x ∷ xs) e = let h = or_parts (p x) (list_any p xs) e in (h.0, all_fail p xs h.1)

pub all_pass : {A : Type 0} (p : A → Bool) (xs : List A) → list_any (λ x. not (p x)) xs ≡ false → AllByRecursion (λ x. p x ≡ true) xs
all_pass p [] e = tt
all_pass p (x ∷ xs) e = let h = or_parts (not (p x)) (list_any (λ x. not (p x)) xs) e in (not-false (p x) h.0, all_pass p xs h.1)

pub filter_all : {A : Type 0} (p : A → Bool) (xs : List A) → AllByRecursion (λ x. p x ≡ true) xs → filter p xs ≡ xs
filter_all p [] h = refl
filter_all p (x ∷ xs) h = ap (λ b. cond b (x ∷ filter p xs) (filter p xs)) h.0 ∙ ap (λ ys. x ∷ ys) (filter_all p xs h.1)

pub all_more : {A : Type 0} (P Q : A → Type 0) (xs : List A) → ((x : A) → P x → Q x) → AllByRecursion P xs → AllByRecursion Q xs
all_more P Q [] f h = tt
all_more P Q (x ∷ xs) f h = (f x h.0, all_more P Q xs f h.1)

pub all_put : {A : Type 0} (P : A → Type 0) (cmp : A → A → Ordering) (a : A) (xs : List A) → P a → AllByRecursion P xs → AllByRecursion P (put_by cmp a xs)
all_put P cmp a [] p h = (p, tt)
all_put P cmp a (x ∷ xs) p h =
    elim (cmp a x) as (λ o. AllByRecursion P (elim o [ Less ↦ a ∷ x ∷ xs | Equal ↦ x ∷ xs | Greater ↦ x ∷ put_by cmp a xs ])) [
      | Less ↦ (p, h)
      | Equal ↦ h
      | Greater ↦ (h.0, all_put P cmp a xs p h.1)
    ]

all_put_all : {A : Type 0} (P : A → Type 0) (cmp : A → A → Ordering) (into xs : List A) → AllByRecursion P into → AllByRecursion P xs → AllByRecursion P (put_all_by cmp into xs)
all_put_all P cmp into [] h k = h
all_put_all P cmp into (x ∷ xs) h k = all_put_all P cmp (put_by cmp x into) xs (all_put P cmp x into k.0 h) k.1

-- what holds of each item holds of each of those in order
pub all_sorted : {A : Type 0} (P : A → Type 0) (cmp : A → A → Ordering) (xs : List A) → AllByRecursion P xs → AllByRecursion P (sort_by cmp xs)
all_sorted P cmp xs h = all_put_all P cmp [] xs tt h

-- a test of what stands from a place on
pub any_past : {X Y : Type 0} (f : X → Y) (p : Y → Bool) (xs : List X) (i : ℕ) (x : X) → i < length xs → x ≡ get_or xs i x → p (f x) ≡ false → list_any p (map f (drop (i + 1) xs)) ≡ list_any p (map f (drop i xs))
any_past f p xs i x h e n = sym (ap (λ ys. list_any p (map f ys)) (items_from xs i x h e) ∙ ap (λ b. b || list_any p (map f (drop (i + 1) xs))) n)

pub any_found : {X Y : Type 0} (f : X → Y) (p : Y → Bool) (xs : List X) (i : ℕ) (x : X) → i < length xs → x ≡ get_or xs i x → p (f x) ≡ true → list_any p (map f (drop i xs)) ≡ true
any_found f p xs i x h e n = ap (λ ys. list_any p (map f ys)) (items_from xs i x h e) ∙ ap (λ b. b || list_any p (map f (drop (i + 1) xs))) n

-- one item more from the front
pub take_next : {X : Type 0} (xs : List X) (i : ℕ) (x : X) → i < length xs → x ≡ get_or xs i x → take (i + 1) xs ≡ take i xs ++ x ∷ []
take_next xs i x h e = take_more xs i x h ∙ ap (λ v. take i xs ++ v ∷ []) (sym e)

-- a copy of octets is the same octets
pub same_octets : (xs ys : List ℕ) → AllZip (λ x y. y ≡ x) xs ys → ys ≡ xs
same_octets xs ys each = AllZip-map (λ x. x) xs ys each ∙ map-id xs

pub zip_append : {A B : Type 0} (R : A → B → Type 0) (xs : List A) (ys : List B) (zs : List A) (ws : List B) → AllZip R xs ys → AllZip R zs ws → AllZip R (xs ++ zs) (ys ++ ws)
zip_append R [] [] zs ws h k = k
zip_append R (x ∷ xs) (y ∷ ys) zs ws h k = (h.0, zip_append R xs ys zs ws h.1 k)
zip_append R [] (y ∷ ys) zs ws h k = absurd h
zip_append R (x ∷ xs) [] zs ws h k = absurd h

pub map-map : {A B C : Type 0} (g : B → C) (f : A → B) (xs : List A) → map g (map f xs) ≡ map (λ x. g (f x)) xs
map-map g f [] = refl
map-map g f (x ∷ xs) = ap (λ ys. g (f x) ∷ ys) (map-map g f xs)

-- ---- tests and options

pub both_ways : (a b : Bool) → (a ≡ true → b ≡ true) → (b ≡ true → a ≡ true) → a ≡ b
both_ways true b f g = sym (f refl)
both_ways false true f g = g refl
both_ways false false f g = refl

pub eqb-back : (a b : ℕ) → eqb a b ≡ eqb b a
eqb-back a b = grind arith

pub some_is : {A : Type 0} (a b : A) → Some a ≡ Some b → a ≡ b
some_is a b e = cc
