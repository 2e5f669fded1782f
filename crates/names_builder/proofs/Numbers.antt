-- Labels appended one by one.
use Rattle.std.specs.Prelude.{slice_index_or}
use Rattle.std.proofs.Common.{◌≡◌, ℕ, zero, suc, ◌+◌, ◌/◌, ◌%◌, ◌<◌, List, [], ◌∷◌, ◌++◌, length, take, map, refl, sym, ap, ◌∙◌, append_assoc, arith, add-one}
use Rattle.std.specs.List.{flat_map}
use Rattle.std.proofs.lemmas.List.{append-nil}
use Rattle.definitions.specs.Name.{Name, Label}
use Rattle.names_builder.specs.Building.{Building, with_labels}

-- a builder in which no label is open
abbrev pub ended_with : Name → Building
ended_with n = record { done = n; open_label = [] }

pub is_ended : (b : Building) → b.open_label ≡ [] → b ≡ ended_with (b.done ++ [])
is_ended b h = λ i. record { done = sym (append-nil b.done) i; open_label = h i }

pub more_labels : (b : Building) (n ls : Name) → b ≡ ended_with n → with_labels b ls ≡ ended_with (n ++ ls)
more_labels b n ls e = ap (λ x. with_labels x ls) e

take_suc : (xs : List ℕ) (i : ℕ) → i < length xs → take (suc i) xs ≡ take i xs ++ slice_index_or xs i 0 ∷ []
take_suc [] i h = absurd (omega arith)
take_suc (x ∷ xs) zero h = refl
take_suc (x ∷ xs) (suc i) h = ap (λ ys. x ∷ ys) (take_suc xs i (omega arith))

flat_map-snoc : (f : ℕ → Name) (xs : List ℕ) (x : ℕ) → flat_map f (xs ++ x ∷ []) ≡ flat_map f xs ++ f x
flat_map-snoc f [] x = append-nil (f x)
flat_map-snoc f (y ∷ xs) x = ap (λ ls. f y ++ ls) (flat_map-snoc f xs x) ∙ sym (append_assoc (f y) (flat_map f xs) (f x))

map-snoc : (f : ℕ → Label) (xs : List ℕ) (x : ℕ) → map f (xs ++ x ∷ []) ≡ map f xs ++ f x ∷ []
map-snoc f [] x = refl
map-snoc f (y ∷ xs) x = ap (λ ls. f y ∷ ls) (map-snoc f xs x)

pub one_octet : (f : ℕ → Label) (xs : List ℕ) (i : ℕ) (done : Name) → i < length xs → (done ++ map f (take i xs)) ++ f (slice_index_or xs i 0) ∷ [] ≡ done ++ map f (take (i + 1) xs)
one_octet f xs i done h =
    append_assoc done (map f (take i xs)) (f (slice_index_or xs i 0) ∷ [])
    ∙ ap (λ ls. done ++ ls) (sym (ap (λ k. map f (take k xs)) (add-one i) ∙ ap (map f) (take_suc xs i h) ∙ map-snoc f (take i xs) (slice_index_or xs i 0)))

pub some_nibbles : (f : ℕ → Name) (xs : List ℕ) (i : ℕ) (done : Name) → i < length xs → (done ++ flat_map f (take i xs)) ++ f (slice_index_or xs i 0) ≡ done ++ flat_map f (take (i + 1) xs)
some_nibbles f xs i done h =
    append_assoc done (flat_map f (take i xs)) (f (slice_index_or xs i 0))
    ∙ ap (λ ls. done ++ ls) (sym (ap (λ k. flat_map f (take k xs)) (add-one i) ∙ ap (flat_map f) (take_suc xs i h) ∙ flat_map-snoc f (take i xs) (slice_index_or xs i 0)))

-- the upper four bits of an octet
pub upper : (v : ℕ) → v < 256 → v / 16 % 16 ≡ v / 16
upper v h = omega (arith, h)
