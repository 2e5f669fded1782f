-- Owners and names in lower case; names that are added one by one.
use Rattle.std.proofs.Common.{◌≡◌, ℕ, zero, suc, ◌+◌, ◌<◌, Bool, true, List, [], ◌∷◌, ◌++◌, length, drop, get_or, map, Some, refl, sym, ap, ◌∙◌, arith, append_assoc}
use Rattle.std.proofs.lemmas.List.{map-append}
use Rattle.std.specs.List.{list_any, slice_get}
use Rattle.std.specs.Option.{option_map}
use Rattle.definitions.specs.Name.{Name, low, wire}
use Rattle.definitions.proofs.Members.{in_contained, in_map, any_in}
use Rattle.definitions.proofs.ZoneNames.{low-low}
use Rattle.plain.specs.declared.record.Record.{Record}
use Rattle.denial_nsec3_names.specs.Walk.{spot, last_spots}
use Rattle.denial_rrsets.specs.Groups.{group_owner}

-- the owner is that of the first record
pub owner_spelled : {N D : Type 0} (name : N → Name) (g : List (Record N D)) (n : N) → Some n ≡ option_map (λ r. r.owner) (slice_get g 0) → group_owner name g ≡ low (name n)
owner_spelled name [] n e = absurd cc
owner_spelled {N} name (r ∷ g) n e = let same : n ≡ r.owner = cc in ap (λ m. low (name m)) (sym same)

low_drop : (k : ℕ) (m : Name) → low (drop k (low m)) ≡ low (drop k m)
low_drop zero m = low-low m
low_drop (suc k) [] = refl
low_drop (suc k) (l ∷ m) = low_drop k m

-- what is written of the owner
pub written_name : {N D : Type 0} (name : N → Name) (g : List (Record N D)) (n : N) (k : ℕ) → Some n ≡ option_map (λ r. r.owner) (slice_get g 0) → wire (low (drop k (name n))) ≡ wire (low (drop k (group_owner name g)))
written_name name g n k e = ap wire (sym (low_drop k (name n)) ∙ ap (λ m. low (drop k m)) (sym (owner_spelled name g n e)))

pub last_step : {G : Type 0} (k m : ℕ) (g : G) → m + 1 ≡ k → last_spots k g ≡ spot g m ∷ last_spots m g
last_step zero m g e = absurd (omega arith)
last_step (suc k) m g e = let same : k ≡ m = omega arith in ap (λ j. spot g j ∷ last_spots j g) same

pub pushed : {A B : Type 0} (f : A → B) (old new : List A) (x : A) (rest tail all : List B) → new ≡ old ++ x ∷ [] → tail ≡ f x ∷ rest → map f old ++ tail ≡ all → map f new ++ rest ≡ all
pushed f old new x rest tail all e t h =
    ap (λ ns. map f ns ++ rest) e ∙ ap (λ s. s ++ rest) (map-append f old (x ∷ [])) ∙ append_assoc (map f old) (f x ∷ []) rest ∙ ap (λ s. map f old ++ s) (sym t) ∙ h

-- a test that an item passes
pub any_at : {A B : Type 0} (p : B → Bool) (f : A → B) (xs : List A) (k : ℕ) (x : A) → k < length xs → x ≡ get_or xs k x → p (f x) ≡ true → list_any p (map f xs) ≡ true
any_at p f xs k x h e t = any_in p (map f xs) (f x) (in_map f xs x (in_contained xs x k h (sym e))) t
