-- Groups of neighbours that are alike, from the front.
use Rattle.std.proofs.Common.{◌≡◌, ℕ, zero, suc, ◌+◌, ◌<◌, Bool, true, false, if◌then◌else◌, List, [], ◌∷◌, length, take, drop, refl, sym, ap, ◌∙◌, subst, inl, inr, Some, None, arith, add-one}
use Rattle.std.specs.List.{slice_get, onto_first}
use Rattle.std.proofs.lemmas.Bool.{cases_lt}
use Rattle.std.specs.Cmp.{IsEquivalence}
use Rattle.std.specs.List.{AllByRecursion}
use Rattle.denial_rrsets.specs.Groups.{groups, IsGroup}

pub all_more : {A : Type 0} (P Q : A → Type 0) (xs : List A) → ((x : A) → P x → Q x) → AllByRecursion P xs → AllByRecursion Q xs
all_more P Q [] f h = tt
all_more P Q (x ∷ xs) f h = (f x h.0, all_more P Q xs f h.1)

module _ {A : Type 0} (alike : A → A → Bool) where
  -- neighbours up to a place are alike
  abbrev pub AlikeTo : ℕ → List A → Type 0
  AlikeTo m xs = (k : ℕ) (x y : A) → k < m → slice_get xs k ≡ Some x → slice_get xs (suc k) ≡ Some y → alike x y ≡ true

  -- the items at a place and behind it aren't
  abbrev pub StopsAt : ℕ → List A → Type 0
  StopsAt m xs = (x y : A) → slice_get xs m ≡ Some x → slice_get xs (suc m) ≡ Some y → alike x y ≡ false

  pub first_group : (xs : List A) (m : ℕ) → m < length xs → AlikeTo m xs → StopsAt m xs → groups alike xs ≡ take (suc m) xs ∷ groups alike (drop (suc m) xs)
  first_group [] m l a s = absurd (omega arith)
  first_group (x ∷ []) zero l a s = refl
  first_group (x ∷ []) (suc m) l a s = absurd (omega arith)
  first_group (x ∷ y ∷ ys) zero l a s = rw (s x y refl refl) refl
  first_group (x ∷ y ∷ ys) (suc m) l a s =
      rw (a 0 x y (omega arith) refl refl) (ap (onto_first x) (first_group (y ∷ ys) m (omega arith) (λ k u v b. a (suc k) u v (omega arith)) s))

  pub alike_more : (xs : List A) (m : ℕ) (x y : A) → AlikeTo m xs → slice_get xs m ≡ Some x → slice_get xs (m + 1) ≡ Some y → alike x y ≡ true → AlikeTo (m + 1) xs
  alike_more xs m x y a e f t k u v l p q = elim (cases_lt k m) [
    | inl b ↦ a k u v b p q
    | inr b ↦
        let same : k ≡ m = omega arith in
        let back : m + 1 ≡ suc k = omega arith in
        let first : Some u ≡ Some x = sym p ∙ ap (slice_get xs) same ∙ e in
        let second : Some v ≡ Some y = sym q ∙ ap (slice_get xs) (sym back) ∙ f in
        let one : u ≡ x = cc in
        let two : v ≡ y = cc in
        ap (λ z. alike z v) one ∙ ap (alike x) two ∙ t
  ]

  -- the same by the place behind the first
  pub group_to : (xs : List A) (m : ℕ) → m < length xs → AlikeTo m xs → StopsAt m xs → groups alike xs ≡ take (m + 1) xs ∷ groups alike (drop (m + 1) xs)
  group_to xs m l a s = rw add-one (first_group xs m l a s)

  pub stops_there : (xs : List A) (m : ℕ) (x y : A) → slice_get xs m ≡ Some x → slice_get xs (m + 1) ≡ Some y → alike x y ≡ false → StopsAt m xs
  stops_there xs m x y e f t u v p q =
      let back : m + 1 ≡ suc m = omega arith in
      let first : Some u ≡ Some x = sym p ∙ e in
      let second : Some v ≡ Some y = sym q ∙ ap (slice_get xs) (sym back) ∙ f in
      let one : u ≡ x = cc in
      let two : v ≡ y = cc in
      ap (λ z. alike z v) one ∙ ap (alike x) two ∙ t

  pub stops_end : (xs : List A) (m : ℕ) → slice_get xs (m + 1) ≡ None → StopsAt m xs
  stops_end xs m e u v p q =
      let back : m + 1 ≡ suc m = omega arith in
      let w : Some v ≡ None = sym q ∙ ap (slice_get xs) (sym back) ∙ e in
      absurd cc

-- nothing stands first in an empty list alone
pub none_first : {A : Type 0} (xs : List A) → slice_get xs 0 ≡ None → xs ≡ []
none_first [] e = refl
none_first (x ∷ xs) e = absurd cc

-- a first group that begins with an item, before other groups
pub record Headed {A : Type 0} (alike : A → A → Bool) (y : A) (gs : List (List A)) : Type 0 where
  pub rest : List A
  pub behind : List (List A)
  pub is : gs ≡ (y ∷ rest) ∷ behind
  pub like : AllByRecursion (λ z. alike y z ≡ true) rest
  pub others : AllByRecursion (IsGroup alike) behind

module _ {A : Type 0} (alike : A → A → Bool) (o : IsEquivalence alike) where
  pub headed : (y : A) (ys : List A) → Headed alike y (groups alike (y ∷ ys))
  headed y [] = record { rest = []; behind = []; is = refl; like = tt; others = tt }
  headed y (z ∷ zs) = go (alike y z) refl (headed z zs)
    where
      go : (s : Bool) → alike y z ≡ s → Headed alike z (groups alike (z ∷ zs)) → Headed alike y (if s then onto_first y (groups alike (z ∷ zs)) else (y ∷ []) ∷ groups alike (z ∷ zs))
      go true e h = record {
        rest = z ∷ h.rest;
        behind = h.behind;
        is = ap (onto_first y) h.is;
        like = (e, all_more (λ u. alike z u ≡ true) (λ u. alike y u ≡ true) h.rest (λ u k. o.congr y z u e ∙ k) h.like);
        others = h.others;
      }
      go false e h =
          let P : List (List A) → Type 0 = λ gs. AllByRecursion (IsGroup alike) gs in
          record {
            rest = [];
            behind = groups alike (z ∷ zs);
            is = refl;
            like = tt;
            others = subst P (sym h.is) (h.like, h.others);
          }

  pub all_groups : (xs : List A) → AllByRecursion (IsGroup alike) (groups alike xs)
  all_groups [] = tt
  all_groups (x ∷ xs) =
      let h = headed x xs in
      let P : List (List A) → Type 0 = λ gs. AllByRecursion (IsGroup alike) gs in
      subst P (sym h.is) (h.like, h.others)

  pub first_is_group : (xs g : List A) (gs : List (List A)) → groups alike xs ≡ g ∷ gs → IsGroup alike g
  first_is_group xs g gs e =
      let P : List (List A) → Type 0 = λ gs. AllByRecursion (IsGroup alike) gs in
      let all : AllByRecursion (IsGroup alike) (g ∷ gs) = subst P e (all_groups xs) in
      all.0
