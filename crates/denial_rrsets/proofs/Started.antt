-- The first group, by the places at which groups of neighbours begin.
use Rattle.std.proofs.Common.{◌≡◌, ℕ, zero, suc, ◌+◌, ◌-◌, ◌<◌, ◌≤◌, Bool, true, false, ◌&&◌, if◌then◌else◌, List, [], ◌∷◌, length, take, drop, get_or, refl, ap, ◌∙◌, Option, Some, arith, length-drop}
use Rattle.std.specs.List.{onto_first}
use Rattle.denial_rrsets.specs.Groups.{groups}
use Rattle.denial_rrsets.specs.Starts.{AreStartsBehind, follows, later_starts, starts_behind}

module _ {A : Type 0} (alike : A → A → Bool) where
  -- how many items behind the first one are of its group
  abbrev pub more : A → List A → ℕ
  more y [] = 0
  more y (z ∷ zs) = if alike y z then suc (more z zs) else 0

  pub few_more : (y : A) (ys : List A) → more y ys ≤ length ys
  few_more y [] = omega arith
  few_more y (z ∷ zs) = go (alike y z) (few_more z zs)
    where
      go : (t : Bool) → more z zs ≤ length zs → (if t then suc (more z zs) else 0) ≤ length (z ∷ zs)
      go true h = omega arith
      go false h = omega arith

  pub first_is : (y : A) (ys : List A) → groups alike (y ∷ ys) ≡ (y ∷ take (more y ys) ys) ∷ groups alike (drop (more y ys) ys)
  first_is y [] = refl
  first_is y (z ∷ zs) = go (alike y z) (first_is z zs)
    where
      go : (t : Bool) → groups alike (z ∷ zs) ≡ (z ∷ take (more z zs) zs) ∷ groups alike (drop (more z zs) zs) → (if t then onto_first y (groups alike (z ∷ zs)) else (y ∷ []) ∷ groups alike (z ∷ zs)) ≡ (y ∷ take (if t then suc (more z zs) else 0) (z ∷ zs)) ∷ groups alike (drop (if t then suc (more z zs) else 0) (z ∷ zs))
      go true h = ap (onto_first y) h
      go false h = refl

  -- the next place, or the end
  pub next_is : (n : ℕ) (y : A) (ys : List A) (end : ℕ) → end ≡ n + length (y ∷ ys) → get_or (later_starts alike n (y ∷ ys)) 0 end ≡ n + suc (more y ys)
  next_is n y [] end e = omega arith
  next_is n y (z ∷ zs) end e = go (alike y z) (next_is (n + 1) z zs end (omega arith))
    where
      go : (t : Bool) → get_or (later_starts alike (n + 1) (z ∷ zs)) 0 end ≡ n + 1 + suc (more z zs) → get_or (if t then starts_behind alike (Some z) (n + 1 + 1) zs else (n + 1) ∷ starts_behind alike (Some z) (n + 1 + 1) zs) 0 end ≡ n + suc (if t then suc (more z zs) else 0)
      go true h = h ∙ omega arith
      go false h = omega arith

  pub rest_is : (n : ℕ) (y : A) (ys : List A) → drop 1 (later_starts alike n (y ∷ ys)) ≡ later_starts alike (n + suc (more y ys)) (drop (more y ys) ys)
  rest_is n y [] = refl
  rest_is n y (z ∷ zs) = go (alike y z) (rest_is (n + 1) z zs)
    where
      go : (t : Bool) → drop 1 (later_starts alike (n + 1) (z ∷ zs)) ≡ later_starts alike (n + 1 + suc (more z zs)) (drop (more z zs) zs) → drop 1 (if t then starts_behind alike (Some z) (n + 1 + 1) zs else (n + 1) ∷ starts_behind alike (Some z) (n + 1 + 1) zs) ≡ later_starts alike (n + suc (if t then suc (more z zs) else 0)) (drop (if t then suc (more z zs) else 0) (z ∷ zs))
      go true h = let e : n + 1 + suc (more z zs) ≡ n + suc (suc (more z zs)) = omega arith in h ∙ ap (λ k. later_starts alike k (drop (more z zs) zs)) e
      go false h = let e : n + 1 ≡ n + suc 0 = omega arith in ap (λ k. later_starts alike k (z ∷ zs)) e

  -- within the first group nothing else begins
  pub within_is : (k n : ℕ) (y : A) (ys : List A) → k ≤ more y ys → later_starts alike n (y ∷ ys) ≡ later_starts alike (n + k) (drop k (y ∷ ys))
  within_is zero n y ys l = let e : n ≡ n + 0 = omega arith in ap (λ m. later_starts alike m (y ∷ ys)) e
  within_is (suc k) n y [] l = absurd (omega arith)
  within_is (suc k) n y (z ∷ zs) l = go (alike y z) l (λ b. within_is k (n + 1) z zs b)
    where
      go : (t : Bool) → suc k ≤ (if t then suc (more z zs) else 0) → (k ≤ more z zs → later_starts alike (n + 1) (z ∷ zs) ≡ later_starts alike (n + 1 + k) (drop k (z ∷ zs))) → (if t then starts_behind alike (Some z) (n + 1 + 1) zs else (n + 1) ∷ starts_behind alike (Some z) (n + 1 + 1) zs) ≡ later_starts alike (n + suc k) (drop k (z ∷ zs))
      go true b h = let e : n + 1 + k ≡ n + suc k = omega arith in h (omega arith) ∙ ap (λ m. later_starts alike m (drop k (z ∷ zs))) e
      go false b h = absurd (omega arith)

-- one of some places at which groups of items begin, these from a place on
pub record StartAt {A : Type 0} (alike : A → A → Bool) (starts : List ℕ) (n : ℕ) (xs : List A) (m : ℕ) : Type 0 where
  pub place : ℕ
  pub is : (d : ℕ) → get_or starts m d ≡ n + place
  pub within : place < length xs
  pub behind : drop (suc m) starts ≡ later_starts alike (n + place) (drop place xs)

module _ {A : Type 0} (alike : A → A → Bool) where
  one_on : (ss : List ℕ) (n : ℕ) (x : A) (xs : List A) (m : ℕ) → StartAt alike ss (n + 1) xs m → StartAt alike ss n (x ∷ xs) m
  one_on ss n x xs m h =
      let e : n + 1 + h.place ≡ n + suc h.place = omega arith in
      record {
        place = suc h.place;
        is = λ d. h.is d ∙ e;
        within = omega arith;
        behind = h.behind ∙ ap (λ k. later_starts alike k (drop h.place xs)) e;
      }

  pub start_at : (before : Option A) (n : ℕ) (xs : List A) (m : ℕ) → m < length (starts_behind alike before n xs) → StartAt alike (starts_behind alike before n xs) n xs m
  start_at before n [] m l = absurd (omega arith)
  start_at before n (x ∷ xs) m l = go (follows alike before x) m l (λ k b. start_at (Some x) (n + 1) xs k b)
    where
      Behind : List ℕ
      Behind = starts_behind alike (Some x) (n + 1) xs

      go : (t : Bool) (m : ℕ) → m < length (if t then starts_behind alike (Some x) (n + 1) xs else n ∷ starts_behind alike (Some x) (n + 1) xs) → ((k : ℕ) → k < length (starts_behind alike (Some x) (n + 1) xs) → StartAt alike (starts_behind alike (Some x) (n + 1) xs) (n + 1) xs k) → StartAt alike (if t then starts_behind alike (Some x) (n + 1) xs else n ∷ starts_behind alike (Some x) (n + 1) xs) n (x ∷ xs) m
      go true m l h = one_on (starts_behind alike (Some x) (n + 1) xs) n x xs m (h m l)
      go false zero l h =
          let e : n ≡ n + 0 = omega arith in
          record {
            place = 0;
            is = λ d. e;
            within = omega arith;
            behind = ap (λ k. starts_behind alike (Some x) (k + 1) xs) e;
          }
      go false (suc m) l h =
          let r = one_on (starts_behind alike (Some x) (n + 1) xs) n x xs m (h m (omega arith)) in
          record { place = r.place; is = r.is; within = r.within; behind = r.behind }

  -- the first group of what is left
  pub record FirstGroup (later : List ℕ) (count : ℕ) (y : A) (ys : List A) : Type 0 where
    pub is : get_or later 0 count - (count - length (y ∷ ys)) ≡ suc (more alike y ys)
    pub behind : AreStartsBehind alike (drop 1 later) count (drop (more alike y ys) ys)

  pub first_group_is : (later : List ℕ) (count : ℕ) (y : A) (ys : List A) → AreStartsBehind alike later count (y ∷ ys) → FirstGroup later count y ys
  first_group_is later count y ys h =
      let n = count - length (y ∷ ys) in
      let few = few_more alike y ys in
      let next = ap (λ ss. get_or ss 0 count) h.1 ∙ next_is alike n y ys count (omega (arith, h.0)) in
      let left : length (drop (more alike y ys) ys) ≡ length ys - more alike y ys = length-drop (more alike y ys) ys in
      let e : n + suc (more alike y ys) ≡ count - length (drop (more alike y ys) ys) = omega (arith, h.0) in
      record {
        is = omega (arith, h.0);
        behind = (omega (arith, h.0), ap (drop 1) h.1 ∙ rest_is alike n y ys ∙ ap (λ k. later_starts alike k (drop (more alike y ys) ys)) e);
      }

-- records of one owner and type are, among those of one owner, those of one type
pub more_of_both : {A : Type 0} (p q : A → A → Bool) (y : A) (ys : List A) → more (λ a b. p a b && q a b) y ys ≡ more p y (take (more q y ys) ys)
more_of_both p q y [] = refl
more_of_both p q y (z ∷ zs) = go (q y z) (more_of_both p q z zs)
  where
    both : (s : Bool) (l r : ℕ) → l ≡ r → (if s && true then suc l else 0) ≡ (if s then suc r else 0)
    both true l r e = ap suc e
    both false l r e = refl

    none : (s : Bool) (l : ℕ) → (if s && false then suc l else 0) ≡ 0
    none true l = refl
    none false l = refl

    go : (t : Bool) → more (λ a b. p a b && q a b) z zs ≡ more p z (take (more q z zs) zs) → (if p y z && t then suc (more (λ a b. p a b && q a b) z zs) else 0) ≡ more p y (take (if t then suc (more q z zs) else 0) (z ∷ zs))
    go true h = both (p y z) (more (λ a b. p a b && q a b) z zs) (more p z (take (more q z zs) zs)) h
    go false h = none (p y z) (more (λ a b. p a b && q a b) z zs)
