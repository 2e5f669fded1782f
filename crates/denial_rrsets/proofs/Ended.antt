-- The first owner and the first RRset of records, by the places at which owners begin.
use Rattle.std.proofs.Common.{◌≡◌, ◌≢◌, ℕ, suc, ◌+◌, ◌-◌, ◌<◌, ◌≤◌, Bool, true, false, ◌&&◌, nat_eq, if◌then◌else◌, List, [], ◌∷◌, length, take, drop, get_or, refl, sym, ap, ◌∙◌, subst, arith, length-drop, inl, inr}
use Rattle.std.proofs.lemmas.List.{length-take-le}
use Rattle.std.proofs.lemmas.Bool.{cases_lt, eqb-true, eqb-false}
use Rattle.std.specs.Cmp.{IsEquivalence}
use Rattle.denial_rrsets.specs.Ends.{first_count}
use Rattle.denial_rrsets.specs.Groups.{IsGroup, groups}
use Rattle.denial_rrsets.specs.Starts.{AreStartsBehind, later_starts}
use Rattle.denial_rrsets.proofs.Grouped.{first_is_group}
use Rattle.denial_rrsets.proofs.Started.{few_more, first_group_is, first_is, more, more_of_both, within_is}

first_count_is : (later : List ℕ) (count left : ℕ) → left ≤ count → first_count later count left ≡ get_or later 0 count - (count - left)
first_count_is [] count left l = omega arith
first_count_is (s ∷ ss) count left l = refl

module _ {A : Type 0} (alike : A → A → Bool) where
  -- the first group, so many items, and what begins behind it
  pub record OwnerSplit (later : List ℕ) (count n : ℕ) (xs : List A) : Type 0 where
    pub some : 0 < n
    pub few : n ≤ length xs
    pub parts : groups alike xs ≡ take n xs ∷ groups alike (drop n xs)
    pub ends : AreStartsBehind alike (drop 1 later) count (drop n xs)

  pub owner_split : (later : List ℕ) (count : ℕ) (xs : List A) → AreStartsBehind alike later count xs → length xs ≢ 0 → OwnerSplit later count (first_count later count (length xs)) xs
  owner_split later count [] h n = absurd (n refl)
  owner_split later count (y ∷ ys) h n =
      let f = first_group_is alike later count y ys h in
      let few = few_more alike y ys in
      let e : first_count later count (length (y ∷ ys)) ≡ suc (more alike y ys) = first_count_is later count (length (y ∷ ys)) h.0 ∙ f.is in
      let P : ℕ → Type 0 = λ k. groups alike (y ∷ ys) ≡ take k (y ∷ ys) ∷ groups alike (drop k (y ∷ ys)) in
      let Q : ℕ → Type 0 = λ k. AreStartsBehind alike (drop 1 later) count (drop k (y ∷ ys)) in
      record {
        some = omega arith;
        few = omega arith;
        parts = subst P (sym e) (first_is alike y ys);
        ends = subst Q (sym e) f.behind;
      }

module _ {A : Type 0} (p q : A → A → Bool) (o : IsEquivalence (λ a b. p a b && q a b)) where
  -- of the first group of one kind those alike in another way too
  pub record SetSplit (later : List ℕ) (count n k : ℕ) (xs : List A) : Type 0 where
    pub few : k ≤ length xs
    pub group : IsGroup (λ a b. p a b && q a b) (take k xs)
    pub parts : groups (λ a b. p a b && q a b) xs ≡ take k xs ∷ groups (λ a b. p a b && q a b) (drop k xs)
    pub ends : AreStartsBehind q (if nat_eq k n then drop 1 later else later) count (drop k xs)

  pub set_split : (later : List ℕ) (count : ℕ) (xs set : List A) (others : List (List A)) → AreStartsBehind q later count xs → length xs ≢ 0 → groups p (take (first_count later count (length xs)) xs) ≡ set ∷ others → SetSplit later count (first_count later count (length xs)) (length set) xs
  set_split later count [] set others h n g = absurd (n refl)
  set_split later count (y ∷ ys) set others h n g =
      let m = more q y ys in
      let front = take m ys in
      let both = λ (a b : A). p a b && q a b in
      let f = first_group_is q later count y ys h in
      let few = few_more q y ys in
      let size : length front ≡ m = length-take-le m ys few in
      let fewer = few_more p y front in
      let e : first_count later count (length (y ∷ ys)) ≡ suc m = first_count_is later count (length (y ∷ ys)) h.0 ∙ f.is in
      let there : groups p (y ∷ front) ≡ set ∷ others = ap (λ k. groups p (take k (y ∷ ys))) (sym e) ∙ g in
      let heads : (y ∷ take (more p y front) front) ∷ groups p (drop (more p y front) front) ≡ set ∷ others = sym (first_is p y front) ∙ there in
      let is : y ∷ take (more p y front) front ≡ set = cc in
      let same : more both y ys ≡ more p y front = more_of_both p q y ys in
      let taken : length (take (more p y front) front) ≡ more p y front = length-take-le (more p y front) front fewer in
      let k : length set ≡ suc (more both y ys) = ap length (sym is) ∙ ap suc (taken ∙ sym same) in
      let P : ℕ → Type 0 = λ i. groups both (y ∷ ys) ≡ take i (y ∷ ys) ∷ groups both (drop i (y ∷ ys)) in
      let parts : groups both (y ∷ ys) ≡ take (length set) (y ∷ ys) ∷ groups both (drop (length set) (y ∷ ys)) = subst P (sym k) (first_is both y ys) in
      record {
        few = omega arith;
        group = first_is_group both o (y ∷ ys) (take (length set) (y ∷ ys)) (groups both (drop (length set) (y ∷ ys))) parts;
        parts = parts;
        ends = ending (nat_eq (length set) (first_count later count (length (y ∷ ys)))) refl (omega arith) e f.behind;
      }
    where
      ending : (t : Bool) → nat_eq (length set) (first_count later count (length (y ∷ ys))) ≡ t → length set ≤ suc (more q y ys) → first_count later count (length (y ∷ ys)) ≡ suc (more q y ys) → AreStartsBehind q (drop 1 later) count (drop (more q y ys) ys) → AreStartsBehind q (if t then drop 1 later else later) count (drop (length set) (y ∷ ys))
      ending true c l e b =
          let P : ℕ → Type 0 = λ k. AreStartsBehind q (drop 1 later) count (drop k (y ∷ ys)) in
          let all : suc (more q y ys) ≡ length set = sym (eqb-true (length set) (first_count later count (length (y ∷ ys))) c ∙ e) in
          subst P all b
      ending false c l e b =
          let k = length set in
          let apart : k ≡ suc (more q y ys) → ⊥ = λ w. eqb-false k (first_count later count (length (y ∷ ys))) c (w ∙ sym e) in
          let less : k ≤ more q y ys = lower k (more q y ys) l apart in
          let few = few_more q y ys in
          let size = length-drop k (y ∷ ys) in
          let w = h.0 in
          let at : count - length (y ∷ ys) + k ≡ count - length (drop k (y ∷ ys)) = omega arith in (
            omega arith,
            h.1 ∙ within_is q k (count - length (y ∷ ys)) y ys less ∙ ap (λ i. later_starts q i (drop k (y ∷ ys))) at,
          )
        where
          lower : (a b : ℕ) → a ≤ suc b → (a ≡ suc b → ⊥) → a ≤ b
          lower a b l n = elim (cases_lt b a) [ inl m ↦ absurd (n (omega arith)) | inr m ↦ m ]

  -- the same by the items of that group
  pub set_split_at : (later : List ℕ) (count : ℕ) (xs : List A) → AreStartsBehind q later count xs → length xs ≢ 0 → (n : ℕ) → n ≡ first_count later count (length xs) → (front set : List A) (others : List (List A)) → front ≡ take n xs → groups p front ≡ set ∷ others → SetSplit later count (first_count later count (length xs)) (length set) xs
  set_split_at later count xs h some n e front set others f g = set_split later count xs set others h some (ap (λ k. groups p (take k xs)) (sym e) ∙ ap (groups p) (sym f) ∙ g)
