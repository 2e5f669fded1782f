-- Where groups begin once an item has come in, or some have gone.
use Rattle.std.proofs.Common.{◌≡◌, ℕ, zero, suc, ◌+◌, ◌<◌, ◌≤◌, Bool, true, false, if◌then◌else◌, nat_lt, List, [], ◌∷◌, ◌++◌, length, map, take, drop, get_or, insert, slice_set, refl, sym, ap, ◌∙◌, subst, Option, Some, None, arith, length-drop}
use Rattle.std.proofs.lemmas.List.{length-take-le, take-append-drop}
use Rattle.std.proofs.lemmas.Bool.{lt-ltb, le-ltb, both_ways}
use Rattle.std.specs.Cmp.{IsEquivalence}
use Rattle.std.specs.List.{AllByRecursion, slice_get}
use Rattle.std.specs.List.Sorted.{IsPartitionedBy, IsPartitionPoint}
use Rattle.denial_sorted.specs.declared.starts.Neighbour.TheVariants.{Before, Behind, Neither}
use Rattle.denial_sorted.specs.Neighbour.{IsApartAt, are_neighbours, before_at, joins, leads, moved}
use Rattle.denial_rrsets.specs.Starts.{follows, starts_behind, starts_in}
use Rattle.denial_rrsets.proofs.Grouped.{all_more}

-- the last of some items, or else what stands before them
abbrev last_of : {A : Type 0} → Option A → List A → Option A
last_of before [] = before
last_of before (x ∷ xs) = last_of (Some x) xs

abbrev head_of : {A : Type 0} → List A → Option A
head_of [] = None
head_of (x ∷ xs) = Some x

last_before : {A : Type 0} (before : Option A) (x : A) (xs : List A) (n : ℕ) → n ≤ length xs → last_of before (take (suc n) (x ∷ xs)) ≡ slice_get (x ∷ xs) n
last_before before x xs zero l = refl
last_before before x [] (suc n) l = absurd (omega arith)
last_before before x (y ∷ ys) (suc n) l = last_before (Some x) y ys n (omega arith)

last_taken : {A : Type 0} (xs : List A) (n : ℕ) → n ≤ length xs → last_of None (take n xs) ≡ before_at xs n
last_taken xs zero l = refl
last_taken [] (suc n) l = absurd (omega arith)
last_taken (x ∷ xs) (suc n) l = last_before None x xs n (omega arith)

head_dropped : {A : Type 0} (xs : List A) (n : ℕ) → head_of (drop n xs) ≡ slice_get xs n
head_dropped [] zero = refl
head_dropped [] (suc n) = refl
head_dropped (x ∷ xs) zero = refl
head_dropped (x ∷ xs) (suc n) = head_dropped xs n

module _ {A : Type 0} (alike : A → A → Bool) where
  pub shifted : (before : Option A) (n : ℕ) (xs : List A) → starts_behind alike before (n + 1) xs ≡ map (λ s. s + 1) (starts_behind alike before n xs)
  shifted before n [] = refl
  shifted before n (x ∷ xs) = go (follows alike before x) (shifted (Some x) (n + 1) xs)
    where
      go : (t : Bool) → starts_behind alike (Some x) (n + 1 + 1) xs ≡ map (λ s. s + 1) (starts_behind alike (Some x) (n + 1) xs) → (if t then starts_behind alike (Some x) (n + 1 + 1) xs else (n + 1) ∷ starts_behind alike (Some x) (n + 1 + 1) xs) ≡ map (λ s. s + 1) (if t then starts_behind alike (Some x) (n + 1) xs else n ∷ starts_behind alike (Some x) (n + 1) xs)
      go true h = h
      go false h = ap (λ ss. (n + 1) ∷ ss) h

  pub parted : (before : Option A) (n : ℕ) (fs bs : List A) → starts_behind alike before n (fs ++ bs) ≡ starts_behind alike before n fs ++ starts_behind alike (last_of before fs) (n + length fs) bs
  parted before n [] bs = let e : n ≡ n + 0 = omega arith in ap (λ k. starts_behind alike before k bs) e
  parted before n (f ∷ fs) bs = go (follows alike before f) (parted (Some f) (n + 1) fs bs)
    where
      Rest : ℕ → List ℕ
      Rest k = starts_behind alike (last_of (Some f) fs) k bs

      e : n + 1 + length fs ≡ n + length (f ∷ fs)
      e = omega arith

      go : (t : Bool) → starts_behind alike (Some f) (n + 1) (fs ++ bs) ≡ starts_behind alike (Some f) (n + 1) fs ++ starts_behind alike (last_of (Some f) fs) (n + 1 + length fs) bs → (if t then starts_behind alike (Some f) (n + 1) (fs ++ bs) else n ∷ starts_behind alike (Some f) (n + 1) (fs ++ bs)) ≡ (if t then starts_behind alike (Some f) (n + 1) fs else n ∷ starts_behind alike (Some f) (n + 1) fs) ++ starts_behind alike (last_of (Some f) fs) (n + length (f ∷ fs)) bs
      go true h = h ∙ ap (λ k. starts_behind alike (Some f) (n + 1) fs ++ starts_behind alike (last_of (Some f) fs) k bs) e
      go false h = ap (λ ss. n ∷ ss) (h ∙ ap (λ k. starts_behind alike (Some f) (n + 1) fs ++ starts_behind alike (last_of (Some f) fs) k bs) e)

  pub few_starts : (before : Option A) (n : ℕ) (xs : List A) → length (starts_behind alike before n xs) ≤ length xs
  few_starts before n [] = omega arith
  few_starts before n (x ∷ xs) = go (follows alike before x) (few_starts (Some x) (n + 1) xs)
    where
      go : (t : Bool) → length (starts_behind alike (Some x) (n + 1) xs) ≤ length xs → length (if t then starts_behind alike (Some x) (n + 1) xs else n ∷ starts_behind alike (Some x) (n + 1) xs) ≤ length (x ∷ xs)
      go true h = omega arith
      go false h = omega arith

  pub starts_from : (before : Option A) (n : ℕ) (xs : List A) → AllByRecursion (λ s. n ≤ s) (starts_behind alike before n xs)
  starts_from before n [] = tt
  starts_from before n (x ∷ xs) = go (follows alike before x) (all_more (λ s. n + 1 ≤ s) (λ s. n ≤ s) (starts_behind alike (Some x) (n + 1) xs) (λ s l. omega arith) (starts_from (Some x) (n + 1) xs))
    where
      go : (t : Bool) → AllByRecursion (λ s. n ≤ s) (starts_behind alike (Some x) (n + 1) xs) → AllByRecursion (λ s. n ≤ s) (if t then starts_behind alike (Some x) (n + 1) xs else n ∷ starts_behind alike (Some x) (n + 1) xs)
      go true h = h
      go false h = (omega arith, h)

  pub starts_below : (before : Option A) (n : ℕ) (xs : List A) (end : ℕ) → n + length xs ≤ end → AllByRecursion (λ s. s < end) (starts_behind alike before n xs)
  starts_below before n [] end l = tt
  starts_below before n (x ∷ xs) end l = go (follows alike before x) (starts_below (Some x) (n + 1) xs end (omega arith))
    where
      go : (t : Bool) → AllByRecursion (λ s. s < end) (starts_behind alike (Some x) (n + 1) xs) → AllByRecursion (λ s. s < end) (if t then starts_behind alike (Some x) (n + 1) xs else n ∷ starts_behind alike (Some x) (n + 1) xs)
      go true h = h
      go false h = (omega arith, h)

-- places below another, and places from it on
module _ (n : ℕ) where
  at_of_all : (P : ℕ → Type 0) (ss : List ℕ) (i d : ℕ) → AllByRecursion P ss → i < length ss → P (get_or ss i d)
  at_of_all P [] i d h l = absurd (omega arith)
  at_of_all P (s ∷ ss) zero d h l = h.0
  at_of_all P (s ∷ ss) (suc i) d h l = at_of_all P ss i d h.1 (omega arith)

  none_from : (ss : List ℕ) (i d : ℕ) → AllByRecursion (λ s. n ≤ s) ss → i < length ss → nat_lt (get_or ss i d) n ≡ true → ⊥
  none_from ss i d h l e = let a = at_of_all (λ s. n ≤ s) ss i d h l in both_ways (nat_lt (get_or ss i d) n) (le-ltb (get_or ss i d) n a) e

  pub are_parted : (front back : List ℕ) → AllByRecursion (λ s. s < n) front → AllByRecursion (λ s. n ≤ s) back → IsPartitionedBy (λ s. nat_lt s n) (front ++ back)
  are_parted [] back f b i j d l m e = absurd (none_from back j d b m e)
  are_parted (s ∷ front) back f b zero j d l m e = lt-ltb s n f.0
  are_parted (s ∷ front) back f b (suc i) zero d l m e = absurd (omega arith)
  are_parted (s ∷ front) back f b (suc i) (suc j) d l m e = are_parted front back f.1 b i j d (omega arith) (omega arith) e

  pub cut_at : (front back : List ℕ) (i : ℕ) → AllByRecursion (λ s. s < n) front → AllByRecursion (λ s. n ≤ s) back → i ≤ length (front ++ back) → IsPartitionPoint (λ s. nat_lt s n ≡ true) (λ s. nat_lt s n ≡ false) (front ++ back) i → (take i (front ++ back) ≡ front) × (drop i (front ++ back) ≡ back)
  cut_at [] back zero f b l h = (refl, refl)
  cut_at [] back (suc i) f b l h = absurd (none_from back 0 0 b (omega arith) (h.0 0 0 (omega arith) (omega arith)))
  cut_at (s ∷ front) back zero f b l h = absurd (both_ways (nat_lt s n) (h.1 0 0 (omega arith) (omega arith)) (lt-ltb s n f.0))
  cut_at (s ∷ front) back (suc i) f b l h =
      let rest = cut_at front back i f.1 b (omega arith) ((λ k d p q. h.0 (suc k) d (omega arith) (omega arith)), (λ k d p q. h.1 (suc k) d (omega arith) (omega arith))) in
      (ap (λ ss. s ∷ ss) rest.0, rest.1)

module _ {A : Type 0} (alike : A → A → Bool) (o : IsEquivalence alike) where
  like_before : (before : Option A) (p : ℕ) (a : A) (bs : List A) → follows alike before a ≡ true → starts_behind alike (Some a) p bs ≡ starts_behind alike before p bs
  like_before before p a [] e = refl
  like_before None p a (b ∷ bs) e = absurd cc
  like_before (Some x) p a (b ∷ bs) e = ap (λ t. if t then starts_behind alike (Some b) (p + 1) bs else p ∷ starts_behind alike (Some b) (p + 1) bs) (sym (o.congr x a b e))

  unlike_before : (before : Option A) (a b : A) → follows alike before a ≡ false → alike a b ≡ true → follows alike before b ≡ false
  unlike_before None a b f e = refl
  unlike_before (Some x) a b f e = o.symm x b ∙ sym (o.congr a b x e) ∙ o.symm a x ∙ f

  in_before : (before : Option A) (p : ℕ) (a : A) (bs : List A) → follows alike before a ≡ true → starts_behind alike before p (a ∷ bs) ≡ map (λ s. s + 1) (starts_behind alike before p bs)
  in_before before p a bs e =
      ap (λ t. if t then starts_behind alike (Some a) (p + 1) bs else p ∷ starts_behind alike (Some a) (p + 1) bs) e
      ∙ shifted alike (Some a) p bs ∙ ap (map (λ s. s + 1)) (like_before before p a bs e)

  in_behind : (before : Option A) (p : ℕ) (a : A) (bs : List A) → follows alike before a ≡ false → leads alike a (head_of bs) ≡ true → (starts_behind alike before p (a ∷ bs) ≡ p ∷ map (λ s. s + 1) (drop 1 (starts_behind alike before p bs))) × (0 < length (starts_behind alike before p bs))
  in_behind before p a [] f e = absurd cc
  in_behind before p a (b ∷ bs) f e =
      let g = unlike_before before a b f e in
      let same : starts_behind alike before p (b ∷ bs) ≡ p ∷ starts_behind alike (Some b) (p + 1) bs = ap (λ t. if t then starts_behind alike (Some b) (p + 1) bs else p ∷ starts_behind alike (Some b) (p + 1) bs) g in (
        ap (λ t. if t then starts_behind alike (Some a) (p + 1) (b ∷ bs) else p ∷ starts_behind alike (Some a) (p + 1) (b ∷ bs)) f
            ∙ ap (λ t. p ∷ (if t then starts_behind alike (Some b) (p + 1 + 1) bs else (p + 1) ∷ starts_behind alike (Some b) (p + 1 + 1) bs)) e
            ∙ ap (λ ss. p ∷ ss) (shifted alike (Some b) (p + 1) bs)
            ∙ ap (λ ss. p ∷ map (λ s. s + 1) (drop 1 ss)) (sym same),
        let P : List ℕ → Type 0 = λ ss. 0 < length ss in subst P (sym same) (omega arith),
      )

  in_neither : (before : Option A) (p : ℕ) (a : A) (bs : List A) → follows alike before a ≡ false → leads alike a (head_of bs) ≡ false → are_neighbours alike before (head_of bs) ≡ false → starts_behind alike before p (a ∷ bs) ≡ p ∷ map (λ s. s + 1) (starts_behind alike before p bs)
  in_neither before p a [] f l k = ap (λ t. if t then [] else p ∷ []) f
  in_neither before p a (b ∷ bs) f l k =
      let g : follows alike before b ≡ false = unled before k in
      ap (λ t. if t then starts_behind alike (Some a) (p + 1) (b ∷ bs) else p ∷ starts_behind alike (Some a) (p + 1) (b ∷ bs)) f
      ∙ ap (λ t. p ∷ (if t then starts_behind alike (Some b) (p + 1 + 1) bs else (p + 1) ∷ starts_behind alike (Some b) (p + 1 + 1) bs)) l
      ∙ ap (λ ss. p ∷ (p + 1) ∷ ss) (shifted alike (Some b) (p + 1) bs)
      ∙ ap (λ t. p ∷ map (λ s. s + 1) (if t then starts_behind alike (Some b) (p + 1) bs else p ∷ starts_behind alike (Some b) (p + 1) bs)) (sym g)
    where
      unled : (before : Option A) → are_neighbours alike before (Some b) ≡ false → follows alike before b ≡ false
      unled None k = refl
      unled (Some x) k = k

  -- the places before an item that comes in, and those behind it
  pub record Cut (xs : List A) (p : ℕ) : Type 0 where
    pub front : List ℕ
    pub back : List ℕ
    pub is : starts_in alike xs ≡ front ++ back
    pub below : AllByRecursion (λ s. s < p) front
    pub from : AllByRecursion (λ s. p ≤ s) back
    pub after : (a : A) → IsApartAt alike xs p a → starts_in alike (insert xs p a) ≡ moved (joins alike xs p a) p front back
    pub some : (a : A) → joins alike xs p a ≡ Behind → 0 < length back

  pub cut : (xs : List A) (p : ℕ) → p ≤ length xs → Cut xs p
  cut xs p l =
      let fs = take p xs in
      let bs = drop p xs in
      let count : length fs ≡ p = length-take-le p xs l in
      let last : last_of None fs ≡ before_at xs p = last_taken xs p l in
      let next : head_of bs ≡ slice_get xs p = head_dropped xs p in
      let at : 0 + length fs ≡ p = omega arith in
      let behind : (zs : List A) → starts_behind alike (last_of None fs) (0 + length fs) zs ≡ starts_behind alike (before_at xs p) p zs = λ (zs : List A). ap (λ b. starts_behind alike b (0 + length fs) zs) last ∙ ap (λ k. starts_behind alike (before_at xs p) k zs) at in
      let front = starts_behind alike None 0 fs in
      let back = starts_behind alike (before_at xs p) p bs in
      record {
        front = front;
        back = back;
        is = ap (starts_in alike) (sym (take-append-drop p xs)) ∙ parted alike None 0 fs bs ∙ ap (λ ss. front ++ ss) (behind bs);
        below = starts_below alike None 0 fs p (omega arith);
        from = starts_from alike (before_at xs p) p bs;
        after = λ a h. parted alike None 0 fs (a ∷ bs) ∙ ap (λ ss. front ++ ss) (behind (a ∷ bs)) ∙ go a h (follows alike (before_at xs p) a) refl (leads alike a (slice_get xs p)) refl;
        some = λ a h. there a (follows alike (before_at xs p) a) refl (leads alike a (slice_get xs p)) refl h;
      }
    where
      go : (a : A) → IsApartAt alike xs p a → (t : Bool) → follows alike (before_at xs p) a ≡ t → (s : Bool) → leads alike a (slice_get xs p) ≡ s → starts_behind alike None 0 (take p xs) ++ starts_behind alike (before_at xs p) p (a ∷ drop p xs) ≡ moved (joins alike xs p a) p (starts_behind alike None 0 (take p xs)) (starts_behind alike (before_at xs p) p (drop p xs))
      go a h true e s f =
          let neighbour : joins alike xs p a ≡ Before = ap (λ t. if t then Before else if leads alike a (slice_get xs p) then Behind else Neither) e in
          ap (λ ss. starts_behind alike None 0 (take p xs) ++ ss) (in_before (before_at xs p) p a (drop p xs) e)
          ∙ ap (λ k. moved k p (starts_behind alike None 0 (take p xs)) (starts_behind alike (before_at xs p) p (drop p xs))) (sym neighbour)
      go a h false e true f =
          let neighbour : joins alike xs p a ≡ Behind = ap (λ t. if t then Before else if leads alike a (slice_get xs p) then Behind else Neither) e ∙ ap (λ t. if t then Behind else Neither) f in
          let next = ap (leads alike a) (head_dropped xs p) ∙ f in
          ap (λ ss. starts_behind alike None 0 (take p xs) ++ ss) (in_behind (before_at xs p) p a (drop p xs) e next).0
          ∙ ap (λ k. moved k p (starts_behind alike None 0 (take p xs)) (starts_behind alike (before_at xs p) p (drop p xs))) (sym neighbour)
      go a h false e false f =
          let neighbour : joins alike xs p a ≡ Neither = ap (λ t. if t then Before else if leads alike a (slice_get xs p) then Behind else Neither) e ∙ ap (λ t. if t then Behind else Neither) f in
          let next = ap (leads alike a) (head_dropped xs p) ∙ f in
          let apart = ap (are_neighbours alike (before_at xs p)) (head_dropped xs p) ∙ h neighbour in
          ap (λ ss. starts_behind alike None 0 (take p xs) ++ ss) (in_neither (before_at xs p) p a (drop p xs) e next apart)
          ∙ ap (λ k. moved k p (starts_behind alike None 0 (take p xs)) (starts_behind alike (before_at xs p) p (drop p xs))) (sym neighbour)

      there : (a : A) (t : Bool) → follows alike (before_at xs p) a ≡ t → (s : Bool) → leads alike a (slice_get xs p) ≡ s → joins alike xs p a ≡ Behind → 0 < length (starts_behind alike (before_at xs p) p (drop p xs))
      there a true e s f h =
          let neighbour : joins alike xs p a ≡ Before = ap (λ t. if t then Before else if leads alike a (slice_get xs p) then Behind else Neither) e in
          let no : Before ≡ Behind = sym neighbour ∙ h in
          absurd cc
      there a false e true f h = (in_behind (before_at xs p) p a (drop p xs) e (ap (leads alike a) (head_dropped xs p) ∙ f)).1
      there a false e false f h =
          let neighbour : joins alike xs p a ≡ Neither = ap (λ t. if t then Before else if leads alike a (slice_get xs p) then Behind else Neither) e ∙ ap (λ t. if t then Behind else Neither) f in
          let no : Neither ≡ Behind = sym neighbour ∙ h in
          absurd cc

  -- the same by the places themselves, and how many of them come before the item
  pub parted_at : (xs : List A) (p : ℕ) → p ≤ length xs → (ss : List ℕ) → ss ≡ starts_in alike xs → IsPartitionedBy (λ s. nat_lt s p) ss
  parted_at xs p l ss e =
      let k = cut xs p l in
      let P : List ℕ → Type 0 = λ zs. IsPartitionedBy (λ s. nat_lt s p) zs in
      subst P (sym (e ∙ k.is)) (are_parted p k.front k.back k.below k.from)

  module _ (xs : List A) (p : ℕ) (l : p ≤ length xs) (ss : List ℕ) (e : ss ≡ starts_in alike xs) (count : ℕ) (few : count ≤ length ss) (point : IsPartitionPoint (λ s. nat_lt s p ≡ true) (λ s. nat_lt s p ≡ false) ss count) where
    parts : (take count ss ≡ (cut xs p l).front) × (drop count ss ≡ (cut xs p l).back)
    parts =
        let k = cut xs p l in
        let f = e ∙ k.is in
        let P : List ℕ → Type 0 = λ zs. IsPartitionPoint (λ s. nat_lt s p ≡ true) (λ s. nat_lt s p ≡ false) zs count in
        let Q : List ℕ → Type 0 = λ zs. count ≤ length zs in
        let cuts = cut_at p k.front k.back count k.below k.from (subst Q f few) (subst P f point) in
        (ap (take count) f ∙ cuts.0, ap (drop count) f ∙ cuts.1)

    pub after_insert : (a : A) → IsApartAt alike xs p a → moved (joins alike xs p a) p (take count ss) (drop count ss) ≡ starts_in alike (insert xs p a)
    after_insert a h =
        let k = cut xs p l in
        ap (λ zs. moved (joins alike xs p a) p zs (drop count ss)) parts.0 ∙ ap (moved (joins alike xs p a) p k.front) parts.1 ∙ sym (k.after a h)

    pub some_behind : (a : A) → joins alike xs p a ≡ Behind → count < length ss
    some_behind a h =
        let k = cut xs p l in
        let b = k.some a h in
        let size = ap length parts.1 in
        let left = length-drop count ss in
        omega arith

-- a place that is written over the first of those that moved
pub set_behind : (at : ℕ) (ss : List ℕ) (v : ℕ) → at < length ss → slice_set (take at ss ++ map (λ s. s + 1) (drop at ss)) at v ≡ take at ss ++ v ∷ map (λ s. s + 1) (drop 1 (drop at ss))
set_behind zero [] v l = absurd (omega arith)
set_behind zero (s ∷ ss) v l = refl
set_behind (suc at) [] v l = absurd (omega arith)
set_behind (suc at) (s ∷ ss) v l = ap (λ zs. s ∷ zs) (set_behind at ss v (omega arith))
