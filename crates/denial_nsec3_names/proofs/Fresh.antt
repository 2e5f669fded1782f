-- How many names are fresh, by the labels that differ.
use Rattle.std.proofs.Common.{◌≡◌, ℕ, zero, suc, ◌+◌, ◌-◌, ◌≤◌, ◌<◌, Bool, true, false, ◌&&◌, ◌||◌, cond, List, [], ◌∷◌, ◌++◌, length, drop, refl, sym, ap, ◌∙◌, arith, length-drop}
use Rattle.std.specs.Str.{bytes_eq, str_to_ascii_lowercase}
use Rattle.definitions.specs.Name.{Name, low, same, at_or_above}
use Rattle.definitions.proofs.ZoneNames.{above_lowered, lowered_above}
use Rattle.denial_nsec3_hash.proofs.Skipped.{skip_rooted}
use Rattle.denial_nsec3_names.specs.Differing.{one_more, differing}
use Rattle.denial_nsec3_names.specs.Walk.{fresh_count}
use Rattle.definitions.proofs.ZoneNames.{above_longer, same-length}

not_true : (b : Bool) → (b ≡ true → ⊥) → b ≡ false
not_true true f = absurd (f refl)
not_true false f = refl

not_longer : (n m : Name) → length m < length n → at_or_above n m ≡ false
not_longer n m h = not_true (at_or_above n m) (λ e. let l : length n ≤ length m = above_longer n m e in omega arith)

unlike_long : (n m : Name) → (length n ≡ length m → ⊥) → same n m ≡ false
unlike_long n m f = not_true (same n m) (λ e. f (same-length n m e))

-- one more label in front of the name before
shorter_before : (l : List ℕ) (p o : Name) → length o ≤ length p → fresh_count (l ∷ p) o ≡ fresh_count p o
shorter_before l p [] h = refl
shorter_before l p (k ∷ o) h =
    let unlike : same (k ∷ o) (l ∷ p) ≡ false = unlike_long (k ∷ o) (l ∷ p) (λ e. absurd (let n : length (k ∷ o) ≡ length (l ∷ p) = e in omega arith)) in
    (λ i. cond (unlike i || at_or_above (k ∷ o) p) 0 (suc (shorter_before l p o (omega arith) i)))

-- names of as many labels are the same where none differs
none_differs : (x y : Name) → length x ≡ length y → (same x y ≡ true) → differing x y ≡ 0
none_differs [] [] h e = refl
none_differs [] (b ∷ y) h e = refl
none_differs (a ∷ x) [] h e = refl
none_differs (a ∷ x) (b ∷ y) h e = go (bytes_eq (str_to_ascii_lowercase a) (str_to_ascii_lowercase b)) e (λ k. none_differs x y (omega arith) k)
  where
    go : (t : Bool) → (t && same x y) ≡ true → (same x y ≡ true → differing x y ≡ 0) → one_more t (differing x y) ≡ 0
    go true k f = ap (one_more true) (f k)
    go false k f = absurd cc

some_differs : (x y : Name) → length x ≡ length y → same x y ≡ false → (n : ℕ) × (differing x y ≡ suc n)
some_differs [] [] h e = absurd cc
some_differs [] (b ∷ y) h e = absurd (omega arith)
some_differs (a ∷ x) [] h e = absurd (omega arith)
some_differs (a ∷ x) (b ∷ y) h e = go (bytes_eq (str_to_ascii_lowercase a) (str_to_ascii_lowercase b)) e (differing x y) refl (λ k. some_differs x y (omega arith) k)
  where
    go : (t : Bool) → (t && same x y) ≡ false → (d : ℕ) → differing x y ≡ d → (same x y ≡ false → (n : ℕ) × (differing x y ≡ suc n)) → (n : ℕ) × (one_more t d ≡ suc n)
    go true k (suc d) g f = (suc d, refl)
    go false k (suc d) g f = (suc d, refl)
    go false k zero g f = (zero, refl)
    go true k zero g f = let r = f k in let z : zero ≡ suc r.0 = sym g ∙ r.1 in absurd cc

-- of as many labels
fresh_alike : (x y : Name) → length x ≡ length y → fresh_count y x ≡ differing x y
fresh_alike [] [] h = refl
fresh_alike [] (b ∷ y) h = absurd (omega arith)
fresh_alike (a ∷ x) [] h = absurd (omega arith)
fresh_alike (a ∷ x) (b ∷ y) h =
    let len : length x ≡ length y = omega arith in
    let none : at_or_above (a ∷ x) y ≡ false = not_longer (a ∷ x) y (omega arith) in
    let rest : fresh_count (b ∷ y) x ≡ differing x y = shorter_before b y x (omega arith) ∙ fresh_alike x y len in
    (λ i. cond (same (a ∷ x) (b ∷ y) || none i) 0 (suc (rest i)))
    ∙ go (bytes_eq (str_to_ascii_lowercase a) (str_to_ascii_lowercase b)) (same x y) refl len
  where
    go : (t s : Bool) → same x y ≡ s → length x ≡ length y → cond ((t && s) || false) 0 (suc (differing x y)) ≡ one_more t (differing x y)
    go true true e len = ap (one_more true) (sym (none_differs x y len e))
    go false true e len = (λ i. suc (none_differs x y len e i)) ∙ ap (one_more false) (sym (none_differs x y len e))
    go true false e len = let r = some_differs x y len e in (λ i. suc (r.1 i)) ∙ ap (one_more true) (sym r.1)
    go false false e len = let r = some_differs x y len e in (λ i. suc (r.1 i)) ∙ ap (one_more false) (sym r.1)

zero_plus : (n : ℕ) → 0 + n ≡ n
zero_plus n = omega arith

longer_owner : (k : ℕ) (p o : Name) → length o ≡ k + length p → fresh_count p o ≡ k + differing (drop k o) p
longer_owner zero p o h = fresh_alike o p (omega arith) ∙ sym (zero_plus (differing o p))
longer_owner (suc k) p [] h = absurd (omega arith)
longer_owner (suc k) p (l ∷ o) h =
    let none : at_or_above (l ∷ o) p ≡ false = not_longer (l ∷ o) p (omega arith) in
    let rest : fresh_count p o ≡ k + differing (drop k o) p = longer_owner k p o (omega arith) in
    ap (λ b. cond b 0 (suc (fresh_count p o))) none ∙ omega (arith, rest)

longer_before : (k : ℕ) (p o : Name) → length p ≡ k + length o → fresh_count p o ≡ differing o (drop k p)
longer_before zero p o h = fresh_alike o p (omega arith)
longer_before (suc k) [] o h = absurd (omega arith)
longer_before (suc k) (l ∷ p) o h = shorter_before l p o (omega arith) ∙ longer_before k p o (omega arith)

-- the root's labels are alike
rooted_differ : (x y : Name) → length x ≡ length y → differing (x ++ [] ∷ []) (y ++ [] ∷ []) ≡ differing x y
rooted_differ [] [] h = refl
rooted_differ [] (b ∷ y) h = absurd (omega arith)
rooted_differ (a ∷ x) [] h = absurd (omega arith)
rooted_differ (a ∷ x) (b ∷ y) h = ap (one_more (bytes_eq (str_to_ascii_lowercase a) (str_to_ascii_lowercase b))) (rooted_differ x y (omega arith))

fresh_low : (p o : Name) → fresh_count (low p) (low o) ≡ fresh_count p o
fresh_low p [] = refl
fresh_low p (l ∷ o) = λ i. cond ((above_lowered (low (l ∷ o)) p ∙ lowered_above (l ∷ o) p) i) 0 (suc (fresh_low p o i))

-- the labels that are compared
pub fresh_by_labels : (p o ps os : Name) (longer back : ℕ) → ps ≡ p ++ [] ∷ [] → os ≡ o ++ [] ∷ [] → longer ≡ length o - length p → back ≡ length p - length o
    → longer + differing (drop longer os) (drop back ps) ≡ fresh_count (low p) (low o)
fresh_by_labels p o ps os longer back ep eo l b =
    (λ i. longer + differing (drop longer (eo i)) (drop back (ep i)))
    ∙ (λ i. longer + differing (skip_rooted longer longer o (omega arith) i) (skip_rooted back back p (omega arith) i))
    ∙ ap (λ d. longer + d) (rooted_differ (drop longer o) (drop back p) (omega (arith, length-drop longer o, length-drop back p)))
    ∙ sides
    ∙ sym (fresh_low p o)
  where
    sides : longer + differing (drop longer o) (drop back p) ≡ fresh_count p o
    sides = go longer back refl refl
      where
        go : (m n : ℕ) → longer ≡ m → back ≡ n → longer + differing (drop longer o) (drop back p) ≡ fresh_count p o
        go m zero em en =
            (λ i. longer + differing (drop longer o) (drop (en i) p)) ∙ sym (longer_owner longer p o (omega arith))
        go m (suc n) em en =
            let z : longer ≡ 0 = omega arith in
            (λ i. z i + differing (drop (z i) o) (drop back p)) ∙ zero_plus (differing o (drop back p)) ∙ sym (longer_before back p o (omega arith))

-- names that have the same labels behind their first ones
pub beside : (ls os x y : Name) (a b : List ℕ) (t : Bool) → ls ≡ a ∷ x → os ≡ b ∷ y → same x y ≡ true → bytes_eq (str_to_ascii_lowercase a) (str_to_ascii_lowercase b) ≡ t
    → (length ls ≡ length os) × (cond t 0 1 ≡ differing ls os)
beside ls os x y a b t el eo s e = (
  ap length el ∙ ap suc (same-length x y s) ∙ sym (ap length eo),
  sym ((λ i. differing (el i) (eo i)) ∙ (λ i. one_more (e i) (none_differs x y (same-length x y s) s i)) ∙ first t),
)
  where
    first : (t : Bool) → one_more t 0 ≡ cond t 0 1
    first true = refl
    first false = refl

-- the first ones are the same where all are, the others being so
pub first_same : (ls os x y : Name) (a b : List ℕ) (t : Bool) → ls ≡ a ∷ x → os ≡ b ∷ y → same x y ≡ true → t ≡ same ls os → bytes_eq (str_to_ascii_lowercase a) (str_to_ascii_lowercase b) ≡ t
first_same ls os x y a b t el eo s e =
    let c = bytes_eq (str_to_ascii_lowercase a) (str_to_ascii_lowercase b) in
    sym (e ∙ (λ i. same (el i) (eo i)) ∙ ap (λ u. c && u) s ∙ and_true c)
  where
    and_true : (u : Bool) → (u && true) ≡ u
    and_true true = refl
    and_true false = refl
