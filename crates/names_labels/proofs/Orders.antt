-- Orders of names, label by label.
use Rattle.std.proofs.Common.{◌≡◌, ℕ, suc, ◌-◌, ◌<◌, ◌⊎◌, inl, inr, Bool, true, false, List, [], ◌∷◌, ◌++◌, length, drop, take, map, refl, sym, ap, subst, ◌∙◌, arith}
use Rattle.std.specs.Prelude.{reverse}
use Rattle.std.specs.Str.{str_to_ascii_lowercase}
use Rattle.std.specs.declared.cmp.Ordering.{Ordering}
use Rattle.std.specs.declared.cmp.Ordering.TheVariants.{Less, Equal, Greater}
use Rattle.std.specs.Ordering.{nat_cmp, ordering_then, is_ne, MatchOrdering}
use Rattle.std.specs.Cmp.{nat_cmp_is}
use Rattle.std.specs.Cmp.Lexicographic.{slice_cmp}
use Rattle.std.proofs.lemmas.List.{map-append, reverse-append, length-map, length-reverse, length-take-le, length-drop, take-append-drop}
use Rattle.std.proofs.lemmas.Cmp.{ranked}
use Rattle.names_wire.specs.Label.{wire_label}
use Rattle.std.proofs.lemmas.Bool.{lt-ltb, le-ltb, ne_eqb, cases_eq}
use Rattle.names_wire.specs.Name.{Name, Label, low, from_root, name_cmp}
use Rattle.names_labels.specs.Flat.{spelled}
use Rattle.names_labels.specs.Order.{in_case}
use Rattle.names_labels.specs.declared.order.Case.{Case}

pub decided : (o rest : Ordering) → is_ne o ≡ true → ordering_then o rest ≡ o
decided Less rest h = refl
decided Equal rest h = cc
decided Greater rest h = refl

pub tied : (o rest : Ordering) → is_ne o ≡ false → ordering_then o rest ≡ rest
tied Less rest h = cc
tied Equal rest h = refl
tied Greater rest h = cc

tied_is : (o : Ordering) → is_ne o ≡ false → o ≡ Equal
tied_is Less h = cc
tied_is Equal h = refl
tied_is Greater h = cc

zero_less : (n : ℕ) → nat_cmp 0 (suc n) ≡ Less
zero_less n = rw (lt-ltb 0 (suc n) (omega arith)) refl

suc_greater : (n : ℕ) → nat_cmp (suc n) 0 ≡ Greater
suc_greater n = rw (le-ltb (suc n) 0 (omega arith), ne_eqb (suc n) 0 (λ e. omega (arith, e))) refl

cmp_nil : {X : Type 0} (R : X → X → Ordering) (ys : List X) → slice_cmp R [] ys ≡ nat_cmp 0 (length ys)
cmp_nil R [] = refl
cmp_nil R (y ∷ ys) = sym (zero_less (length ys))

cmp_to_nil : {X : Type 0} (R : X → X → Ordering) (xs : List X) → slice_cmp R xs [] ≡ nat_cmp (length xs) 0
cmp_to_nil R [] = refl
cmp_to_nil R (x ∷ xs) = sym (suc_greater (length xs))

length-from_root : (n : Name) → length (from_root n) ≡ length n
length-from_root n = length-reverse (low n) ∙ length-map n str_to_ascii_lowercase

then_assoc : (o p q : Ordering) → ordering_then (ordering_then o p) q ≡ ordering_then o (ordering_then p q)
then_assoc Less p q = refl
then_assoc Equal p q = refl
then_assoc Greater p q = refl

then_nothing : (o : Ordering) → ordering_then o Equal ≡ o
then_nothing Less = refl
then_nothing Equal = refl
then_nothing Greater = refl

-- equally long parts decide before what is behind them
parts_then : {X : Type 0} (R : X → X → Ordering) (a b x y : List X) → length a ≡ length b → slice_cmp R (a ++ x) (b ++ y) ≡ ordering_then (slice_cmp R a b) (slice_cmp R x y)
parts_then R [] [] x y h = refl
parts_then R [] (d ∷ b) x y h = absurd (omega arith)
parts_then R (c ∷ a) [] x y h = absurd (omega arith)
parts_then R (c ∷ a) (d ∷ b) x y h =
    ap (ordering_then (R c d)) (parts_then R a b x y (omega arith)) ∙ sym (then_assoc (R c d) (slice_cmp R a b) (slice_cmp R x y))

from_root-append : (m n : Name) → from_root (m ++ n) ≡ from_root n ++ from_root m
from_root-append m n = ap reverse (map-append str_to_ascii_lowercase m n) ∙ reverse-append (low m) (low n)

-- of as many labels those behind decide, and then the first ones
pub first_then : (a b : Label) (m n : Name) → length m ≡ length n → name_cmp (a ∷ m) (b ∷ n) ≡ ordering_then (name_cmp m n) (slice_cmp nat_cmp (str_to_ascii_lowercase a) (str_to_ascii_lowercase b))
first_then a b m n h =
    (λ t. slice_cmp (slice_cmp nat_cmp) (from_root-append (a ∷ []) m t) (from_root-append (b ∷ []) n t))
    ∙ parts_then (slice_cmp nat_cmp) (from_root m) (from_root n) (from_root (a ∷ [])) (from_root (b ∷ [])) (length-from_root m ∙ h ∙ sym (length-from_root n))
    ∙ ap (ordering_then (name_cmp m n)) (then_nothing (slice_cmp nat_cmp (str_to_ascii_lowercase a) (str_to_ascii_lowercase b)))

-- a difference of the first labels gives way to one behind them
pub next_then : (whole count o p order : Ordering) (a b : Label) (m n : Name) → length m ≡ length n → p ≡ slice_cmp nat_cmp (str_to_ascii_lowercase a) (str_to_ascii_lowercase b) → o ≡ ordering_then p order → whole ≡ ordering_then (ordering_then (name_cmp (a ∷ m) (b ∷ n)) order) count → whole ≡ ordering_then (ordering_then (name_cmp m n) o) count
next_then whole count o p order a b m n h d e w =
    w ∙ ap (λ x. ordering_then x count) (
    ap (λ x. ordering_then x order) (first_then a b m n h ∙ ap (ordering_then (name_cmp m n)) (sym d))
    ∙ then_assoc (name_cmp m n) p order ∙ ap (ordering_then (name_cmp m n)) (sym e)
    )

no_more : (m n : Name) → length m ≡ 0 → length n ≡ 0 → name_cmp m n ≡ Equal
no_more [] [] h k = refl
no_more [] (x ∷ n) h k = absurd (omega arith)
no_more (x ∷ m) n h k = absurd (omega arith)

-- behind the last labels
pub none_then : (whole count o : Ordering) (m n : Name) → length m ≡ 0 → length m ≡ length n → whole ≡ ordering_then (ordering_then (name_cmp m n) o) count → whole ≡ ordering_then o count
none_then whole count o m n h e w = w ∙ ap (λ x. ordering_then (ordering_then x o) count) (no_more m n h (sym e ∙ h))

one_empty : {X : Type 0} (R : X → X → Ordering) (xs ys : List X) → (length xs ≡ 0) ⊎ (length ys ≡ 0) → slice_cmp R xs ys ≡ nat_cmp (length xs) (length ys)
one_empty R [] ys h = cmp_nil R ys
one_empty R (x ∷ xs) [] h = cmp_to_nil R (x ∷ xs)
one_empty R (x ∷ xs) (y ∷ ys) (inl h) = absurd (omega arith)
one_empty R (x ∷ xs) (y ∷ ys) (inr h) = absurd (omega arith)

one_zero : (i j a b : ℕ) → i ≡ a - b → j ≡ b - a → (i ≡ 0) ⊎ (j ≡ 0)
one_zero i j a b e f = go (cases_eq i 0)
  where
    go : ((i ≡ 0) ⊎ (i ≡ 0 → ⊥)) → (i ≡ 0) ⊎ (j ≡ 0)
    go (inl z) = inl z
    go (inr z) = inr (omega (arith, z, e, f))

surplus : (o : Ordering) (i j a b : ℕ) → i ≡ a - b → j ≡ b - a → MatchOrdering o (i < j) (i ≡ j) (j < i) → MatchOrdering o (a < b) (a ≡ b) (b < a)
surplus Less i j a b e f h = omega (arith, e, f)
surplus Equal i j a b e f h = omega (arith, e, f)
surplus Greater i j a b e f h = omega (arith, e, f)

-- what a longer name has in front
fronts_cmp : (m n : Name) (i j : ℕ) → i ≡ length m - length n → j ≡ length n - length m → slice_cmp (slice_cmp nat_cmp) (from_root (take i m)) (from_root (take j n)) ≡ nat_cmp (length m) (length n)
fronts_cmp m n i j e f =
    let k : length (from_root (take i m)) ≡ i = length-from_root (take i m) ∙ length-take-le i m (omega (arith, e)) in
    let l : length (from_root (take j n)) ≡ j = length-from_root (take j n) ∙ length-take-le j n (omega (arith, f)) in
    one_empty (slice_cmp nat_cmp) (from_root (take i m)) (from_root (take j n)) (rw (k, l) (one_zero i j (length m) (length n) e f))
    ∙ (λ t. nat_cmp (k t) (l t))
    ∙ nat_cmp_is (length m) (length n) (nat_cmp i j) (surplus (nat_cmp i j) i j (length m) (length n) e f (ranked i j (nat_cmp i j) refl))

-- as many labels at the end of both decide, and then the numbers of labels
pub tails_then : (m n : Name) (i j : ℕ) → i ≡ length m - length n → j ≡ length n - length m → name_cmp m n ≡ ordering_then (ordering_then (name_cmp (drop i m) (drop j n)) Equal) (nat_cmp (length m) (length n))
tails_then m n i j e f =
    let front = from_root (take i m) in
    let other = from_root (take j n) in
    let s : from_root m ≡ from_root (drop i m) ++ front = ap from_root (sym (take-append-drop i m)) ∙ from_root-append (take i m) (drop i m) in
    let t : from_root n ≡ from_root (drop j n) ++ other = ap from_root (sym (take-append-drop j n)) ∙ from_root-append (take j n) (drop j n) in
    let even : length (from_root (drop i m)) ≡ length (from_root (drop j n)) = length-from_root (drop i m) ∙ omega (arith, length-drop i m, length-drop j n, e, f) ∙ sym (length-from_root (drop j n)) in
    (λ k. slice_cmp (slice_cmp nat_cmp) (s k) (t k))
    ∙ parts_then (slice_cmp nat_cmp) (from_root (drop i m)) (from_root (drop j n)) front other even
    ∙ (λ k. ordering_then (sym (then_nothing (name_cmp (drop i m) (drop j n))) k) (fronts_cmp m n i j e f k))

-- ---- what stands before labels that are the same

-- labels from the root's side
abbrev pub from_root_cmp : Name → Name → Ordering
from_root_cmp m n = slice_cmp (slice_cmp nat_cmp) (from_root m) (from_root n)

pub behind_equal : (m n rest other : Name) → length rest ≡ length other → name_cmp rest other ≡ Equal → name_cmp (m ++ rest) (n ++ other) ≡ from_root_cmp m n
behind_equal m n rest other h e =
    (λ t. slice_cmp (slice_cmp nat_cmp) (from_root-append m rest t) (from_root-append n other t))
    ∙ parts_then (slice_cmp nat_cmp) (from_root rest) (from_root other) (from_root m) (from_root n) (length-from_root rest ∙ h ∙ sym (length-from_root other))
    ∙ ap (λ o. ordering_then o (from_root_cmp m n)) e

unlike_then : (o p : Ordering) → (o ≡ Equal → ⊥) → ordering_then o p ≡ o
unlike_then Less p h = refl
unlike_then Equal p h = absurd (h refl)
unlike_then Greater p h = refl

-- the last labels decide where they are no equal ones
pub last_decides : (m n : Name) (a b : Label) → (slice_cmp nat_cmp (str_to_ascii_lowercase a) (str_to_ascii_lowercase b) ≡ Equal → ⊥) → from_root_cmp (m ++ a ∷ []) (n ++ b ∷ []) ≡ slice_cmp nat_cmp (str_to_ascii_lowercase a) (str_to_ascii_lowercase b)
last_decides m n a b h =
    (λ t. slice_cmp (slice_cmp nat_cmp) (from_root-append m (a ∷ []) t) (from_root-append n (b ∷ []) t))
    ∙ unlike_then (slice_cmp nat_cmp (str_to_ascii_lowercase a) (str_to_ascii_lowercase b)) (from_root_cmp m n) h

-- and no labels come first
pub none_before : (n : Name) (b : Label) → from_root_cmp [] (n ++ b ∷ []) ≡ Less
none_before n b = ap (slice_cmp (slice_cmp nat_cmp) []) (from_root-append n (b ∷ []))

pub some_behind : (m : Name) (a : Label) → from_root_cmp (m ++ a ∷ []) [] ≡ Greater
some_behind m a = ap (λ x. slice_cmp (slice_cmp nat_cmp) x []) (from_root-append m (a ∷ []))

nat_tied : (m n : ℕ) → is_ne (nat_cmp m n) ≡ false → m ≡ n
nat_tied m n h = let r : MatchOrdering Equal (m < n) (m ≡ n) (n < m) = subst (λ o. MatchOrdering o (m < n) (m ≡ n) (n < m)) (tied_is (nat_cmp m n) h) (ranked m n (nat_cmp m n) refl) in r

-- the order of the octets in wire form
abbrev pub composed : Case → Name → Name → Ordering
composed c m n = slice_cmp nat_cmp (spelled (map (in_case c) m)) (spelled (map (in_case c) n))

-- labels behind their lengths decide before what is behind them
cmp_labels : (a b x y : List ℕ) → slice_cmp nat_cmp (wire_label a ++ x) (wire_label b ++ y) ≡ ordering_then (slice_cmp nat_cmp (wire_label a) (wire_label b)) (slice_cmp nat_cmp x y)
cmp_labels a b x y = go (is_ne (nat_cmp (length a) (length b))) refl
  where
    go : (t : Bool) → is_ne (nat_cmp (length a) (length b)) ≡ t → slice_cmp nat_cmp (wire_label a ++ x) (wire_label b ++ y) ≡ ordering_then (slice_cmp nat_cmp (wire_label a) (wire_label b)) (slice_cmp nat_cmp x y)
    go false t = parts_then nat_cmp (wire_label a) (wire_label b) x y (ap suc (nat_tied (length a) (length b) t))
    go true t =
        let o = nat_cmp (length a) (length b) in
        decided o (slice_cmp nat_cmp (a ++ x) (b ++ y)) t
        ∙ sym (decided o (ordering_then (slice_cmp nat_cmp a b) (slice_cmp nat_cmp x y)) t)
        ∙ sym (then_assoc o (slice_cmp nat_cmp a b) (slice_cmp nat_cmp x y))

-- the first labels decide before those behind them
labels_then : (c : Case) (a b : Label) (m n : Name) → composed c (a ∷ m) (b ∷ n) ≡ ordering_then (slice_cmp nat_cmp (wire_label (in_case c a)) (wire_label (in_case c b))) (composed c m n)
labels_then c a b m n = cmp_labels (in_case c a) (in_case c b) (spelled (map (in_case c) m)) (spelled (map (in_case c) n))

pub first_labels_then : (c : Case) (k l : Name) (a b : Label) (m n : Name) → k ≡ a ∷ m → l ≡ b ∷ n → composed c k l ≡ ordering_then (slice_cmp nat_cmp (wire_label (in_case c a)) (wire_label (in_case c b))) (composed c m n)
first_labels_then c k l a b m n e f = (λ t. composed c (e t) (f t)) ∙ labels_then c a b m n

-- the code's test of an answer that decides before the rest
pub stops_here : (whole o p rest : Ordering) (t : Bool) → whole ≡ ordering_then o rest → p ≡ o → t ≡ is_ne p → t ≡ true → p ≡ whole
stops_here whole o p rest t s e d h = e ∙ sym (decided o rest (ap is_ne (sym e) ∙ sym d ∙ h)) ∙ sym s

pub goes_on : (whole o p rest : Ordering) (t : Bool) → whole ≡ ordering_then o rest → p ≡ o → t ≡ is_ne p → t ≡ false → whole ≡ rest
goes_on whole o p rest t s e d h = s ∙ tied o rest (ap is_ne (sym e) ∙ sym d ∙ h)
