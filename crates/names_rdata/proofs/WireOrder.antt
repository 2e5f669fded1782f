-- The order of octets that begin with names in wire form.
use Rattle.std.proofs.Common.{◌≡◌, ℕ, ◌<◌, List, [], ◌∷◌, ◌++◌, length, refl, sym, ap, ◌∙◌, append_assoc, arith}
use Rattle.std.specs.List.{AllByRecursion, flat_map}
use Rattle.std.specs.declared.cmp.Ordering.{Ordering}
use Rattle.std.specs.declared.cmp.Ordering.TheVariants.{Less, Equal, Greater}
use Rattle.std.specs.Ordering.{nat_cmp, ordering_then}
use Rattle.std.specs.Cmp.{ranked}
use Rattle.std.specs.Cmp.Lexicographic.{slice_cmp}
use Rattle.std.proofs.lemmas.Bool.{lt-ltb, le-ltb, ne_eqb}
use Rattle.std.specs.Char.{to_ascii_lowercase}
use Rattle.std.proofs.lemmas.List.{length-map}
use Rattle.definitions.specs.Name.{Name, Label, IsLabel, low, wire}

-- no label is the root's
abbrev pub HasNoRoot : Name → Type 0
HasNoRoot n = AllByRecursion (λ l. 0 < length l) n

wire-cons : (l : Label) (n : Name) (x : List ℕ) → wire (l ∷ n) ++ x ≡ length l ∷ (l ++ (wire n ++ x))
wire-cons l n x =
    ap (λ y. length l ∷ y) (ap (λ y. y ++ x) (append_assoc l (flat_map (λ k. length k ∷ k) n) (0 ∷ [])) ∙ append_assoc l (wire n) x)

then_assoc : (o p q : Ordering) → ordering_then (ordering_then o p) q ≡ ordering_then o (ordering_then p q)
then_assoc Less p q = refl
then_assoc Equal p q = refl
then_assoc Greater p q = refl

-- equally long parts decide before what is behind them
parts_then : (a b x y : List ℕ) → length a ≡ length b → slice_cmp nat_cmp (a ++ x) (b ++ y) ≡ ordering_then (slice_cmp nat_cmp a b) (slice_cmp nat_cmp x y)
parts_then [] [] x y h = refl
parts_then [] (d ∷ b) x y h = absurd (omega arith)
parts_then (c ∷ a) [] x y h = absurd (omega arith)
parts_then (c ∷ a) (d ∷ b) x y h =
    ap (ordering_then (nat_cmp c d)) (parts_then a b x y (omega arith)) ∙ sym (then_assoc (nat_cmp c d) (slice_cmp nat_cmp a b) (slice_cmp nat_cmp x y))

zero_less : (n : ℕ) → 0 < n → nat_cmp 0 n ≡ Less
zero_less n h = rw (lt-ltb 0 n h) refl

some_greater : (n : ℕ) → 0 < n → nat_cmp n 0 ≡ Greater
some_greater n h = rw (le-ltb n 0 (omega arith), ne_eqb n 0 (λ e. omega (arith, e, h))) refl

same_number : (m n : ℕ) → nat_cmp m n ≡ Equal → m ≡ n
same_number m n h = ranked m n Equal (sym h)

-- labels behind their lengths, and then what is behind them
first_then : (a b x y x' y' : List ℕ) (o : Ordering) → (slice_cmp nat_cmp x' y' ≡ ordering_then (slice_cmp nat_cmp x y) o) → ordering_then (nat_cmp (length a) (length b)) (slice_cmp nat_cmp (a ++ x') (b ++ y')) ≡ ordering_then (ordering_then (nat_cmp (length a) (length b)) (slice_cmp nat_cmp (a ++ x) (b ++ y))) o
first_then a b x y x' y' o h = go (nat_cmp (length a) (length b)) refl
  where
    go : (c : Ordering) → nat_cmp (length a) (length b) ≡ c → ordering_then c (slice_cmp nat_cmp (a ++ x') (b ++ y')) ≡ ordering_then (ordering_then c (slice_cmp nat_cmp (a ++ x) (b ++ y))) o
    go Less e = refl
    go Greater e = refl
    go Equal e =
        let same = same_number (length a) (length b) e in
        parts_then a b x' y' same ∙ ap (ordering_then (slice_cmp nat_cmp a b)) h ∙ sym (then_assoc (slice_cmp nat_cmp a b) (slice_cmp nat_cmp x y) o)
        ∙ ap (λ z. ordering_then z o) (sym (parts_then a b x y same))

-- names decide before what is behind them
pub wire_then : (m n : Name) (x y : List ℕ) → HasNoRoot m → HasNoRoot n → slice_cmp nat_cmp (wire m ++ x) (wire n ++ y) ≡ ordering_then (slice_cmp nat_cmp (wire m) (wire n)) (slice_cmp nat_cmp x y)
wire_then [] [] x y p q = refl
wire_then [] (k ∷ n) x y p q =
    ap (λ z. slice_cmp nat_cmp (0 ∷ x) z) (wire-cons k n y) ∙ rw (zero_less (length k) q.0) refl
wire_then (l ∷ m) [] x y p q =
    ap (λ z. slice_cmp nat_cmp z (0 ∷ y)) (wire-cons l m x) ∙ rw (some_greater (length l) p.0) refl
wire_then (l ∷ m) (k ∷ n) x y p q =
    let plain : (j : Label) (o : Name) → wire (j ∷ o) ≡ length j ∷ (j ++ wire o) = λ j o. ap (λ z. length j ∷ z) (append_assoc j (flat_map (λ i. length i ∷ i) o) (0 ∷ [])) in
    (λ t. slice_cmp nat_cmp (wire-cons l m x t) (wire-cons k n y t))
    ∙ first_then l k (wire m) (wire n) (wire m ++ x) (wire n ++ y) (slice_cmp nat_cmp x y) (wire_then m n x y p.1 q.1)
    ∙ ap (λ z. ordering_then z (slice_cmp nat_cmp x y)) (λ t. slice_cmp nat_cmp (sym (plain l m) t) (sym (plain k n) t))

-- no label of a name is the root's, nor in lower case
pub no_root : (n : Name) → AllByRecursion IsLabel n → HasNoRoot (low n)
no_root [] a = tt
no_root (l ∷ n) a = (omega (arith, a.0.some, length-map l to_ascii_lowercase), no_root n a.1)
