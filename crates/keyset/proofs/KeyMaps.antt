-- The maps of a key set, seen in order.
use Rattle.std.proofs.Common.{◌≡◌, ℕ, Bool, true, false, cond, not, List, [], ◌∷◌, map, refl, sym, ap, ◌∙◌, ◌||◌, eqb}
use Rattle.std.specs.Prelude.{Option, Some, None, String, string_bytes, if◌then◌else◌}
use Rattle.std.specs.List.{AllZip, list_any, IsDistinct}
use Rattle.std.specs.declared.cmp.Ordering.{Ordering}
use Rattle.std.specs.List.Sorted.{IsPermutation}
use Rattle.std.proofs.lemmas.List.Sorted.{IsPermutation-map, list_any-IsPermutation}
use Rattle.std.specs.Map.{lookup, keys_of, values_of}
use Rattle.std.specs.Str.{bytes_eq}
use Rattle.std.specs.String.{string_eq}
use Rattle.std.specs.Ordering.{eq_by_cmp}
use Rattle.std.specs.Cmp.{IsTotalOrder, eq_by_cmp_equiv, nat_cmp_total}
use Rattle.std.specs.Cmp.{unsigned_ties}
use Rattle.std.specs.Cmp.Lexicographic.{nat_list_cmp_total, texts_ties}
use Rattle.std.specs.FinMap.{IsAntisymmetric, nat_cmp-IsAntisymmetric, slice_cmp-IsAntisymmetric}
use Rattle.std.specs.FinMap.Entries.{put, find}
use Rattle.keyset_rolls.specs.declared.rolls.RollType.{RollType}
use Rattle.keyset_rolls.specs.declared.rolls.RollType.TheVariants.{KskRoll, KskDoubleDsRoll, ZskRoll, ZskDoubleSignatureRoll, CskRoll, AlgorithmRoll}
use Rattle.keyset.specs.KeyState.{Reference, in_order, by_reference, by_kind, reference_cmp, kind_cmp, index_of, greatest, removed, without}
use Rattle.keyset.proofs.KeyOrder.{find-in_order, in_order-put, in_order-where_key, in_order-map, in_order-permutes, greatest-IsPermutation}
use Rattle.keyset.proofs.Lists.{list_any-map, map-map}

turned : {X : Type 0} (a b : Bool) (x : Option X) → b ≡ a → cond b None x ≡ cond (not a) x None
turned true b x h = ap (λ t. cond t None x) h
turned false b x h = ap (λ t. cond t None x) h

pub bytes_eq-sym : (p q : Reference) → bytes_eq p q ≡ bytes_eq q p
bytes_eq-sym p q = texts_ties p q ∙ (eq_by_cmp_equiv nat_list_cmp_total).symm p q ∙ sym (texts_ties q p)

reference_same : IsAntisymmetric reference_cmp
reference_same = slice_cmp-IsAntisymmetric nat_cmp-IsAntisymmetric

pub find-by_reference : {A X : Type 0} (q : Reference) (es : List (String A × X)) → find reference_cmp q (by_reference es) ≡ lookup (λ k. bytes_eq q (string_bytes k)) es
find-by_reference q es = find-in_order reference_cmp string_bytes nat_list_cmp_total q es ∙ (λ i. lookup (λ k. sym (texts_ties q (string_bytes k)) i) es)

pub by_reference-put : {A X : Type 0} (es fs : List (String A × X)) (q : Reference) (v : X) → ((p : Reference) → lookup (λ k. bytes_eq p (string_bytes k)) fs ≡ cond (bytes_eq q p) (Some v) (lookup (λ k. bytes_eq p (string_bytes k)) es)) → by_reference fs ≡ put reference_cmp q v (by_reference es)
by_reference-put es fs q v h =
    in_order-put reference_cmp string_bytes nat_list_cmp_total reference_same es fs q v
    (λ p. (λ i. lookup (λ k. sym (texts_ties p (string_bytes k)) i) fs)
    ∙ h p
    ∙ (λ i. cond ((texts_ties q p ∙ (eq_by_cmp_equiv nat_list_cmp_total).symm q p) i) (Some v) (lookup (λ k. texts_ties p (string_bytes k) i) es)))

pub by_reference-removed : {A X : Type 0} (es fs : List (String A × X)) (q : Reference) → ((p : Reference) → lookup (λ k. bytes_eq p (string_bytes k)) fs ≡ cond (bytes_eq q p) None (lookup (λ k. bytes_eq p (string_bytes k)) es)) → by_reference fs ≡ removed q (by_reference es)
by_reference-removed es fs q h =
    in_order-where_key reference_cmp string_bytes nat_list_cmp_total reference_same es fs (λ p. not (bytes_eq p q))
    (λ p. (λ i. lookup (λ k. sym (texts_ties p (string_bytes k)) i) fs)
    ∙ h p
    ∙ turned (bytes_eq p q) (bytes_eq q p) (lookup (λ k. bytes_eq p (string_bytes k)) es) (bytes_eq-sym q p)
    ∙ (λ i. cond (not (bytes_eq p q)) (lookup (λ k. texts_ties p (string_bytes k) i) es) None))

pub by_reference-map : {A X : Type 0} (g : Reference → X → X) (es : List (String A × X)) → by_reference (map (λ e. (e.0, g (string_bytes e.0) e.1)) es) ≡ map (λ e. (e.0, g e.0 e.1)) (by_reference es)
by_reference-map g es = in_order-map reference_cmp string_bytes nat_list_cmp_total reference_same g es

-- the list has the entries of the map, where no two keys are equal
pub by_reference-permutes : {A X : Type 0} (es : List (String A × X)) → IsDistinct string_eq (keys_of es) → IsPermutation (map (λ e. (string_bytes e.0, e.1)) es) (by_reference es)
by_reference-permutes es h = in_order-permutes reference_cmp string_bytes nat_list_cmp_total string_eq (λ x y. texts_ties (string_bytes x) (string_bytes y)) es h

list_any-values_of : {K X : Type 0} (p : X → Bool) (es : List (K × X)) → list_any p (values_of es) ≡ list_any (λ e. p e.1) es
list_any-values_of p [] = refl
list_any-values_of p (e ∷ es) = ap (λ b. p e.1 || b) (list_any-values_of p es)

map-values_of : {K X Y : Type 0} (f : X → Y) (es : List (K × X)) → map f (values_of es) ≡ map (λ e. f e.1) es
map-values_of f [] = refl
map-values_of f (e ∷ es) = ap (λ ys. f e.1 ∷ ys) (map-values_of f es)

-- a test of the entries, in whatever order
pub any-by_reference : {A X : Type 0} (p : Reference → X → Bool) (es : List (String A × X)) → IsDistinct string_eq (keys_of es) → list_any (λ e. p (string_bytes e.0) e.1) es ≡ list_any (λ e. p e.0 e.1) (by_reference es)
any-by_reference p es h =
    sym (list_any-map (λ e. p e.0 e.1) (λ e. (string_bytes e.0, e.1)) es)
    ∙ list_any-IsPermutation (λ e. p e.0 e.1) (map (λ e. (string_bytes e.0, e.1)) es) (by_reference es) (by_reference-permutes es h)

pub any_value-by_reference : {A X : Type 0} (p : X → Bool) (es : List (String A × X)) → IsDistinct string_eq (keys_of es) → list_any p (values_of es) ≡ list_any (λ e. p e.1) (by_reference es)
any_value-by_reference p es h = list_any-values_of p es ∙ any-by_reference (λ _ v. p v) es h

-- the greatest number that belongs to a value
pub greatest-by_reference : {A X : Type 0} (f : X → ℕ) (es : List (String A × X)) → IsDistinct string_eq (keys_of es) → greatest (map f (values_of es)) ≡ greatest (map (λ e. f e.1) (by_reference es))
greatest-by_reference f es h =
    ap greatest (map-values_of f es ∙ sym (map-map (λ e. f e.1) (λ e. (string_bytes e.0, e.1)) es))
    ∙ greatest-IsPermutation (map (λ e. f e.1) (map (λ e. (string_bytes e.0, e.1)) es)) (map (λ e. f e.1) (by_reference es))
    (IsPermutation-map (λ e. f e.1) (map (λ e. (string_bytes e.0, e.1)) es) (by_reference es) (by_reference-permutes es h))

pub kind_total : IsTotalOrder kind_cmp
kind_total = record {
  antisymm = λ x y. nat_cmp_total.antisymm (index_of x) (index_of y);
  trans = λ x y z. nat_cmp_total.trans (index_of x) (index_of y) (index_of z);
  congr = λ x y z. nat_cmp_total.congr (index_of x) (index_of y) (index_of z);
}

of_index : ℕ → RollType
of_index n = if eqb n 0 then KskRoll else if eqb n 1 then KskDoubleDsRoll else if eqb n 2 then ZskRoll else if eqb n 3 then ZskDoubleSignatureRoll else if eqb n 4 then CskRoll else AlgorithmRoll

of_index-index_of : (r : RollType) → of_index (index_of r) ≡ r
unfolding of_index
of_index-index_of KskRoll = refl
of_index-index_of KskDoubleDsRoll = refl
of_index-index_of ZskRoll = refl
of_index-index_of ZskDoubleSignatureRoll = refl
of_index-index_of CskRoll = refl
of_index-index_of AlgorithmRoll = refl

-- two kinds of one index are one
pub index_same : (a b : RollType) → index_of a ≡ index_of b → a ≡ b
index_same a b h = sym (of_index-index_of a) ∙ ap of_index h ∙ of_index-index_of b

pub kind_same : IsAntisymmetric kind_cmp
kind_same a b h = index_same a b (nat_cmp-IsAntisymmetric (index_of a) (index_of b) h)

pub find-by_kind : {X : Type 0} (q : RollType) (es : List (RollType × X)) → find kind_cmp q (by_kind es) ≡ lookup (eq_by_cmp kind_cmp q) es
find-by_kind q es = find-in_order kind_cmp (λ r. r) kind_total q es

-- the code's comparison of kinds
abbrev pub kind_eq : RollType → RollType → Bool
kind_eq = (Rattle.keyset_rolls.specs.contracts.rolls.RollTypePartialEq.TheImpl.eq-value).it

-- it finds the same as the order of kinds
pub kind_tied : (a b : RollType) → kind_eq a b ≡ eq_by_cmp kind_cmp a b
kind_tied KskRoll KskRoll = refl
kind_tied KskDoubleDsRoll KskDoubleDsRoll = refl
kind_tied ZskRoll ZskRoll = refl
kind_tied ZskDoubleSignatureRoll ZskDoubleSignatureRoll = refl
kind_tied CskRoll CskRoll = refl
kind_tied AlgorithmRoll AlgorithmRoll = refl
kind_tied _ _ = refl

module _ {X : Type 0} (eq : RollType → RollType → Bool) (tied : (a b : RollType) → eq a b ≡ eq_by_cmp kind_cmp a b) where
  -- a look-up of a kind
  pub lookup-by_kind : (q : RollType) (es : List (RollType × X)) → lookup (eq q) es ≡ find kind_cmp q (by_kind es)
  lookup-by_kind q es = (λ i. lookup (λ k. tied q k i) es) ∙ sym (find-by_kind q es)

  updated : (es fs : List (RollType × X)) (q : RollType) (w : Option X) → ((p : RollType) → lookup (eq p) fs ≡ cond (eq q p) w (lookup (eq p) es)) → (p : RollType) → lookup (eq_by_cmp kind_cmp p) fs ≡ cond (eq_by_cmp kind_cmp p q) w (lookup (eq_by_cmp kind_cmp p) es)
  updated es fs q w h p =
      (λ i. lookup (λ k. sym (tied p k) i) fs) ∙ h p
      ∙ (λ i. cond ((tied q p ∙ (eq_by_cmp_equiv kind_total).symm q p) i) w (lookup (λ k. tied p k i) es))

  -- the phases with one put in
  pub by_kind-put : (es fs : List (RollType × X)) (q : RollType) (v : X) → ((p : RollType) → lookup (eq p) fs ≡ cond (eq q p) (Some v) (lookup (eq p) es)) → by_kind fs ≡ put kind_cmp q v (by_kind es)
  by_kind-put es fs q v h = in_order-put kind_cmp (λ r. r) kind_total kind_same es fs q v (updated es fs q (Some v) h)

  -- the phases without one
  pub by_kind-removed : (es fs : List (RollType × X)) (q : RollType) → ((p : RollType) → lookup (eq p) fs ≡ cond (eq q p) None (lookup (eq p) es)) → by_kind fs ≡ without q (by_kind es)
  by_kind-removed es fs q h =
      in_order-where_key kind_cmp (λ r. r) kind_total kind_same es fs (λ p. not (eqb (index_of p) (index_of q)))
      (λ p. updated es fs q None h p ∙ turned (eqb (index_of p) (index_of q)) (eq_by_cmp kind_cmp p q) (lookup (eq_by_cmp kind_cmp p) es) (sym (unsigned_ties (index_of p) (index_of q))))

keys_any : {K X : Type 0} (p : K → Bool) (es : List (K × X)) → list_any p (keys_of es) ≡ list_any {X = K × X} (λ e. p e.0) (map (λ e. (e.0, e.1)) es)
keys_any p [] = refl
keys_any p (e ∷ es) = ap (λ b. p e.0 || b) (keys_any p es)

-- a test of the kinds, in whatever order
pub any_kind-by_kind : {X : Type 0} (eq : RollType → RollType → Bool) (tied : (a b : RollType) → eq a b ≡ eq_by_cmp kind_cmp a b) (p : RollType → Bool) (es : List (RollType × X)) → IsDistinct eq (keys_of es) → list_any p (keys_of es) ≡ list_any (λ e. p e.0) (by_kind es)
any_kind-by_kind eq tied p es h =
    keys_any p es
    ∙ list_any-IsPermutation (λ e. p e.0) (map (λ e. (e.0, e.1)) es) (by_kind es) (in_order-permutes kind_cmp (λ r. r) kind_total eq tied es h)

-- a copy of a map's entries, each like its own, is seen in the same order
in_order-alike : {K Q X : Type 0} (R : Q → Q → Ordering) (f : K → Q) (C : K → K → Type 0) (D : X → X → Type 0) → ((k l : K) → C k l → f l ≡ f k) → ((x y : X) → D x y → y ≡ x) → (es fs : List (K × X)) → AllZip (λ p q. C p.0 q.0 × D p.1 q.1) es fs → in_order R f fs ≡ in_order R f es
in_order-alike R f C D g h [] [] a = refl
in_order-alike R f C D g h (e ∷ es) (o ∷ fs) a = λ t. put R (g e.0 o.0 a.0.0 t) (h e.1 o.1 a.0.1 t) (in_order-alike R f C D g h es fs a.1 t)
in_order-alike R f C D g h [] (o ∷ fs) a = absurd a
in_order-alike R f C D g h (e ∷ es) [] a = absurd a

pub by_reference-alike : {A X : Type 0} (es fs : List (String A × X)) → AllZip (λ p q. (string_bytes q.0 ≡ string_bytes p.0) × (q.1 ≡ p.1)) es fs → by_reference fs ≡ by_reference es
by_reference-alike es fs a = in_order-alike reference_cmp string_bytes (λ k l. string_bytes l ≡ string_bytes k) (λ x y. y ≡ x) (λ k l e. e) (λ x y e. e) es fs a

pub by_kind-alike : {X : Type 0} (es fs : List (RollType × X)) → AllZip (λ p q. (q.0 ≡ p.0) × (q.1 ≡ p.1)) es fs → by_kind fs ≡ by_kind es
by_kind-alike es fs a = in_order-alike kind_cmp (λ r. r) (λ k l. l ≡ k) (λ x y. y ≡ x) (λ k l e. e) (λ x y e. e) es fs a
