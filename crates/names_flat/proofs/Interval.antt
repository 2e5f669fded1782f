-- Names at or below an apex, in canonical order.
use Rattle.std.proofs.Common.{◌≡◌, ℕ, ◌⊎◌, inl, inr, Bool, true, false, ◌||◌, List, [], ◌∷◌, ◌++◌, refl, sym, ap, ◌∙◌}
use Rattle.std.specs.Prelude.{reverse, IsTrue}
use Rattle.std.specs.declared.cmp.Ordering.{Ordering}
use Rattle.std.specs.declared.cmp.Ordering.TheVariants.{Less, Equal, Greater}
use Rattle.std.specs.Ordering.{ordering_then, ordering_reverse, nat_cmp, is_gt, is_eq}
use Rattle.std.specs.Cmp.Lexicographic.{slice_cmp, texts_ties, pointwise_decides}
use Rattle.std.proofs.lemmas.Cmp.{nat_list_cmp_total, tied_itself}
use Rattle.std.proofs.lemmas.Slice.Eq.{bytes_eq-Decides}
use Rattle.std.proofs.lemmas.List.{reverse-append, reverse-reverse}
use Rattle.std.specs.Str.{str_to_ascii_lowercase}
use Rattle.definitions.specs.Name.{Name, Label, low, from_root, same, at_or_above, name_cmp}

abbrev octets_cmp : List ℕ → List ℕ → Ordering
octets_cmp = slice_cmp nat_cmp

abbrev Begins : Name → Name → Type 0
Begins [] ys = Unit {0}
Begins (x ∷ xs) [] = ⊥
Begins (x ∷ xs) (y ∷ ys) = (x ≡ y) × Begins xs ys

exact : (x y : Label) → octets_cmp x y ≡ Equal → x ≡ y
exact x y e = (bytes_eq-Decides x y).0 (texts_ties x y ∙ ap is_eq e)

self : (x : Label) → octets_cmp x x ≡ Equal
self x = tied_itself nat_list_cmp_total x

-- between two lists that begin alike all begin so
between : (p x y z : Name) → Begins p x → Begins p z → is_gt (slice_cmp octets_cmp x y) ≡ false → is_gt (slice_cmp octets_cmp y z) ≡ false → Begins p y
between [] x y z hx hz xy yz = tt
between (l ∷ p) (a ∷ x) [] z hx hz xy yz = cc
between (l ∷ p) (a ∷ x) (b ∷ y) (c ∷ z) hx hz xy yz =
    let ac : a ≡ c = sym hx.0 ∙ hz.0 in
    elim (octets_cmp a b) as (λ r. octets_cmp a b ≡ r → is_gt (ordering_then r (slice_cmp octets_cmp x y)) ≡ false → (l ≡ b) × Begins p y) [
      | Less ↦ λ e _.
          let g : octets_cmp b c ≡ Greater = nat_list_cmp_total.antisymm b c ∙ ap ordering_reverse (ap (λ q. octets_cmp q b) (sym ac) ∙ e) in
          let h : true ≡ false = sym (ap (λ q. is_gt (ordering_then q (slice_cmp octets_cmp y z))) g) ∙ yz in cc
      | Equal ↦ λ e h.
          let ab : a ≡ b = exact a b e in
          let bc : octets_cmp b c ≡ Equal = ap (λ q. octets_cmp q c) (sym ab ∙ ac) ∙ self c in
          (hx.0 ∙ ab, between p x y z hx.1 hz.1 h (sym (ap (λ q. is_gt (ordering_then q (slice_cmp octets_cmp y z))) bc) ∙ yz))
      | Greater ↦ λ e h. cc
    ] refl xy
between (l ∷ p) [] y z hx hz xy yz = absurd hx
between (l ∷ p) (a ∷ x) (b ∷ y) [] hx hz xy yz = absurd hz

least : (p x : Name) → Begins p x → is_gt (slice_cmp octets_cmp p x) ≡ false
least [] [] h = refl
least [] (x ∷ xs) h = refl
least (l ∷ p) [] h = absurd h
least (l ∷ p) (x ∷ xs) h =
    let e : octets_cmp l x ≡ Equal = ap (λ q. octets_cmp q x) h.0 ∙ self x in
    ap (λ q. is_gt (ordering_then q (slice_cmp octets_cmp p xs))) e ∙ least p xs h.1

begins_front : (p t : Name) → Begins p (p ++ t)
begins_front [] t = tt
begins_front (l ∷ p) t = (refl, begins_front p t)

rest_of : (p x : Name) → Begins p x → (t : Name) × (x ≡ p ++ t)
rest_of [] x h = (x, refl)
rest_of (l ∷ p) [] h = absurd h
rest_of (l ∷ p) (y ∷ x) h = let (t, e) = rest_of p x h.1 in (t, λ i. sym h.0 i ∷ e i)

same_is : (m n : Name) → (same m n ≡ true → low m ≡ low n) × (low m ≡ low n → same m n ≡ true)
same_is m n = pointwise_decides bytes_eq-Decides (low m) (low n)

or_split : (s t : Bool) → (s || t) ≡ true → (s ≡ true) ⊎ (t ≡ true)
or_split true t h = inl refl
or_split false t h = inr h

or_left : (s t : Bool) → s ≡ true → (s || t) ≡ true
or_left true t h = refl
or_left false t h = cc

or_right : (s t : Bool) → t ≡ true → (s || t) ≡ true
or_right true t h = refl
or_right false t h = h

-- a name at or below another ends with its labels
ends : (b n : Name) → at_or_above b n ≡ true → (k : Name) × (low n ≡ k ++ low b)
ends b [] h = ([], sym ((same_is b []).0 h))
ends b (l ∷ n) h = elim (or_split (same b (l ∷ n)) (at_or_above b n) h) [
  | inl s ↦ ([], sym ((same_is b (l ∷ n)).0 s))
  | inr r ↦ let (k, e) = ends b n r in (str_to_ascii_lowercase l ∷ k, ap (λ m. str_to_ascii_lowercase l ∷ m) e)
]

at_end : (b n k : Name) → low n ≡ k ++ low b → at_or_above b n ≡ true
at_end b [] [] e = (same_is b []).1 (sym e)
at_end b [] (x ∷ k) e = cc
at_end b (l ∷ n) [] e = or_left (same b (l ∷ n)) (at_or_above b n) ((same_is b (l ∷ n)).1 (sym e))
at_end b (l ∷ n) (x ∷ k) e = or_right (same b (l ∷ n)) (at_or_above b n) (at_end b n k (cc))

below_begins : (b n : Name) → at_or_above b n ≡ true → Begins (from_root b) (from_root n)
below_begins b n h =
    let (k, e) = ends b n h in
    let f : from_root n ≡ from_root b ++ reverse k = ap reverse e ∙ reverse-append k (low b) in
    rw f (begins_front (from_root b) (reverse k))

begins_below : (b n : Name) → Begins (from_root b) (from_root n) → at_or_above b n ≡ true
begins_below b n h =
    let (t, e) = rest_of (from_root b) (from_root n) h in
    at_end b n (reverse t) (sym (reverse-reverse (low n)) ∙ ap reverse e ∙ reverse-append (from_root b) t ∙ ap (λ m. reverse t ++ m) (reverse-reverse (low b)))

pub apex_first : (apex n : Name) → IsTrue (at_or_above apex n) → is_gt (name_cmp apex n) ≡ false
apex_first apex n h = least (from_root apex) (from_root n) (below_begins apex n h)

pub interval : (apex a n b : Name) → IsTrue (at_or_above apex a) → IsTrue (at_or_above apex b) → is_gt (name_cmp a n) ≡ false → is_gt (name_cmp n b) ≡ false → IsTrue (at_or_above apex n)
interval apex a n b ha hb an nb =
    begins_below apex n (between (from_root apex) (from_root a) (from_root n) (from_root b) (below_begins apex a ha) (below_begins apex b hb) an nb)
