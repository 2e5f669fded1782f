-- Items taken by ascending places are those of a list that pass.
use Rattle.std.proofs.Common.{◌≡◌, ◌⊎◌, ℕ, zero, suc, ◌+◌, ◌-◌, ◌<◌, ◌≤◌, Bool, true, false, ◌||◌, List, [], ◌∷◌, ◌++◌, Option, Some, None, inl, inr, refl, sym, ap, subst, ◌∙◌, map, length, take, get_or, add-zero, arith}
use Rattle.std.specs.Prelude.{nat_eq, nat_lt}
use Rattle.std.specs.List.{AllByRecursion, filter}
use Rattle.std.proofs.lemmas.Bool.{eq-eqb, eqb-true, false≢true, lt-ltb, ltb-true, ne_eqb, or_cases}
use Rattle.std.proofs.lemmas.List.{append-nil, get_or_default, map-append, take_all}
use Rattle.std.proofs.lemmas.List.Folds.{list_any-append}
use Rattle.answer_terms.specs.GroupView.{Adds, GroupView, Presents}
use Rattle.answer_terms.specs.Served.{ServedRrset}
use Rattle.answer_zone_records.specs.ChainPlaces.{AreAt, IsNextPlace, is_among, is_less}
use Rattle.answer_zone_records.proofs.ZoneGroups.{step}
use Rattle.answer_zone_records.proofs.ZoneLinks.{adds_one, adds_then}

-- a place of some that are all in range is in range
pub within_among : (n : ℕ) (ks : List ℕ) (k : ℕ) → AllByRecursion (λ k. k < n) ks → is_among ks k ≡ true → k < n
within_among n [] k h e = absurd (false≢true e)
within_among n (j ∷ ks) k h e = elim (or_cases (nat_eq k j) (is_among ks k) e) [
  | inl s ↦ let is : k ≡ j = eqb-true k j s in let below : j < n = h.0 in omega arith
  | inr i ↦ within_among n ks k h.1 i
]

module _ {A : Type 0} (p : A → Bool) (xs : List A) (ks : List ℕ) (at : AreAt p xs ks) where
  -- none passes up to another place
  jump : (d : A) (n bound : ℕ) → bound + n ≤ length xs → ((k : ℕ) → bound ≤ k → k < bound + n → is_among ks k ≡ false) → filter p (take (bound + n) xs) ≡ filter p (take bound xs)
  jump d zero bound h none = ap (λ k. filter p (take k xs)) (add-zero bound)
  jump d (suc n) bound h none =
      let i : ℕ = bound + n in
      let r : A = get_or xs i d in
      let inside : i < length xs = omega arith in
      let is : r ≡ get_or xs i r = get_or_default xs i d r inside in
      let off : p r ≡ false = at i r inside is ∙ none i (omega arith) (omega arith) in
      let next : bound + suc n ≡ i + 1 = omega arith in
      ap (λ k. filter p (take k xs)) next
      ∙ step p xs i r false inside is off
      ∙ append-nil (filter p (take i xs))
      ∙ jump d n bound (omega arith) (λ k a b. none k a (omega arith))

  jump_to : (d : A) (bound place : ℕ) → bound ≤ place → place ≤ length xs → ((k : ℕ) → bound ≤ k → k < place → is_among ks k ≡ false) → filter p (take place xs) ≡ filter p (take bound xs)
  jump_to d bound place b h none =
      let whole : bound + (place - bound) ≡ place = omega arith in
      ap (λ k. filter p (take k xs)) (sym whole)
      ∙ jump d (place - bound) bound (omega arith) (λ k a c. none k a (omega arith))

  -- the next one
  pub picked : (bound place : ℕ) (x : A) → place < length xs → x ≡ get_or xs place x → IsNextPlace ks bound (Some place) → filter p (take (place + 1) xs) ≡ filter p (take bound xs) ++ x ∷ []
  picked bound place x inside is n =
      step p xs place x true inside is (at place x inside is ∙ n.1)
      ∙ ap (λ ys. ys ++ x ∷ []) (jump_to x bound place n.0 (omega arith) n.2)

  -- none is left
  pub rest : (bound : ℕ) → bound ≤ length xs → IsNextPlace ks bound None → filter p xs ≡ filter p (take bound xs)
  rest bound h none = go xs refl
    where
      go : (ys : List A) → xs ≡ ys → filter p xs ≡ filter p (take bound xs)
      go [] e =
          let short : length xs ≤ bound = subst (λ zs. length zs ≤ bound) (sym e) (omega arith) in
          ap (filter p) (sym (take_all bound xs short))
      go (y ∷ ys) e =
          ap (filter p) (sym (take_all (length xs) xs (omega arith)))
          ∙ jump_to y bound (length xs) h (omega arith) (λ k a b. none k a)

  -- ---- RRsets of those so far

  pub adds_picked : (G : A → ServedRrset) (bound place : ℕ) (x : A) (old mid new : List GroupView) (g : GroupView) → place < length xs → x ≡ get_or xs place x → IsNextPlace ks bound (Some place)
      → Adds old mid (map G (filter p (take bound xs))) → Presents g (G x) → new ≡ mid ++ g ∷ [] → Adds old new (map G (filter p (take (place + 1) xs)))
  adds_picked G bound place x old mid new g inside is n before of pushed =
      subst (Adds old new) (sym (ap (map G) (picked bound place x inside is n) ∙ map-append G (filter p (take bound xs)) (x ∷ [])))
      (adds_then old mid new (map G (filter p (take bound xs))) (G x ∷ []) before (adds_one mid new g (G x) of pushed))

  pub adds_rest : (G : A → ServedRrset) (bound : ℕ) (old new : List GroupView) → bound ≤ length xs → IsNextPlace ks bound None → Adds old new (map G (filter p (take bound xs))) → Adds old new (map G (filter p xs))
  adds_rest G bound old new h none a = subst (Adds old new) (ap (map G) (sym (rest bound h none))) a

-- ---- the least place

among_append : (ks : List ℕ) (j k : ℕ) → is_among (ks ++ j ∷ []) k ≡ (is_among ks k || nat_eq k j)
among_append ks j k = list_any-append (nat_eq k) ks (j ∷ []) ∙ last (is_among ks k) (nat_eq k j)
  where
    last : (a b : Bool) → (a || (b || false)) ≡ (a || b)
    last true b = refl
    last false true = refl
    last false false = refl

-- a place that is not among some, nor a further one
neither : (ks : List ℕ) (j k : ℕ) → is_among ks k ≡ false → (k ≡ j → ⊥) → is_among (ks ++ j ∷ []) k ≡ false
neither ks j k h n = among_append ks j k ∙ (λ i. h i || ne_eqb k j n i)

pub none_yet : (bound : ℕ) → IsNextPlace [] bound None
none_yet bound k h = refl

-- one place more, that is passed over
pub passed_place : (ks : List ℕ) (j bound : ℕ) (o : Option ℕ) → IsNextPlace ks bound o → (j < bound) ⊎ (is_less j o ≡ false) → IsNextPlace (ks ++ j ∷ []) bound o
passed_place ks j bound None n h = λ k b. neither ks j k (n k b) (λ e. elim h [ inl l ↦ omega (arith, e) | inr f ↦ false≢true (sym f) ])
passed_place ks j bound (Some m) n h = (
  n.0,
  among_append ks j m ∙ ap (λ b. b || nat_eq m j) n.1,
  λ k b l. neither ks j k (n.2 k b l) (λ e. elim h [
    | inl l ↦ omega (arith, e)
    | inr f ↦ not_less j m f (omega (arith, e))
  ]),
)
  where
    not_less : (j m : ℕ) → nat_lt j m ≡ false → j < m → ⊥
    not_less j m f l = false≢true (sym f ∙ lt-ltb j m l)

-- or that is the least
pub taken_place : (ks : List ℕ) (j bound : ℕ) (o : Option ℕ) → IsNextPlace ks bound o → bound ≤ j → is_less j o ≡ true → IsNextPlace (ks ++ j ∷ []) bound (Some j)
taken_place ks j bound None n b h =
    (b, among_append ks j j ∙ ap (λ x. is_among ks j || x) (eq-eqb j j refl) ∙ or_true (is_among ks j), λ k a l. neither ks j k (n k a) (λ e. omega (arith, e)))
  where
    or_true : (a : Bool) → (a || true) ≡ true
    or_true true = refl
    or_true false = refl
taken_place ks j bound (Some m) n b h =
    let below : j < m = ltb-true j m h in
    (b, among_append ks j j ∙ ap (λ x. is_among ks j || x) (eq-eqb j j refl) ∙ or_true (is_among ks j), λ k a l. neither ks j k (n.2 k a (omega arith)) (λ e. omega (arith, e)))
  where
    or_true : (a : Bool) → (a || true) ≡ true
    or_true true = refl
    or_true false = refl

-- ---- places of several tests

-- what one of two tests passes stands at the places of one of both
pub either_at : {A : Type 0} (p q : A → Bool) (xs : List A) (ks js : List ℕ) → AreAt p xs ks → AreAt q xs js → AreAt (λ x. p x || q x) xs (ks ++ js)
either_at p q xs ks js a b k x inside is = (λ i. a k x inside is i || b k x inside is i) ∙ sym (list_any-append (nat_eq k) ks js)

pub none_at : {A : Type 0} (xs : List A) → AreAt (λ x. false) xs []
none_at xs k x inside is = refl
